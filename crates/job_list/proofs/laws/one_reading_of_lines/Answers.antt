use Rattle.job_list.proofs.Cutting.{one_words, words_no_fault, one_line_fault}
use Rattle.job_list.proofs.EveryLine.{every_line}
use Rattle.job_list.proofs.laws.one_reading_of_lines.Goals as goal

pub returns-clause-some : goal.returns-clause-some
returns-clause-some c = every_line

pub returns-clause-words : goal.returns-clause-words
returns-clause-words c = one_words

pub returns-clause-apart : goal.returns-clause-apart
returns-clause-apart c = words_no_fault

pub returns-clause-fault : goal.returns-clause-fault
returns-clause-fault c = one_line_fault
