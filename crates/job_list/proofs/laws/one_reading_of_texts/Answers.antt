use Rattle.job_list.proofs.EveryText.{every_text}
use Rattle.job_list.proofs.TextReading.{one_jobs, no_both, one_fault}
use Rattle.job_list.proofs.laws.one_reading_of_texts.Goals as goal

pub returns-clause-some : goal.returns-clause-some
returns-clause-some c = every_text

pub returns-clause-list : goal.returns-clause-list
returns-clause-list c = one_jobs

pub returns-clause-apart : goal.returns-clause-apart
returns-clause-apart c = no_both

pub returns-clause-fault : goal.returns-clause-fault
returns-clause-fault c = one_fault
