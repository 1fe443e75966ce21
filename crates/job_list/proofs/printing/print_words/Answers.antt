use Rattle.job_list.proofs.PrintedLines.{answer_line, answer_one, answer_job, answer_again}
use Rattle.job_list.proofs.printing.print_words.Goals as goal

pub returns-clause-line : goal.returns-clause-line
returns-clause-line c = answer_line c.put_words.result c.args.words.now c.put_words.ensures

pub returns-clause-one : goal.returns-clause-one
returns-clause-one c = answer_one c.put_words.result c.args.words.now c.requires c.put_words.ensures

pub returns-clause-job : goal.returns-clause-job
returns-clause-job c = answer_job c.put_words.result c.args.words.now c.requires c.put_words.ensures

pub returns-clause-again : goal.returns-clause-again
returns-clause-again c = answer_again c.put_words.result c.args.words.now c.requires c.put_words.ensures
