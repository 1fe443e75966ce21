use Rattle.job_list.specs.Jobs.{JobsOf, JobFaultStands}
use Rattle.job_list.proofs.Answering.{gives_value, gives_fault}
use Rattle.job_list.proofs.TextReading.{one_jobs, no_both, one_fault}
use Rattle.job_list.proofs.ReadWords.{answer_words}
use Rattle.job_list.proofs.list.parse.Goals as goal

pub returns-clause-only_list : goal.returns-clause-only_list
returns-clause-only_list c jobs h =
    gives_value (JobsOf c.args.text.now) (JobFaultStands c.args.text.now) (no_both c.args.text.now) (one_jobs c.args.text.now)
    c.read_list.result jobs c.read_list.ensures.list c.read_list.ensures.fault h

pub returns-clause-only_fault : goal.returns-clause-only_fault
returns-clause-only_fault c at fault h =
    gives_fault (JobsOf c.args.text.now) (JobFaultStands c.args.text.now) (no_both c.args.text.now) (one_fault c.args.text.now)
    c.read_list.result at fault c.read_list.ensures.list c.read_list.ensures.fault h

pub returns-clause-within : goal.returns-clause-within
returns-clause-within c = answer_words c.read_list.result c.args.text.now c.read_list.ensures.list
