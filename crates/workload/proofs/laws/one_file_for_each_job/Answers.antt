use Rattle.workload.proofs.Filing.{one_file}
use Rattle.workload.proofs.laws.one_file_for_each_job.Goals as goal

pub returns : goal.returns
returns c = one_file
