use Rattle.rehearsal.proofs.Runs.{sent_out, preprocessed, compiled}
use Rattle.rehearsal.proofs.workload_runs.runs_of_jobs.Goals as goal

pub returns-clause-sent : goal.returns-clause-sent
returns-clause-sent c = sent_out

pub returns-clause-preprocessed : goal.returns-clause-preprocessed
returns-clause-preprocessed c = preprocessed c.one_file_for_each_job.ensures

pub returns-clause-compiled : goal.returns-clause-compiled
returns-clause-compiled c = compiled c.one_file_for_each_job.ensures
