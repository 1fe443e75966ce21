-- The fault of a job list of jobs.
use Rattle.std.specs.Prelude.{ℕ, List}
use Rattle.job_list.specs.Jobs.{AreJobs, JobFaultStands}
use Rattle.job_list.specs.Texts.{job_lines}
use Rattle.compile_database.specs.declared.fault.DatabaseFault.{DatabaseFault}
use Rattle.compile_database.specs.declared.fault.DatabaseFault.TheVariants.{JobList}

-- the lines of these jobs are a text that has this fault as a job list
abbrev pub IsListFault : List (List (List ℕ)) → DatabaseFault → Type 0
IsListFault jobs (JobList line what) = (list : List ℕ) × AreJobs (job_lines list) jobs × JobFaultStands list line what
IsListFault jobs _ = ⊥
