-- Which jobs can be done, and which configurations can be used.
use Rattle.std.specs.Prelude.{ℕ, ◌<◌, ◌≤◌, List, [], All, length, slice_index_or}
use Rattle.farm_types.specs.Limits.{jobs_max, hosts_max}
use Rattle.farm_types.specs.declared.hosts.Hosts.{Hosts}
use Rattle.farm_types.specs.declared.jobs.JobConfig.{JobConfig}
use Rattle.farm_machine.specs.Jobs.{Job, job_of}

-- the job at a place of the list
abbrev pub job_at : List (List (List ℕ)) → JobConfig → ℕ → Job
job_at jobs config number = job_of (slice_index_or jobs number []) config

-- 1 to `jobs_max` jobs, each with a word
pub record AreDoable (jobs : List (List (List ℕ))) : Type 0 where
  pub some : 1 ≤ length jobs
  pub most : length jobs ≤ jobs_max
  pub words : All (λ words. 0 < length words) jobs

-- at most `hosts_max` entries, each with a slot, and a local slot
pub record AreUsable (hosts : Hosts) : Type 0 where
  pub few : length hosts.list ≤ hosts_max
  pub slots : All (λ host. 1 ≤ host.limit) hosts.list
  pub local_slots : 1 ≤ hosts.local_slots

-- the hosts are usable, and 1 to `hosts_max` of them may be asked for a job
pub record IsUsable (config : JobConfig) : Type 0 where
  pub hosts : AreUsable config.hosts
  pub some : 1 ≤ config.tries
  pub tries : config.tries ≤ hosts_max
