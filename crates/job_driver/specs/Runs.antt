-- What a run of jobs has beside the jobs: before its workers began, and when they are done.
use Rattle.std.specs.Prelude.{◌≡◌, ℕ, ◌<◌, ◌≤◌, List, [], length, map, slice_index_or, vec_capacity, All}
use Rattle.farm_types.specs.Limits.{workers_max}
use Rattle.farm_types.specs.declared.jobs.JobConfig.{JobConfig}
use Rattle.edge_traits.specs.declared.kit.Kit.{Kit}
use Rattle.edge_traits.specs.Keepers.{IsIdle}
use Rattle.farm_machine.specs.Devices.{Devices}
use Rattle.farm_machine.specs.Usable.{job_at}
use Rattle.farm_cell.specs.declared.cell.Cell.{Cell}
use Rattle.farm_cell.specs.Ends.{AreAllOf}
use Rattle.farm_cell.specs.Passes.{limits_of, mine_of, seen_of}
use Rattle.job_driver.specs.declared.workers.Worker.{Worker}
use Rattle.job_driver.specs.declared.driver.Built.{Built}
use Rattle.job_driver.specs.declared.run.Run.{Run}
use Rattle.job_driver.specs.Driven.{JobsRan}
use Rattle.job_driver.specs.Workers.{kit_of, pass_of, reserve_of, AreSlotsFor, HasRoom, IsReady, HasWorked}

-- Kits for that many workers, at least one: no more than `workers_max` of them, and in none a put is pending.
pub record HasKits {K : Type 0} (d : Devices K) (workers : ℕ) (kits : List K) : Type 0 where
  pub some : 1 ≤ workers
  pub enough : workers ≤ length kits
  pub most : length kits ≤ workers_max
  pub idle : All (λ kit. IsIdle (d.shows kit).keeper) kits

-- workers that have done nothing yet, one for each pass of the cell
pub record AreFresh {D S K C : Type 0} (d : Devices (Kit D S K C)) (c : Cell 16 34) (jobs : ℕ)
    (workers : List (Worker D S K C)) : Type 0 where
  pub passes : AreAllOf c (map pass_of workers)
  pub blank : All (λ p. (seen_of p ≡ []) × (mine_of p ≡ [])) (map pass_of workers)
  pub reserves : All (λ reserve. HasRoom jobs reserve) (map reserve_of workers)
  pub idle : All (λ kit. IsIdle (d.shows kit).keeper) (map kit_of workers)

-- room to take the workers of a run apart, and for the reports of that many jobs
pub record HasRoomToClose {D S K C : Type 0} (jobs : ℕ) (run : Run D S K C) : Type 0 where
  pub passes : run.passes.items ≡ []
  pub reserves : run.reserves.items ≡ []
  pub reports : run.reports.items ≡ []
  pub for_passes : length run.workers.items ≤ vec_capacity run.passes
  pub for_reserves : length run.workers.items ≤ vec_capacity run.reserves
  pub for_reports : jobs ≤ vec_capacity run.reports

-- that many workers, ready to do these jobs
pub record IsOpen {D S K C : Type 0} (d : Devices (Kit D S K C)) (jobs : List (List (List ℕ))) (config : JobConfig) (workers : ℕ)
    (run : Run D S K C) : Type 0 where
  pub many : length run.workers.items ≡ workers
  pub fresh : AreFresh d run.cell (length jobs) run.workers.items
  pub ready : All (λ worker. IsReady d run.cell (length jobs) worker) run.workers.items
  pub slots : AreSlotsFor jobs config (limits_of run.cell)
  pub room : HasRoomToClose (length jobs) run

-- the workers, each on from its state before, did these jobs until there were none
pub record AreDone {D S K C : Type 0} (d : Devices (Kit D S K C)) (jobs : List (List (List ℕ))) (config : JobConfig)
    (before : List (Worker D S K C)) (run : Run D S K C) : Type 0 where
  pub some : 0 < length before
  pub fresh : AreFresh d run.cell (length jobs) before
  pub slots : AreSlotsFor jobs config (limits_of run.cell)
  pub long : length run.workers.items ≡ length before
  pub each : (k : ℕ) (other : Worker D S K C) → k < length before → HasWorked d run.cell (job_at jobs config) config.period
      (slice_index_or before k other) (slice_index_or run.workers.items k other)
  pub room : HasRoomToClose (length jobs) run

-- they did some jobs
pub record HasWorkedOff {D S K C : Type 0} (d : Devices (Kit D S K C)) (run : Run D S K C) : Type 0 where
  pub jobs : List (List (List ℕ))
  pub config : JobConfig
  pub before : List (Worker D S K C)
  pub done : AreDone d jobs config before run

-- All jobs were done by that many workers, over slots of the configuration's hosts for that many jobs.
pub record HasBuilt {K : Type 0} (d : Devices K) (jobs : List (List (List ℕ))) (config : JobConfig) (workers : ℕ) (built : Built)
    (old new : List K) : Type 0 where
  pub ran : JobsRan d built.last.limits (job_at jobs config) config.period workers built.reports (seen_of built.pass) built.last.state old
      new
  pub slots : AreSlotsFor jobs config built.last.limits
