-- The workers of a build.
use Rattle.std.specs.Prelude.{◌≡◌, ℕ, ◌<◌, ◌≤◌, Bool, List, [], All, length, vec_capacity}
use Rattle.farm_types.specs.declared.jobs.JobConfig.{JobConfig}
use Rattle.slot_table.specs.declared.limits.Limits.{Limits}
use Rattle.slot_table.specs.declared.calls.CallEntry.{CallEntry}
use Rattle.slot_table.specs.History.{outstanding}
use Rattle.edge_traits.specs.declared.kit.Kit.{Kit}
use Rattle.edge_traits.specs.Keepers.{KeeperView, IsIdle}
use Rattle.edge_traits.specs.Told.{SameRelation, SameRelation3}
use Rattle.farm_machine.specs.declared.reports.Report.{Report}
use Rattle.farm_machine.specs.Jobs.{Job, AreLimitsOf}
use Rattle.farm_cell.specs.declared.cell.Cell.{Cell}
use Rattle.farm_cell.specs.declared.cell.Pass.{Pass}
use Rattle.farm_cell.specs.Passes.{limits_of, number_of, mine_of, IsPassOf}
use Rattle.job_driver.specs.declared.workers.Worker.{Worker}
use Rattle.job_driver.specs.declared.workers.Reserve.{Reserve}
use Rattle.farm_machine.specs.Devices.{Devices}
use Rattle.job_driver.specs.Jobs.{HasRoomFor}
use Rattle.job_driver.specs.Works.{WorkedOff}

abbrev pub kit_of : {D S K C : Type 0} → Worker D S K C → Kit D S K C
kit_of worker = worker.kit

abbrev pub pass_of : {D S K C : Type 0} → Worker D S K C → Pass
pass_of worker = worker.pass

abbrev pub reserve_of : {D S K C : Type 0} → Worker D S K C → Reserve
reserve_of worker = worker.reserve

abbrev pub reports_on : Reserve → List Report
reports_on reserve = reserve.reports.items

-- room for the events and reports of that many jobs, with no report yet
pub record HasRoom (jobs : ℕ) (reserve : Reserve) : Type 0 where
  pub rooms : jobs ≤ length reserve.rooms.items
  pub none : reserve.reports.items ≡ []
  pub room : jobs ≤ vec_capacity reserve.reports

-- the slots of a configuration's hosts, for these jobs
pub record AreSlotsFor {h : ℕ} (jobs : List (List (List ℕ))) (config : JobConfig) (l : Limits h) : Type 0 where
  pub hosts : AreLimitsOf l config.hosts
  pub number : l.jobs ≡ length jobs

-- A worker may begin. The slots are ready, and it made no call on them. A caller that is the only one has room for the calls of that many
-- jobs. Its reserve has room for that many jobs too, and no put is pending.
pub record CanWork {G : Type 0} (is_ready : G → Type 0) (alone : Bool) (spare_of : G → ℕ) (mine_of : G → List CallEntry) (jobs : ℕ)
    (grants : G) (reserve : Reserve) (keeper : KeeperView) : Type 0 where
  pub ready : is_ready grants
  pub blank : mine_of grants ≡ []
  pub spare : HasRoomFor alone jobs (spare_of grants)
  pub room : HasRoom jobs reserve
  pub pending : IsIdle keeper

-- A worker has finished: the slots are ready, follow what they were, and none is held, and no put is pending.
pub record HasFinished {G : Type 0} (is_ready : G → Type 0) (mine_of : G → List CallEntry) (follows_from : G → G → Type 0) (old new : G)
    (keeper : KeeperView) : Type 0 where
  pub ready : is_ready new
  pub follows : follows_from old new
  pub back : outstanding (mine_of new) ≡ []
  pub pending : IsIdle keeper

-- a worker of the cell that has done nothing yet
pub record IsReady {D S K C : Type 0} (d : Devices (Kit D S K C)) (c : Cell 16 34) (jobs : ℕ) (worker : Worker D S K C) : Type 0 where
  pub pass : IsPassOf c worker.pass
  pub blank : mine_of worker.pass ≡ []
  pub reserve : HasRoom jobs worker.reserve
  pub idle : IsIdle (d.shows worker.kit).keeper

-- workers of the cell, at least one, that have done nothing yet
pub record AreReady {D S K C : Type 0} (d : Devices (Kit D S K C)) (c : Cell 16 34) (jobs : ℕ) (workers : List (Worker D S K C))
    : Type 0 where
  pub some : 0 < length workers
  pub each : All (λ worker. IsReady d c jobs worker) workers

-- a worker did jobs until a draw answered none
pub record HasWorked {D S K C : Type 0} (d : Devices (Kit D S K C)) (c : Cell 16 34) (jobs : ℕ → Job) (period : ℕ)
    (old new : Worker D S K C) : Type 0 where
  pub pass : IsPassOf c new.pass
  pub number : number_of new.pass ≡ number_of old.pass
  pub worked : WorkedOff (d.peers old.kit) (d.programs old.kit) jobs period (limits_of c) (number_of old.pass)
      (reports_on new.reserve) (mine_of new.pass) (d.shows old.kit) (d.shows new.kit)
  pub back : outstanding (mine_of new.pass) ≡ []
  pub idle : IsIdle (d.shows new.kit).keeper
  pub peers : SameRelation (d.peers old.kit) (d.peers new.kit)
  pub programs : SameRelation3 (d.programs old.kit) (d.programs new.kit)
