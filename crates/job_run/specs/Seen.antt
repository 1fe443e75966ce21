-- What a job's parts see: the job, the devices, and the slots.
use Rattle.std.specs.Prelude.{◌≡◌, ℕ, ◌+◌, ◌<◌, ◌≤◌, Bool, false, List, [], length}
use Rattle.farm_types.specs.Limits.{hosts_max}
use Rattle.farm_types.specs.declared.hosts.Host.{Host}
use Rattle.farm_types.specs.declared.jobs.JobConfig.{JobConfig}
use Rattle.farm_types.specs.declared.request.Request.{Request}
use Rattle.farm_types.specs.Fits.{RequestFits}
use Rattle.arg_strip.specs.Words.{stripped}
use Rattle.edge_traits.specs.declared.kit.Kit.{Kit}
use Rattle.slot_table.specs.declared.calls.CallEntry.{CallEntry}
use Rattle.slot_table.specs.declared.grant.Grant.{Grant}
use Rattle.slot_table.specs.declared.limits.Limits.{Limits}
use Rattle.slot_table.specs.Limits.{is_local}
use Rattle.slot_table.specs.Grants.{host_of}
use Rattle.slot_table.specs.History.{Holding, outstanding}
use Rattle.farm_machine.specs.Devices.{Devices}
use Rattle.farm_machine.specs.Jobs.{Job, job_of, host_at}
use Rattle.job_run.specs.declared.journal.Journal.{Journal}
use Rattle.job_run.specs.declared.task.Command.{Command}
use Rattle.job_run.specs.declared.task.Task.{Task}
use Rattle.job_run.specs.Went.{Seen, seen_as, HasSpare, Spent}

abbrev pub seen : {D S K C : Type 0} → Devices (Kit D S K C) → Kit D S K C → List CallEntry → Journal → Seen
seen d kit mine journal = seen_as (d.shows kit) (d.peers kit) (d.programs kit) mine journal.events.items journal.places

abbrev pub job_asked : Command → Job
job_asked command = job_of command.words.now command.config.now

abbrev pub job_in : Task → Job
job_in task = job_of task.words.now task.config.now

-- at most `hosts_max` entries, and 1 to `hosts_max` of them may be asked for a job
pub record IsAskable (config : JobConfig) : Type 0 where
  pub entries : length config.hosts.list ≤ hosts_max
  pub some : 1 ≤ config.tries
  pub tries : config.tries ≤ hosts_max

-- the request is the job's, and within its limits
pub record IsSent (task : Task) (request : Request) : Type 0 where
  pub words : request.words ≡ stripped task.words.now
  pub fits : RequestFits request.words request.source

-- the slot is of this entry of the job's host list, which isn't this machine
pub record IsElsewhere {h : ℕ} (j : Job) (l : Limits h) (host : Host) (grant : Grant) : Type 0 where
  pub below : host_of grant < l.count
  pub entry : host_at j (host_of grant) ≡ host
  pub remote : host.local ≡ false
  pub elsewhere : is_local l (host_of grant) ≡ false

-- The slots are ready, and exactly these are held. There is room for that many events and, if the caller is the only one, for a call with
-- each event that is left.
pub record IsHolding {G : Type 0} (is_ready : G → Type 0) (alone : Bool) (spare_of : G → ℕ) (mine_of : G → List CallEntry)
    (held : List Holding) (grants : G) (left events : ℕ) : Type 0 where
  pub ready : is_ready grants
  pub out : outstanding (mine_of grants) ≡ held
  pub spare : HasSpare alone left (spare_of grants)
  pub room : events ≤ left

-- the same, and none is held
abbrev pub IsFree : {G : Type 0} → (G → Type 0) → Bool → (G → ℕ) → (G → List CallEntry) → G → ℕ → ℕ → Type 0
IsFree is_ready alone spare_of mine_of grants left events = IsHolding is_ready alone spare_of mine_of [] grants left events

-- The slots are ready and none is held. At most that many events were written down. If the caller is the only one, it spent no more of its
-- calls than events were written down; otherwise it spent no call.
pub record StaysFree {G : Type 0} (is_ready : G → Type 0) (alone : Bool) (spare_of : G → ℕ) (mine_of : G → List CallEntry) (old new : G)
    (left left' events : ℕ) : Type 0 where
  pub ready : is_ready new
  pub none : outstanding (mine_of new) ≡ []
  pub spent : Spent alone left (spare_of old) left' (spare_of new)
  pub room : left ≤ left' + events
