-- What each stage of a job leads to.
use Rattle.std.specs.Prelude.{◌≡◌, ◌≢◌, ◌⊎◌, ℕ, ◌<◌, ◌&&◌, not, cond, List, [], nat_eq, nat_lt, Result, Ok, Err}
use Rattle.slot_table.specs.declared.limits.Limits.{Limits}
use Rattle.slot_table.specs.declared.mask.Mask.{Mask}
use Rattle.slot_table.specs.Mask.{in_mask}
use Rattle.farm_types.specs.declared.ran.Outcome.{Outcome}
use Rattle.edge_traits.specs.declared.faults.FetchFault.{FetchFault}
use Rattle.edge_traits.specs.Keepers.{KeeperView, IsIdle, IsPending, HasPending, put_entries, Fetched, FetchCause}
use Rattle.edge_traits.specs.FileMaps.{files_after}
use Rattle.edge_traits.specs.Told.{Grew, Became}
use Rattle.reply_stream.specs.Objects.{with_object}
use Rattle.remote_transfer.specs.declared.answers.Landing.{Landing}
use Rattle.remote_transfer.specs.declared.answers.Landing.TheVariants as landing
use Rattle.farm_types.specs.declared.jobs.JobConfig.{JobConfig}
use Rattle.farm_machine.specs.declared.reports.By.{By}
use Rattle.farm_machine.specs.declared.reports.By.TheVariants.{Remote, Here}
use Rattle.farm_machine.specs.declared.reports.Why5.{Why5}
use Rattle.farm_machine.specs.declared.reports.Why5.TheVariants.{Put as NotPut, Broke}
use Rattle.farm_machine.specs.declared.reports.End.TheVariants.{Done, Failed}
use Rattle.farm_machine.specs.Causes.{HasEndCause}
use Rattle.farm_machine.specs.Course.{Tried, is_tried, no_host, or_here, after_broken, At, Start, Send, Locally, Finish, Over}
use Rattle.farm_machine.specs.Jobs.{Job, CanRequest, output_name}
use Rattle.job_run.specs.declared.preparing.Prepared.{Prepared}
use Rattle.job_run.specs.declared.preparing.Prepared.TheVariants as prepared
use Rattle.job_run.specs.declared.step.Asked.{Asked}
use Rattle.job_run.specs.declared.step.Asked.TheVariants as asked
use Rattle.job_run.specs.declared.step.Compiled.{Compiled}
use Rattle.job_run.specs.declared.step.Compiled.TheVariants.{ByHost, OnThisMachine}
use Rattle.job_run.specs.declared.step.Step.{Step}
use Rattle.job_run.specs.declared.step.Step.TheVariants as step
use Rattle.job_run.specs.Failures.{fetch_failure}
use Rattle.job_run.specs.Went.{Seen, WentOn, HasEnded}

-- the source is there, or the job has its end
abbrev pub PreparedIs : {h : ℕ} → Job → Limits h → ℕ → ℕ → Seen → Seen → Prepared → Type 0
PreparedIs j l caller number old new (prepared.Ready source note) = WentOn j l caller number old new Start (Send source note [])
PreparedIs j l caller number old new (prepared.Over end) = HasEnded j l caller number old new Start end

-- the whole file is there, within the bound, and no note; or the job has failed by the fault of a fetch within the bound
abbrev pub FetchedIs : List ℕ → ℕ → KeeperView → KeeperView → Prepared → Type 0
FetchedIs name bound old new (prepared.Ready source note) = Fetched name bound new source × (note ≡ [])
FetchedIs name bound old new (prepared.Over end) =
    (fault : FetchFault) × FetchCause name bound old new fault × (end ≡ Failed (fetch_failure fault))

-- the job is to be compiled here: its place says so, or it is to be sent but its request is past the limits
abbrev pub IsForHere : Job → List ℕ → List ℕ → At → Type 0
IsForHere j source note at = (at ≡ Locally source note) ⊎ ((¬ (CanRequest j source)) × (at ≡ Send source note []))

-- a compile here left this, or the job has failed
abbrev pub LocalIs : {h : ℕ} → Job → Limits h → ℕ → ℕ → Seen → Seen → At → List ℕ → Result Outcome Why5 → Type 0
LocalIs j l caller number old new at note (Ok o) = WentOn j l caller number old new at (Finish Here note o)
LocalIs j l caller number old new at note (Err why) = HasEnded j l caller number old new at (Failed why)

-- What became of the object of a host's whole reply: with status 0 a put of it is pending under this name, and with another status no put
-- is.
pub record IsAtKeeper (o : Outcome) (path object : List ℕ) (keeper : KeeperView) : Type 0 where
  pub pending : o.status ≡ 0 → HasPending keeper path object
  pub idle : o.status ≢ 0 → IsIdle keeper

-- what a compile left, and who did it
abbrev pub outcome_in : Compiled → Outcome
outcome_in (ByHost host o) = o
outcome_in (OnThisMachine o) = o

abbrev pub by_of : Compiled → By
by_of (ByHost host o) = Remote host
by_of (OnThisMachine o) = Here

-- The object of a compile: a host's is at the keeper; that of a compile here is the outcome's own, and no put is pending.
abbrev pub HasObject : Compiled → List ℕ → List ℕ → KeeperView → Type 0
HasObject (ByHost host o) path object keeper = IsAtKeeper o path object keeper
HasObject (OnThisMachine o) path object keeper = (object ≡ o.object) × IsIdle keeper

-- of a host's object a put is pending, and of one that was made here none
abbrev pub CanDeliver : Compiled → KeeperView → Type 0
CanDeliver (ByHost host o) keeper = (o.status ≡ 0 → IsPending keeper) × (o.status ≢ 0 → IsIdle keeper)
CanDeliver (OnThisMachine o) keeper = IsIdle keeper

-- these bytes were put under this name, if the put went well
pub record HasPut {T E : Type 0} (path object : List ℕ) (old new : KeeperView) (result : Result T E) : Type 0 where
  pub files : Became old.files new.files (files_after old.files.value path object result)
  pub puts : Grew old.puts new.puts (put_entries path object result)

-- The place of a job that was compiled to this object: it is to be finished, except that a host's status other than 0 is the job's.
abbrev pub compiled_at : Compiled → List ℕ → List ℕ → At
compiled_at (ByHost host o) note object =
    cond (nat_eq o.status 0) (Finish (Remote host) note (with_object o object)) (Over (Done o.status note o.err o.out (Remote host)))
compiled_at (OnThisMachine o) note object = Finish Here note (with_object o object)

-- the job was compiled, and its object is where it is to be
abbrev pub HasCompiled : {h : ℕ} → Job → Limits h → ℕ → ℕ → Seen → Seen → At → List ℕ → Compiled → Type 0
HasCompiled j l caller number old new at note made =
    (object : List ℕ) × WentOn j l caller number old new at (compiled_at made note object)
    × HasObject made (output_name j) object new.kit.keeper

-- what the job does next
abbrev pub StepIs : {h : ℕ} → Job → Limits h → ℕ → ℕ → Seen → Seen → At → List ℕ → List ℕ → Step → Type 0
StepIs j l caller number old new at source note step.Here = WentOn j l caller number old new at (Locally source note)
StepIs j l caller number old new at source note (step.Compiled made) = HasCompiled j l caller number old new at note made
StepIs j l caller number old new at source note (step.Failed why) = HasEnded j l caller number old new at (Failed why)

-- no put is pending but that of a compile
abbrev pub StepIdle : Step → KeeperView → Type 0
StepIdle step.Here keeper = IsIdle keeper
StepIdle (step.Compiled made) keeper = Unit {0}
StepIdle (step.Failed why) keeper = IsIdle keeper

-- the same for a source that is to be sent; `Here` may also mean that its request is past the limits
abbrev pub SentIs : {h : ℕ} → Job → Limits h → ℕ → ℕ → Seen → Seen → List ℕ → List ℕ → Step → Type 0
SentIs j l caller number old new source note step.Here =
    (at : At) × IsForHere j source note at × WentOn j l caller number old new (Send source note []) at
SentIs j l caller number old new source note (step.Compiled made) = HasCompiled j l caller number old new (Send source note []) note made
SentIs j l caller number old new source note (step.Failed why) = HasEnded j l caller number old new (Send source note []) (Failed why)

-- What follows from a host's whole reply. A lost object fails the job. With fallback and retry a status other than 0 means a compile here.
-- Any other reply is the compile's outcome.
abbrev pub step_after : JobConfig → ℕ → Outcome → Landing → Step
step_after config host o landing.Lost = step.Failed NotPut
step_after config host o other =
    cond (not (nat_eq o.status 0) && (config.fallback && config.retry)) step.Here (step.Compiled (ByHost host o))

-- the mask has the entries that were not tried
abbrev pub HasUntried : {h : ℕ} → Limits h → Mask → List Tried → Type 0
HasUntried l mask tried = (i : ℕ) → in_mask mask i ≡ (nat_lt i l.count && not (is_tried i tried))

-- what came of one try, from the job's place: all hosts that are left are down; what the job does next; or the exchange broke
abbrev pub AskedIs : {h : ℕ} → Job → Limits h → ℕ → ℕ → Seen → Seen → At → List ℕ → List ℕ → List Tried → Asked → Type 0
AskedIs j l caller number old new at source note tried asked.Down =
    WentOn j l caller number old new at (or_here j source note (Failed (no_host tried)))
AskedIs j l caller number old new at source note tried (asked.Over next) = StepIs j l caller number old new at source note next
AskedIs j l caller number old new at source note tried (asked.Broke host cause) =
    (host < l.count) × WentOn j l caller number old new at (after_broken j host cause source note tried) × HasEndCause
    (Failed (Broke host cause)) old.kit new.kit

abbrev pub AskedIdle : Asked → KeeperView → Type 0
AskedIdle (asked.Over next) keeper = StepIdle next keeper
AskedIdle other keeper = IsIdle keeper

-- an outcome that is the job's, or the job has failed
abbrev pub CompiledIs : {h : ℕ} → Job → Limits h → ℕ → ℕ → Seen → Seen → At → List ℕ → Result Compiled Why5 → Type 0
CompiledIs j l caller number old new at note (Ok made) = HasCompiled j l caller number old new at note made
CompiledIs j l caller number old new at note (Err why) = HasEnded j l caller number old new at (Failed why)
