-- What one worker did with its kit: jobs, one after another.
use Rattle.std.specs.Prelude.{◌≡◌, ℕ, ◌+◌, ◌≤◌, Bool, true, false, IsTrue, List, [], ◌∷◌, ◌++◌, map, count_by, None}
use Rattle.slot_table.specs.declared.limits.Limits.{Limits}
use Rattle.slot_table.specs.declared.calls.CallEntry.{CallEntry}
use Rattle.slot_table.specs.declared.calls.SlotCall.TheVariants.{Draw}
use Rattle.slot_table.specs.declared.calls.SlotReply.TheVariants.{Drawn}
use Rattle.slot_table.specs.History.{entry}
use Rattle.edge_traits.specs.declared.cause.Cause.TheVariants.{Dial}
use Rattle.edge_traits.specs.Causes.{RoseBy, RoseJust}
use Rattle.edge_traits.specs.Deeds.{exchanges_in, moments_in, DidIn, MayAll}
use Rattle.edge_traits.specs.Kits.{KitView}
use Rattle.farm_machine.specs.declared.reports.Why5.TheVariants.{Station, Put, Broke, Fetch}
use Rattle.farm_machine.specs.declared.reports.End.{End}
use Rattle.farm_machine.specs.declared.reports.End.TheVariants.{Failed}
use Rattle.farm_machine.specs.declared.reports.Places.{Places}
use Rattle.farm_machine.specs.declared.reports.Report.{Report}
use Rattle.farm_machine.specs.Acts.{Act, deeds_of}
use Rattle.farm_machine.specs.Causes.{HasEndCause, StationStands, KitLater}
use Rattle.farm_machine.specs.Farm.{wanted}
use Rattle.farm_machine.specs.Honest.{Peers, Programs, AllRan}
use Rattle.farm_machine.specs.Jobs.{Job, source_name}
use Rattle.farm_machine.specs.Moments.{AreMoments}
use Rattle.farm_machine.specs.Numbered.{numbered, advanced, no_places, untimed}
use Rattle.farm_machine.specs.Own.{DoneJob, Each, DoesJobs}
use Rattle.job_run.specs.Gives.{LeavesAlone}
use Rattle.job_run.specs.Stands.{KeeperStands, FetchEnds}
use Rattle.job_run.specs.Courses.{IsJobCourse}

-- a job without its looks at the clock, which are no acts of a course
abbrev pub untimed_job : DoneJob → DoneJob
untimed_job job = record { number = job.number; acts = untimed job.acts; end = job.end }

-- the acts of all jobs, one job after another
abbrev pub all_acts : List DoneJob → List Act
all_acts [] = []
all_acts (job ∷ jobs) = job.acts ++ all_acts jobs

-- the report says of the job, its deeds numbered on from these places
pub record IsReportOf (by_worker : ℕ) (at : Places) (job : DoneJob) (report : Report) : Type 0 where
  pub number : report.number ≡ job.number
  pub worker : report.worker ≡ by_worker
  pub events : report.events ≡ numbered at job.acts
  pub end : report.end ≡ job.end

-- the reports are those of the jobs, the deeds of each numbered on from where those before it ended
abbrev pub AreReportsOf : ℕ → Places → List DoneJob → List Report → Type 0
AreReportsOf worker at [] [] = Unit {0}
AreReportsOf worker at [] (report ∷ reports) = ⊥
AreReportsOf worker at (job ∷ jobs) [] = ⊥
AreReportsOf worker at (job ∷ jobs) (report ∷ reports) = IsReportOf worker at job report
    × AreReportsOf worker (advanced at job.acts) jobs reports

abbrev pub is_station_failure : End → Bool
is_station_failure (Failed Station) = true
is_station_failure end = false

abbrev pub is_keeper_failure : End → Bool
is_keeper_failure (Failed Put) = true
is_keeper_failure (Failed Fetch) = true
is_keeper_failure end = false

abbrev pub is_put_failure : End → Bool
is_put_failure (Failed Put) = true
is_put_failure end = false

abbrev pub is_fetch_failure : End → Bool
is_fetch_failure (Failed Fetch) = true
is_fetch_failure end = false

abbrev pub is_dial_failure : End → Bool
is_dial_failure (Failed (Broke host Dial)) = true
is_dial_failure end = false

-- how many of the reports end so
abbrev pub ends_so : (End → Bool) → List Report → ℕ
ends_so is reports = count_by (λ report. is report.end) reports

-- two counts together rose by at least this number
pub record RoseTogether (number a a' b b' : ℕ) : Type 0 where
  pub first : ℕ
  pub second : ℕ
  pub enough : number ≤ first + second
  pub rose : RoseBy first a a'
  pub rose_too : RoseBy second b b'

-- Two counts together rose by exactly this number. One that is at the greatest u64 counts as risen, by any.
pub record RoseInAll (number a a' b b' : ℕ) : Type 0 where
  pub first : ℕ
  pub second : ℕ
  pub all : number ≡ first + second
  pub rose : RoseJust first a a'
  pub rose_too : RoseJust second b b'

-- a count rose by no more than this number
pub record RoseUpTo (number before now : ℕ) : Type 0 where
  pub by : ℕ
  pub most : by ≤ number
  pub rose : RoseJust by before now

-- As many runs failed or gave too much as jobs failed by the station: its counts rose by exactly that number. Which jobs' runs these were
-- isn't said. The keeper's overruns rose by no more than the jobs that failed by a fetch. No more jobs failed by the keeper or the
-- dialer than their counts rose together. Puts have a bound of their own, since no overrun fails one.
pub record AreCaused (reports : List Report) (old new : KitView) : Type 0 where
  pub station : RoseInAll (ends_so is_station_failure reports) old.station.faults new.station.faults old.station.overruns
      new.station.overruns
  pub missing : RoseUpTo (ends_so is_fetch_failure reports) old.keeper.overruns new.keeper.overruns
  pub keeper : RoseTogether (ends_so is_keeper_failure reports) old.keeper.faults new.keeper.faults old.keeper.overruns new.keeper.overruns
  pub puts : RoseBy (ends_so is_put_failure reports) old.keeper.faults new.keeper.faults
  pub dialer : RoseBy (ends_so is_dial_failure reports) old.dialer.faults new.dialer.faults

-- What a job did to the counts of its kit, by its end. A failure of a device goes with a rise of that device's count; by one of the
-- station exactly one count rose, by one. If the job ends otherwise, also if memory ran out, the counts of its station stay, and
-- those of its keeper as `run_job` says.
pub record CountsTell (j : Job) (acts : List Act) (end : End) (old new : KitView) : Type 0 where
  pub cause : HasEndCause end old new
  pub station : StationStands end old.station new.station
  pub keeper : KeeperStands end acts old.keeper new.keeper
  pub fetch : FetchEnds (source_name j) end acts old.keeper new.keeper
  pub later : KitLater old new

-- Jobs, one after another, each from where the job before it left the kit. Of what the kit shows between two jobs this binds the counts.
abbrev pub CountsGoOn : (ℕ → Job) → List DoneJob → KitView → KitView → Type 0
CountsGoOn jobs [] old new = new ≡ old
CountsGoOn jobs (job ∷ done) old new = (mid : KitView) × CountsTell (jobs job.number) (untimed job.acts) job.end old mid
    × CountsGoOn jobs done mid new

-- A worker did jobs, one after another, and all that it did is one list of acts.
pub record Works {h : ℕ} (peers : Peers) (programs : Programs) (jobs : ℕ → Job) (period : ℕ) (l : Limits h) (worker : ℕ)
    (reports : List Report) (calls : List CallEntry) (old new : KitView) : Type 0 where
  pub done : List DoneJob
  -- the reports' events name the new entries, counted from 0 on
  pub reported : AreReportsOf worker no_places done reports
  -- Each job is a course of its command, with each run and fetch within its bounds. No fault of an exchange is reported as out of memory.
  pub courses : Each (λ job. IsJobCourse (jobs job.number) (untimed job.acts) job.end) done
  -- the calls are those of its jobs
  pub does : DoesJobs (wanted l) worker (map untimed_job done) calls
  -- its deeds are the new entries of the kit's lists
  pub did : DidIn old new (deeds_of (all_acts done))
  -- the moments of the calls are those that the clock gave
  pub moments : AreMoments period calls (moments_in (deeds_of (all_acts done)))
  -- With a period a host is not used for that long after each exchange with which something went wrong.
  pub leaves : LeavesAlone period (all_acts done)
  -- if the exchanges are told, peers gave what peers may give
  pub may : IsTrue new.dialer.exchanges.known → MayAll peers (exchanges_in (deeds_of (all_acts done)))
  -- programs left what programs may leave
  pub ran : AllRan programs (all_acts done)
  -- counts rose with the jobs that failed, in all and job by job
  pub caused : AreCaused reports old new
  pub counts : CountsGoOn jobs done old new
  -- no count fell
  pub later : KitLater old new

-- the worker did jobs until a draw answered none
pub record WorkedOff {h : ℕ} (peers : Peers) (programs : Programs) (jobs : ℕ → Job) (period : ℕ) (l : Limits h) (worker : ℕ)
    (reports : List Report) (mine : List CallEntry) (old new : KitView) : Type 0 where
  pub calls : List CallEntry
  pub works : Works peers programs jobs period l worker reports calls old new
  pub last : mine ≡ calls ++ entry worker Draw (Drawn None) ∷ []
