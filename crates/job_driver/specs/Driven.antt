-- What all workers did: reports that, with the history of the slots, are a run of the farm.
use Rattle.std.specs.Prelude.{◌≡◌, ℕ, ◌<◌, ◌≤◌, false, IsTrue, List, [], ◌∷◌, ◌++◌, length, filter, nat_eq, slice_index, slice_index_or}
use Rattle.std.specs.Prelude.{Some, None}
use Rattle.std.specs.List.{flat_map}
use Rattle.slot_table.specs.declared.limits.Limits.{Limits}
use Rattle.slot_table.specs.declared.state.SlotState.{SlotState}
use Rattle.slot_table.specs.declared.calls.CallEntry.{CallEntry}
use Rattle.slot_table.specs.declared.calls.SlotCall.TheVariants.{Draw}
use Rattle.slot_table.specs.declared.calls.SlotReply.TheVariants.{Drawn}
use Rattle.slot_table.specs.Limits.{AreValid}
use Rattle.slot_table.specs.History.{entry, Holding, count_at, outstanding, state_after, calls_by}
use Rattle.edge_traits.specs.Keepers.{IsIdle}
use Rattle.edge_traits.specs.Deeds.{runs_in, fetches_in, exchanges_in, puts_in, moments_in, put, DidIn, MayAll}
use Rattle.edge_traits.specs.Kits.{KitView}
use Rattle.edge_traits.specs.Told.{Grew, SameRelation, SameRelation3}
use Rattle.farm_machine.specs.declared.reports.Event.{Event}
use Rattle.farm_machine.specs.declared.reports.Report.{Report}
use Rattle.edge_traits.specs.declared.entries.Put.{Put}
use Rattle.farm_machine.specs.Acts.{Act, Did, Entries, deeds_of}
use Rattle.farm_machine.specs.Causes.{KitLater}
use Rattle.farm_machine.specs.Devices.{Devices}
use Rattle.farm_machine.specs.Farm.{wanted, farm_of}
use Rattle.farm_machine.specs.Honest.{AllRan}
use Rattle.farm_machine.specs.Jobs.{Job, may_be_sent}
use Rattle.farm_machine.specs.Machine.{FarmRun}
use Rattle.farm_machine.specs.Moments.{AreMoments}
use Rattle.farm_machine.specs.Numbered.{numbered, no_places, untimed}
use Rattle.farm_machine.specs.Reading.{AreRead}
use Rattle.farm_machine.specs.Weave.{Reports, Agrees, weave}
use Rattle.course_laws.specs.Laws.{PutsLast}
use Rattle.job_run.specs.Gives.{LeavesAlone}
use Rattle.job_run.specs.Courses.{IsJobCourse}
use Rattle.job_driver.specs.Works.{AreCaused, CountsTell}

-- the reports of one worker, in the order of the jobs
abbrev pub reports_by : ℕ → List Report → List Report
reports_by worker reports = filter (λ report. nat_eq report.worker worker) reports

abbrev pub events_of : List Report → List Event
events_of reports = flat_map (λ report. report.events) reports

-- the entries that acts add, each list in their order
abbrev pub entries_of : List Act → Entries
entries_of acts = record {
  runs = runs_in (deeds_of acts);
  fetches = fetches_in (deeds_of acts);
  exchanges = exchanges_in (deeds_of acts);
  puts = puts_in (deeds_of acts);
}

-- what the jobs of these reports did, job after job
abbrev pub acts_by : Reports → List Report → List Act
acts_by read reports = flat_map (λ report. read.acts report.number) reports

-- the puts of the jobs of these reports, job after job
abbrev pub puts_by : Reports → List Report → List Put
puts_by read reports = puts_in (deeds_of (acts_by read reports))

-- The jobs of these reports, one after another, each from where the job before it left the kit. Of what the kit shows between two jobs this
-- binds the counts only; its lists and files may be any there.
abbrev pub CountsOf : (ℕ → Job) → Reports → List Report → KitView → KitView → Type 0
CountsOf jobs read [] old new = new ≡ old
CountsOf jobs read (report ∷ reports) old new =
    (mid : KitView) × CountsTell (jobs report.number) (read.acts report.number) report.end old mid × CountsOf jobs read reports mid new

-- no host has more slots given out than its limit, and this machine no more than its local slots
pub record AreWithinLimits {h : ℕ} (l : Limits h) (out : List Holding) : Type 0 where
  pub hosts : (host : ℕ) → host < l.count → count_at (Some host) out ≤ slice_index l.limit host
  pub local : count_at None out ≤ l.local_slots

-- the last of these calls of a worker is a draw that was answered by no job
pub record DrewToTheEnd (worker : ℕ) (calls : List CallEntry) : Type 0 where
  pub before : List CallEntry
  pub last : calls ≡ before ++ entry worker Draw (Drawn None) ∷ []

-- A worker did jobs with this kit, until a draw was answered by no job.
pub record KitDid {K : Type 0} (d : Devices K) (period worker : ℕ) (read : Reports) (reports : List Report) (entries : Entries)
    (calls : List CallEntry) (old new : K) : Type 0 where
  -- All that it did is one list of acts: those of its jobs, job after job, and looks at the clock.
  pub acts : List Act
  pub of_jobs : untimed acts ≡ acts_by read (reports_by worker reports)
  -- Its deeds are the new entries of the kit's lists, in order, and no file changed but by its puts.
  pub did : DidIn (d.shows old) (d.shows new) (deeds_of acts)
  -- The events of the worker's reports, report after report, name each of these entries once, and nothing else but its calls on the slots.
  pub named : events_of (reports_by worker reports) ≡ numbered no_places acts
  pub entries_are : entries ≡ entries_of acts
  pub drew : DrewToTheEnd worker calls
  -- The moments that these calls name are those that the clock gave.
  pub moments : AreMoments period calls (moments_in (deeds_of acts))
  -- With a period a host is not used for that long after each exchange with which something went wrong.
  pub leaves : LeavesAlone period acts
  -- if the exchanges are told, peers gave what peers may give
  pub may : IsTrue (d.shows new).dialer.exchanges.known → MayAll (d.peers old) (exchanges_in (deeds_of acts))
  -- programs left what programs may leave
  pub ran : AllRan (d.programs old) acts
  -- The station's counts rose by exactly the number of the jobs that failed by it, and no more jobs failed by another device than its counts
  -- rose.
  pub caused : AreCaused (reports_by worker reports) (d.shows old) (d.shows new)
  -- no count fell
  pub later : KitLater (d.shows old) (d.shows new)
  -- no put is pending
  pub idle : IsIdle (d.shows new).keeper
  -- its peers and programs may give and leave what they might before
  pub peers : SameRelation (d.peers old) (d.peers new)
  pub programs : SameRelation3 (d.programs old) (d.programs new)

-- All jobs were done by this many workers, one for each of the first kits, over slots of these limits. What every such run means is the
-- law `run_means`.
pub record JobsRan {K : Type 0} (d : Devices K) (l : Limits 16) (jobs : ℕ → Job) (period workers : ℕ) (reports : List Report)
    (history : List CallEntry) (last : SlotState 16) (old new : List K) : Type 0 where
  pub valid : AreValid l
  -- There is one report for each job, in the order of the jobs, which is read by its worker's new entries.
  pub entries : ℕ → Entries
  pub read : Reports
  pub are_read : AreRead l entries reports read
  -- each is by one of the workers
  pub by_workers : (j : ℕ) → j < l.jobs → read.worker j < workers
  -- It is a course of its job, with each run and fetch within its bounds. No fault of an exchange is reported as out of memory.
  pub courses : (j : ℕ) → j < l.jobs → IsJobCourse (jobs j) (read.acts j) (read.ends j)
  -- Each put is of the object of a compile of status 0 before it: a host's whole reply to the job's own request, or a run here of its own
  -- words on its own source. It is the job's last act.
  pub delivered : (j : ℕ) (before rest : List Act) (x : Put) → j < l.jobs → read.acts j ≡ before ++ Did (put x) ∷ rest
      → PutsLast (jobs j) before x rest (read.ends j)
  -- a job that may not be sent has no exchange
  pub stays_here : (j : ℕ) → j < l.jobs → may_be_sent (jobs j) ≡ false → exchanges_in (deeds_of (read.acts j)) ≡ []
  -- the calls of the one history of the slots agree with the reports
  pub agrees : Agrees l read (wanted l) history
  -- what is woven of both is a run of the farm
  pub run : FarmRun (farm_of l jobs) l (weave history read)
  -- the slots are those that the history leaves
  pub last_is : last ≡ state_after l history
  -- at no moment has a host more slots given out than its limit, or this machine more than its local slots
  pub never_above : (front rest : List CallEntry) → history ≡ front ++ rest → AreWithinLimits l (outstanding front)
  -- at the end all are back
  pub back : outstanding history ≡ []
  -- nobody but the workers called
  pub others : (caller : ℕ) → workers ≤ caller → calls_by caller history ≡ []
  -- Each new put of a worker's keeper is a put of exactly one job that this worker did.
  pub puts_are : (worker : ℕ) (other : K) → worker < workers → Grew (d.shows (slice_index_or old worker other)).keeper.puts
      (d.shows (slice_index_or new worker other)).keeper.puts (puts_by read (reports_by worker reports))
  -- Each worker did with its kit what its reports say, and nothing else.
  pub kits : (worker : ℕ) (other : K) → worker < workers
      → KitDid d period worker read reports (entries worker) (calls_by worker history) (slice_index_or old worker other)
      (slice_index_or new worker other)
  -- the kit's counts went on job by job
  pub counts : (worker : ℕ) (other : K) → worker < workers
      → CountsOf jobs read (reports_by worker reports) (d.shows (slice_index_or old worker other))
      (d.shows (slice_index_or new worker other))
  pub same : length new ≡ length old
  -- all other kits are as they were
  pub unused : (place : ℕ) (other : K) → workers ≤ place → place < length old
      → slice_index_or new place other ≡ slice_index_or old place other
