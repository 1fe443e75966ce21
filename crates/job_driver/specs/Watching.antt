-- A build that is watched.
use Rattle.std.specs.Prelude.{◌≡◌, ◌≢◌, ◌⊎◌, ℕ, ◌-◌, ◌^◌, ◌<◌, ◌≤◌, Bool, true, List, [], ◌∷◌, length, map, take, replicate, slice_index_or}
use Rattle.std.specs.Prelude.{All, vec_capacity}
use denote.Ref.{MutBor}
use denote.Param.Members.{Shared}
use Rattle.std.specs.Fork.{ChangesEach}
use Rattle.slot_table.specs.declared.limits.Limits.{Limits}
use Rattle.slot_table.specs.declared.state.SlotState.{SlotState}
use Rattle.slot_table.specs.declared.calls.CallEntry.{CallEntry}
use Rattle.edge_traits.specs.Told.{Grew, SameRelation, SameRelation3}
use Rattle.edge_traits.specs.Clocks.{ClockView}
use Rattle.edge_traits.specs.Sinks.{SinkView}
use Rattle.farm_machine.specs.declared.reports.Report.{Report}
use Rattle.farm_machine.specs.Jobs.{Job}
use Rattle.logbook.specs.Pages.{Book}
use Rattle.farm_monitor.specs.declared.ends.Watcher.{Watcher}
use Rattle.farm_monitor.specs.declared.progress.Progress.{Progress}
use Rattle.farm_monitor.specs.Boards.{board_of, board_watched, shown_rows, known_rows}
use Rattle.progress_lines.specs.declared.line_end.LineEnd.{LineEnd}
use Rattle.progress_lines.specs.declared.line_end.LineEnd.TheVariants.{Whole, SinkFault, Memory}
use Rattle.progress_lines.specs.Lines.{last_text}
use Rattle.progress_lines.specs.Counts.{known, AreLooks}
use Rattle.progress_lines.specs.Printed.{LinePrinted, WatchLines, counts_told}
use Rattle.job_driver.specs.declared.workers.Worker.{Worker}
use Rattle.job_driver.specs.declared.marker.Marker.{Marker}
use Rattle.job_driver.specs.declared.beside.Marked.{Marked}
use Rattle.job_driver.specs.declared.watch.Beside.{Beside}
use Rattle.job_driver.specs.declared.watch.Watch.{Watch}
use Rattle.farm_types.specs.declared.jobs.JobConfig.{JobConfig}
use Rattle.farm_cell.specs.Passes.{seen_of}
use Rattle.farm_machine.specs.Devices.{Devices}
use Rattle.farm_machine.specs.Usable.{job_at}
use Rattle.job_driver.specs.declared.driver.Built.{Built}
use Rattle.job_driver.specs.Driven.{reports_by, JobsRan}
use Rattle.job_driver.specs.Marks.{rows_of, HasMarked}
use Rattle.job_driver.specs.Workers.{AreSlotsFor}

abbrev pub worker_of : {D S K C : Type 0} → Marked D S K C → Worker D S K C
worker_of marked = marked.worker

abbrev pub marker_of : {D S K C : Type 0} → Marked D S K C → Marker
marker_of marked = marked.marker

-- the board on which a worker marks
abbrev pub board_marked : Marker → Book
board_marked marker = board_of marker.shower

-- the worker of this marker did the jobs of these reports
abbrev pub HasMarkedOff : Marker → Marker → List Report → Type 0
HasMarkedOff old new reports = HasMarked board_marked (λ m. m.all) (λ m. shown_rows m.shower) old new reports

-- f was called once for each
pub record CalledEach {F T : Type 0} (g : Shared F (ℕ × (MutBor T × Unit {0})) (Unit {0} × (MutBor T × Unit {0}))) (f : F)
    (old new : List T) : Type 0 where
  pub each : ChangesEach g f old new

-- each row was shown, and the watcher knows exactly these
abbrev pub IsTold : Marker → Watcher → Type 0
IsTold marker watcher = (marker.all ≡ true) × (known_rows watcher ≡ shown_rows marker.shower)

-- so it is of all boards
abbrev pub AreTold : List Marker → List Watcher → Type 0
AreTold [] watchers = Unit {0}
AreTold (marker ∷ markers) [] = ⊥
AreTold (marker ∷ markers) (watcher ∷ watchers) = IsTold marker watcher × AreTold markers watchers

-- nothing was shown on this board, and nothing is missing
abbrev pub IsFreshMarker : Marker → Type 0
IsFreshMarker marker = (marker.all ≡ true) × (shown_rows marker.shower ≡ [])

-- boards for that many workers on which nothing was shown, and room to put both together
pub record IsFor {D S K C : Type 0} (workers : ℕ) (beside : Beside D S K C) : Type 0 where
  pub markers : length beside.markers.items ≡ workers
  pub watchers : length beside.watch.watchers.items ≡ workers
  pub boards : map board_marked beside.markers.items ≡ map board_watched beside.watch.watchers.items
  pub fresh : All IsFreshMarker beside.markers.items
  pub unread : known beside.watch.watchers.items ≡ replicate workers []
  pub pairs : beside.pairs.items ≡ []
  pub room : workers ≤ vec_capacity beside.pairs
  pub lines : beside.watch.lines < 1000

-- the boards are back in their places, and still of the same watchers
pub record AreBack {D S K C : Type 0} (beside : Beside D S K C) : Type 0 where
  pub boards : map board_marked beside.markers.items ≡ map board_watched beside.watch.watchers.items
  pub pairs : beside.pairs.items ≡ []

-- the rows on each board are those of its worker's reports, unless a row wasn't shown
abbrev pub AreMarked : List Report → List Marker → Type 0
AreMarked reports markers = (worker : ℕ) (other : Marker) → worker < length markers → (slice_index_or markers worker other).all ≡ true
    → shown_rows (slice_index_or markers worker other).shower
    ≡ rows_of 0 (map (λ report. report.number) (reports_by worker reports))

-- so few watchers and lines that they can be counted
pub record CanPrint {C : Type 0} (watch : Watch C) : Type 0 where
  pub few : length watch.watchers.items < 2 ^ 32
  pub lines : watch.lines < 1000

-- Lines were printed as far as the sink took them, and each says what had been read of the boards at one look, from `first` to `last`.
pub record LinesTell (jobs workers lines : ℕ) (first last : List (List Progress)) (old new : SinkView) (end : LineEnd) : Type 0 where
  pub printed : WatchLines jobs workers 1 lines 0 old new end
  pub looks : AreLooks jobs first (counts_told jobs workers 1 lines 0 old new end printed) last

-- The lines of that many jobs were printed as far as the sink took them. The same boards are watched, and the clock made pauses only.
pub record HasPrinted {C E : Type 0} (clock : C → ClockView) (sink : E → SinkView) (jobs : ℕ) (old new : Watch C) (before after : E)
    (end : LineEnd) : Type 0 where
  pub watchers : map board_watched new.watchers.items ≡ map board_watched old.watchers.items
  pub paused : Grew (clock old.clock).moments (clock new.clock).moments []
  pub printed : LinesTell jobs (length old.watchers.items) old.lines (known old.watchers.items) (known new.watchers.items) (sink before)
      (sink after) end

-- all kits but the last
abbrev pub front : {K : Type 0} → List K → List K
front kits = take (length kits - 1) kits

-- a kit lent its clock for pauses only: its devices did nothing, and its clock gave no moment
pub record Lent {K : Type 0} (d : Devices K) (old new : K) : Type 0 where
  pub dialer : (d.shows new).dialer ≡ (d.shows old).dialer
  pub station : (d.shows new).station ≡ (d.shows old).station
  pub keeper : (d.shows new).keeper ≡ (d.shows old).keeper
  pub clock : Grew (d.shows old).clock.moments (d.shows new).clock.moments []
  pub peers : SameRelation (d.peers old) (d.peers new)
  pub programs : SameRelation3 (d.programs old) (d.programs new)

-- All jobs were done with the kits but the last, as in a build that nobody watches, and the last lent its clock.
pub record WatchedRan {K : Type 0} (d : Devices K) (l : Limits 16) (jobs : ℕ → Job) (period workers : ℕ) (reports : List Report)
    (history : List CallEntry) (last : SlotState 16) (old new : List K) : Type 0 where
  pub ran : JobsRan d l jobs period workers reports history last (front old) (front new)
  pub same : length new ≡ length old
  pub lent : (other : K) → Lent d (slice_index_or old (length old - 1) other) (slice_index_or new (length old - 1) other)

-- All jobs were done so by that many workers, over slots of the configuration's hosts for that many jobs.
pub record HasBuiltWatched {K : Type 0} (d : Devices K) (jobs : List (List (List ℕ))) (config : JobConfig) (workers : ℕ) (built : Built)
    (old new : List K) : Type 0 where
  pub ran : WatchedRan d built.last.limits (job_at jobs config) config.period workers built.reports (seen_of built.pass)
      built.last.state old new
  pub slots : AreSlotsFor jobs config built.last.limits

-- Lines report what was read of the boards, from none of their rows up to these.
abbrev pub LinesTellOf : ℕ → ℕ → ℕ → List (List Progress) → SinkView → SinkView → LineEnd → Type 0
LinesTellOf jobs workers lines rows old new end = LinesTell jobs workers lines (replicate workers []) rows old new end

-- the lines while workers work were cut; or all were printed, and the last one follows, whole or cut
abbrev pub WatchPrinted : ℕ → ℕ → ℕ → List (List Progress) → Bool → SinkView → SinkView → LineEnd → Type 0
WatchPrinted jobs workers lines rows told old new end = ((end ≢ Whole) × LinesTellOf jobs workers lines rows old new end)
    ⊎ ((mid : SinkView) × LinesTellOf jobs workers lines rows old mid Whole × LinePrinted (last_text jobs told) mid new end)

-- the rows on each worker's board are those of its reports: two for each job, when it was drawn and when its report was there
abbrev pub AreRowsOf : ℕ → List Report → List (List Progress) → Type 0
AreRowsOf workers reports rows = (worker : ℕ) → worker < workers
    → slice_index_or rows worker [] ≡ rows_of 0 (map (λ report. report.number) (reports_by worker reports))

-- The lines of a watched build, and what had been read of the boards in the end. If the last line says that all jobs have ended, these
-- are the rows of exactly the reports.
pub record WasWatched (jobs workers lines : ℕ) (reports : List Report) (told : Bool) (old new : SinkView) (end : LineEnd) : Type 0 where
  pub rows : List (List Progress)
  pub of_reports : told ≡ true → AreRowsOf workers reports rows
  pub printed : WatchPrinted jobs workers lines rows told old new end

-- that many workers were watched: the lines, by how many jobs there are
pub record HasWatched {D S K C E : Type 0} (clock : C → ClockView) (sink : E → SinkView) (jobs workers : ℕ) (old new : Beside D S K C)
    (before after : E)
    (end : LineEnd) : Type 0 where
  pub watchers : length new.watch.watchers.items ≡ workers
  pub paused : Grew (clock old.watch.clock).moments (clock new.watch.clock).moments []
  pub printed : LinesTellOf jobs workers old.watch.lines (known new.watch.watchers.items) (sink before) (sink after) end

-- the last line follows if all others were printed
abbrev pub AfterLines : ℕ → LineEnd → Bool → SinkView → SinkView → LineEnd → Type 0
AfterLines jobs Whole told old new end = LinePrinted (last_text jobs told) old new end
AfterLines jobs SinkFault told old new end = (end ≡ SinkFault) × (new ≡ old)
AfterLines jobs Memory told old new end = (end ≡ Memory) × (new ≡ old)
