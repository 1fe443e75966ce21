-- The reports of a build, read by the entries of their workers.
use Rattle.std.specs.Prelude.{◌≡◌, ◌↔◌, ℕ, List, [], ◌∷◌, Option, Some, None, length, map, slice_get}
use Rattle.slot_table.specs.declared.limits.Limits.{Limits}
use Rattle.slot_table.specs.declared.calls.CallEntry.{CallEntry}
use Rattle.farm_machine.specs.declared.reports.Event.{Event}
use Rattle.farm_machine.specs.declared.reports.Event.TheVariants.{Took, Gave, GaveBad, Down, TookLocal, GaveLocal}
use Rattle.farm_machine.specs.declared.reports.Report.{Report}
use Rattle.farm_machine.specs.declared.reports.Why5.TheVariants.{Memory}
use Rattle.farm_machine.specs.declared.reports.End.{End}
use Rattle.farm_machine.specs.declared.reports.End.TheVariants.{Failed}
use Rattle.farm_machine.specs.Acts.{SlotEvent, Takes, Gives, GivesBad, FindsDown, TakesLocal, GivesLocal, Met, Entries, ReadsAll}
use Rattle.farm_machine.specs.Machine.{Wants}
use Rattle.farm_machine.specs.Weave.{Reports, Agrees}

-- the slot events among the events of a report, which need no entries to be read
abbrev pub slots_in : List Event → List SlotEvent
slots_in [] = []
slots_in (Took host ∷ events) = Takes host ∷ slots_in events
slots_in (Gave host ∷ events) = Gives host ∷ slots_in events
slots_in (GaveBad host until ∷ events) = GivesBad host until ∷ slots_in events
slots_in (Down ∷ events) = FindsDown ∷ slots_in events
slots_in (TookLocal ∷ events) = TakesLocal ∷ slots_in events
slots_in (GaveLocal ∷ events) = GivesLocal ∷ slots_in events
slots_in (other ∷ events) = slots_in events

-- the report of job j is read as it is in the reports, its places among the entries of its worker
pub record IsReadAs (entries : ℕ → Entries) (report : Report) (j : ℕ) (r : Reports) : Type 0 where
  pub number : report.number ≡ j
  pub worker : report.worker ≡ r.worker j
  pub acts : ReadsAll (entries report.worker) report.events (r.acts j)
  pub end : report.end ≡ r.ends j

-- one report for each job of the limits, in job order, and each is read so
pub record AreRead {h : ℕ} (l : Limits h) (entries : ℕ → Entries) (list : List Report) (r : Reports) : Type 0 where
  pub one : length list ≡ l.jobs
  pub each : (j : ℕ) (report : Report) → slice_get list j ≡ Some report → IsReadAs entries report j r

abbrev pub worker_at : Option Report → ℕ
worker_at None = 0
worker_at (Some report) = report.worker

abbrev pub slots_at : Option Report → List SlotEvent
slots_at None = []
slots_at (Some report) = slots_in report.events

abbrev pub end_at : Option Report → End
end_at None = Failed Memory
end_at (Some report) = report.end

-- the reports without their deeds, as they can be read without entries
abbrev pub unread : List Report → Reports
unread list = record {
  worker = λ j. worker_at (slice_get list j);
  acts = λ j. map Met (slots_at (slice_get list j));
  ends = λ j. end_at (slice_get list j);
}

-- Whether calls agree with reports that were read can be tested before they are.
abbrev pub ReadingLaw : Type 0
ReadingLaw = (h : ℕ) (l : Limits h) (entries : ℕ → Entries) (list : List Report) (r : Reports) (wants : Wants) (calls : List CallEntry)
    → AreRead l entries list r → Agrees l (unread list) wants calls ↔ Agrees l r wants calls
