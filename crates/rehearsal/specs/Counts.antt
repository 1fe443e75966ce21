-- The two numbers of some reports.
use Rattle.std.specs.Prelude.{ℕ, ◌-◌, ◌≡◌, List, [], length, All, count_by, Option, Some, None, slice_get}
use Rattle.std.specs.List.{sum_by}
use Rattle.edge_traits.specs.declared.entries.Put.{Put}
use Rattle.edge_traits.specs.declared.kit.Kit.{Kit}
use Rattle.edge_memory.specs.declared.clock.MemClock.{MemClock}
use Rattle.farm_machine.specs.declared.reports.Event.{Event}
use Rattle.farm_machine.specs.declared.reports.Event.TheVariants.{Put as PutAt}
use Rattle.farm_machine.specs.declared.reports.End.{End}
use Rattle.farm_machine.specs.declared.reports.End.TheVariants.{Done, Failed}
use Rattle.farm_machine.specs.declared.reports.Report.{Report}
use Rattle.loop_link.specs.declared.dialer.LoopDialer.{LoopDialer}
use Rattle.sample_compiler.specs.declared.station.SampleStation.{SampleStation}
use Rattle.report_text.specs.Pieces.{is_done_well}
use Rattle.rehearsal.specs.declared.numbers.Count.{Count}
use Rattle.rehearsal.specs.declared.keeper.StillKeeper.{StillKeeper}
use Rattle.rehearsal.specs.declared.station.StillStation.{StillStation}
use Rattle.rehearsal.specs.Puts as puts

abbrev pub RehearsalKit : Type 0
RehearsalKit = Kit (LoopDialer SampleStation) StillStation StillKeeper MemClock

-- what each kit's keeper was given, and nothing after the last kit
abbrev pub puts_at : Option RehearsalKit → List Put
puts_at (Some kit) = kit.keeper.puts
puts_at None = []

abbrev pub puts_of : List RehearsalKit → ℕ → List Put
puts_of kits worker = puts_at (slice_get kits worker)

-- the place of a put that an event names
abbrev pub put_place : Event → Option ℕ
put_place (PutAt at) = Some at
put_place event = None

abbrev pub named_put : Option Event → Option ℕ
named_put (Some event) = put_place event
named_put None = None

-- and the last of some events
abbrev pub last_put : List Event → Option ℕ
last_put events = named_put (slice_get events (length events - 1))

abbrev pub len_at : List Put → Option ℕ → ℕ
len_at list (Some at) = puts.put_len_at list at
len_at list None = 0

-- the length of the object that a job put as its last act, and 0 if it put none
abbrev pub report_len : (ℕ → List Put) → Report → ℕ
report_len puts report = len_at (puts report.worker) (last_put report.events)

-- a job was done, with any status
abbrev pub IsDone : End → Type 0
IsDone (Done status note err out by) = Unit {0}
IsDone (Failed why) = ⊥

-- all jobs were done, and these are the numbers; or one of them failed
abbrev pub CountsDone : (ℕ → List Put) → List Report → Option Count → Type 0
CountsDone puts reports (Some count) =
    All (λ report. IsDone report.end) reports
    × (count.done ≡ count_by (λ report. is_done_well report.end) reports)
    × (count.bytes ≡ sum_by (report_len puts) reports)
CountsDone puts reports None = (report : Report) × (at : ℕ) × (slice_get reports at ≡ Some report) × (IsDone report.end → ⊥)
