use Rattle.std.proofs.Common.{◌≡◌, drop}
use Rattle.std.specs.Prelude.{slice_get}
use Rattle.farm_machine.specs.Reading.{slots_in}
use Rattle.farm_machine.proofs.following.slot_event_at.Given as goal

abbrev pub invariant-loop-event : goal.invariant-loop-event
invariant-loop-event l = slice_get (slots_in l.events) l.place ≡ slice_get (slots_in (drop l.event-index l.events)) l.left
