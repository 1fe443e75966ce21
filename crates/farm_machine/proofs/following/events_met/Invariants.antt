use Rattle.std.proofs.Common.{◌≡◌, ◌≤◌, take}
use Rattle.farm_machine.specs.Checking.{behind}
use Rattle.farm_machine.specs.Weave.{Reports, no_progress, last_progress}
use Rattle.farm_machine.proofs.following.events_met.Given as goal

abbrev pub invariant-loop-entry : goal.invariant-loop-entry
invariant-loop-entry l = (l.met ≤ l.entry-index)
    × ((r : Reports) → (last_progress (no_progress r) (take l.entry-index l.before)).rest l.job ≡ behind l.met (r.acts l.job))
