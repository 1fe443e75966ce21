use Rattle.std.proofs.Common.{◌≡◌, take}
use Rattle.farm_machine.specs.Weave.{Reports, no_progress, last_progress}
use Rattle.farm_machine.proofs.following.current_job.Given as goal

abbrev pub invariant-loop-entry : goal.invariant-loop-entry
invariant-loop-entry l = (r : Reports) → (last_progress (no_progress r) (take l.entry-index l.before)).current l.caller ≡ l.current
