use Rattle.std.proofs.Common.{◌≡◌, take}
use Rattle.farm_machine.specs.Acts.{took}
use Rattle.farm_machine.specs.Weave.{Reports, no_progress, last_progress}
use Rattle.farm_machine.proofs.following.took.Given as goal

abbrev pub invariant-loop-entry : goal.invariant-loop-entry
invariant-loop-entry l = (r : Reports) → took l.host ((last_progress (no_progress r) (take l.entry-index l.before)).past l.job) ≡ l.found
