use Rattle.std.proofs.Common.{◌≡◌, drop}
use Rattle.allowed_options.specs.Folders.{stays_below}
use Rattle.allowed_options.proofs.folders.stays_below.Given as goal

abbrev pub invariant-loop-at : goal.invariant-loop-at
invariant-loop-at l = stays_below (drop l.at l.path) ≡ stays_below l.path
