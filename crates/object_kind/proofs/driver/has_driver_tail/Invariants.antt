use Rattle.std.proofs.Common.{◌≡◌, drop}
use Rattle.object_kind.specs.Drivers.{has_driver_tail}
use Rattle.object_kind.proofs.driver.has_driver_tail.Given as goal

abbrev pub invariant-loop-at : goal.invariant-loop-at
invariant-loop-at l = has_driver_tail (drop l.at l.program) ≡ has_driver_tail l.program
