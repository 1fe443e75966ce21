use Rattle.std.proofs.Common.{◌≡◌, ◌+◌, length}
use Rattle.farmd.proofs.open_doors.Given as goal

abbrev pub invariant-loop : goal.invariant-loop
invariant-loop l = length l.doors.items + 1 ≡ l.counter
