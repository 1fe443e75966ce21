use Rattle.std.proofs.Common.{◌≡◌, length}
use Rattle.cache_tests.proofs.filled.pattern.Given as goal

abbrev pub invariant-loop-at : goal.invariant-loop-at
invariant-loop-at l = length l.bytes ≡ l.at
