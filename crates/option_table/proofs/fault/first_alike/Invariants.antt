use Rattle.std.proofs.Common.{◌<◌, ℕ}
use Rattle.option_table.specs.Faults.{AreAlike}
use Rattle.option_table.proofs.fault.first_alike.Given as goal

abbrev pub invariant-loop-second : goal.invariant-loop-second
invariant-loop-second l = (i j : ℕ) → j < l.second → ¬ (AreAlike l.rows i j)
