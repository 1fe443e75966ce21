use Rattle.std.proofs.Common.{◌<◌, ℕ}
use Rattle.option_table.specs.Faults.{AreAlike}
use Rattle.option_table.proofs.fault.alike_before.Given as goal

abbrev pub invariant-loop-first : goal.invariant-loop-first
invariant-loop-first l = (k : ℕ) → k < l.first → ¬ (AreAlike l.rows k l.second)
