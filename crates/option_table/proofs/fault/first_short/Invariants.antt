use Rattle.std.proofs.Common.{◌<◌, ◌≤◌, ℕ, length}
use Rattle.option_table.specs.Rows.{row_at}
use Rattle.option_table.proofs.fault.first_short.Given as goal

abbrev pub invariant-loop-at : goal.invariant-loop-at
invariant-loop-at l = (k : ℕ) → k < l.at → 2 ≤ length (row_at l.rows k).spelling
