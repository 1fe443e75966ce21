use Rattle.std.proofs.Common.{length, ◌+◌, ◌-◌, ◌≤◌}
use Rattle.job_list.specs.Steps.{ListsUpTo}
use Rattle.job_list.proofs.list.read_lines.Given as goal

abbrev pub invariant-loop-from : goal.invariant-loop-from
invariant-loop-from l = record {
  high : l.from ≤ length l.text + 1;
  small : l.number ≤ l.from + 1;
  lists : ListsUpTo l.text l.from l.number l.listed;
}

abbrev pub decreases-loop-from : goal.decreases-loop-from
decreases-loop-from l = length l.text + 1 - l.from
