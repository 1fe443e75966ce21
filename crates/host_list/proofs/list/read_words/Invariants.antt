use Rattle.std.proofs.Common.{length, ◌-◌, ◌≤◌}
use Rattle.host_list.specs.Steps.{ReadsUpTo}
use Rattle.host_list.proofs.list.read_words.Given as goal

abbrev pub invariant-loop-word : goal.invariant-loop-word
invariant-loop-word l = record {
  within : l.from ≤ length l.text;
  read : ReadsUpTo l.text l.from l.hosts;
}

abbrev pub decreases-loop-word : goal.decreases-loop-word
decreases-loop-word l = length l.text - l.from
