use Rattle.std.proofs.Common.{length, ◌-◌, ◌≤◌, drop, slice_range}
use Rattle.host_list.specs.HostWords.{EndsPart, SpellsParts}
use Rattle.host_list.proofs.parts.read_parts.Given as goal

abbrev pub invariant-loop-at : goal.invariant-loop-at
invariant-loop-at l = record {
  low : l.from ≤ l.at;
  high : l.at ≤ length l.word;
  ends : EndsPart (drop l.at l.word);
  right : SpellsParts l.parts.port l.parts.limit (slice_range l.word l.from l.at);
}

abbrev pub decreases-loop-at : goal.decreases-loop-at
decreases-loop-at l = length l.word - l.at
