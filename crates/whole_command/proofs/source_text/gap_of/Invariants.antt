use Rattle.std.proofs.Common.{◌≡◌, ◌+◌, length, not}
use Rattle.std.specs.List.{position_or_len}
use Rattle.whole_command.specs.SourceText.{is_gap}
use Rattle.whole_command.proofs.source_text.gap_of.Given as goal

abbrev pub invariant-passing : goal.invariant-passing
invariant-passing l = record {
  passed : l.at + length l.rest ≡ length l.text;
  place : l.at + position_or_len (λ byte. not (is_gap byte)) l.rest ≡ position_or_len (λ byte. not (is_gap byte)) l.text;
}

abbrev pub decreases-passing : goal.decreases-passing
decreases-passing l = length l.rest
