use Rattle.std.proofs.Common.{◌≡◌, take}
use Rattle.std.specs.List.{join_with_byte}
use Rattle.word_tests.proofs.lines.line_of.Given as goal

abbrev pub invariant-loop-at : goal.invariant-loop-at
invariant-loop-at l = l.line ≡ join_with_byte 32 (take l.at l.words)
