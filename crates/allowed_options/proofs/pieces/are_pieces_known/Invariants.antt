use Rattle.std.proofs.Common.{◌≡◌, drop}
use Rattle.allowed_options.specs.Served.{are_pieces_known}
use Rattle.allowed_options.proofs.pieces.are_pieces_known.Given as goal

abbrev pub invariant-loop-at : goal.invariant-loop-at
invariant-loop-at l = are_pieces_known (drop l.at l.word) ≡ are_pieces_known l.word
