use Rattle.std.proofs.Common.{rules}
use Rattle.allowed_options.specs.Served.{is_known_piece}
use Rattle.allowed_options.proofs.pieces.is_known_piece.Goals as goal

pub returns-then-is_piece_word : goal.returns-then-is_piece_word
unfolding is_known_piece
returns-then-is_piece_word c = search rules

pub returns-then-has_piece_front : goal.returns-then-has_piece_front
unfolding is_known_piece
returns-then-has_piece_front c = search rules

pub returns-else-has_piece_front : goal.returns-else-has_piece_front
unfolding is_known_piece
returns-else-has_piece_front c = search rules
