use Rattle.std.proofs.Common.{◌≡◌, ◌++◌, length}
use Rattle.std.specs.List.{concat}
use Rattle.object_cache.specs.Pieces.{in_order}
use Rattle.object_cache.proofs.cursor.first_piece.Given as goal

abbrev pub invariant-turning : goal.invariant-turning
invariant-turning l = l.first ++ concat (in_order l.block l.others) ≡ l.front ++ concat (in_order l.block l.rest)

abbrev pub decreases-turning : goal.decreases-turning
decreases-turning l = length l.others
