use Rattle.std.proofs.Common.{◌≡◌, ◌++◌, length}
use Rattle.object_cache.proofs.pieces.Pieces.add.Given as goal

abbrev pub invariant-adding : goal.invariant-adding
invariant-adding l = record {
  text : l.self.text ++ l.rest ≡ l.fn.self.text ++ l.bytes;
  used : l.self.used ≡ l.fn.self.used;
  room : l.self.room ≡ l.fn.self.room;
}

abbrev pub decreases-adding : goal.decreases-adding
decreases-adding l = length l.rest
