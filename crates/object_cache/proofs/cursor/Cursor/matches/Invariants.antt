use Rattle.std.proofs.Common.{◌≡◌, length, drop, take}
use Rattle.std.specs.Str.{bytes_eq}
use Rattle.object_cache.proofs.cursor.Cursor.matches.Given as goal

abbrev pub invariant-matching : goal.invariant-matching
invariant-matching l = record {
  same : bytes_eq (take (length l.rest) l.self) l.rest ≡ bytes_eq (take (length l.bytes) l.fn.self) l.bytes;
  left : drop (length l.rest) l.self ≡ drop (length l.bytes) l.fn.self;
}

abbrev pub decreases-matching : goal.decreases-matching
decreases-matching l = length l.rest
