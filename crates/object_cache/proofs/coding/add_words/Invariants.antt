use Rattle.std.proofs.Common.{◌≡◌, ◌++◌, length}
use Rattle.std.specs.Prelude.{true, nat_lt}
use Rattle.std.specs.List.{flat_map, list_all}
use Rattle.object_cache.specs.Keys.{text_len}
use Rattle.object_cache.specs.Packs.{coded}
use Rattle.object_cache.proofs.coding.add_words.Given as goal

abbrev pub invariant-adding : goal.invariant-adding
invariant-adding l = record {
  short : list_all (λ word. nat_lt (text_len word) 4294967296) l.rest ≡ true;
  text : l.pieces.text ++ flat_map coded l.rest ≡ l.fn.pieces.text ++ flat_map coded l.words;
  used : l.pieces.used ≡ l.fn.pieces.used;
  room : l.pieces.room ≡ l.fn.pieces.room;
}

abbrev pub decreases-adding : goal.decreases-adding
decreases-adding l = length l.rest
