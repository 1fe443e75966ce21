use Rattle.std.proofs.Common.{◌≡◌, length, take, drop}
use Rattle.std.specs.Prelude.{true, nat_lt}
use Rattle.std.specs.List.{flat_map, list_all}
use Rattle.std.specs.Str.{bytes_eq}
use Rattle.object_cache.specs.Keys.{text_len}
use Rattle.object_cache.specs.Packs.{coded}
use Rattle.object_cache.proofs.coding.same_words.Given as goal

abbrev pub invariant-comparing : goal.invariant-comparing
invariant-comparing l = record {
  short : list_all (λ word. nat_lt (text_len word) 4294967296) l.rest ≡ true;
  same : bytes_eq (take (length (flat_map coded l.rest)) l.cursor) (flat_map coded l.rest)
      ≡ bytes_eq (take (length (flat_map coded l.words)) l.fn.cursor) (flat_map coded l.words);
  left : drop (length (flat_map coded l.rest)) l.cursor ≡ drop (length (flat_map coded l.words)) l.fn.cursor;
}

abbrev pub decreases-comparing : goal.decreases-comparing
decreases-comparing l = length l.rest
