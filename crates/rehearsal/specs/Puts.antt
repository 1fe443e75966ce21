-- The objects that were put.
use Rattle.std.specs.Prelude.{ℕ, ◌≤◌, List, length, Option, Some, None, slice_get}
use Rattle.farm_types.specs.Limits.{object_max}
use Rattle.edge_traits.specs.declared.entries.Put.{Put}

abbrev pub IsSmall : Put → Type 0
IsSmall put = length put.bytes ≤ object_max

abbrev pub put_len : Option Put → ℕ
put_len (Some put) = length put.bytes
put_len None = 0

-- the length of the object that was put at this place, and 0 if none was
abbrev pub put_len_at : List Put → ℕ → ℕ
put_len_at puts at = put_len (slice_get puts at)
