-- Items under names, in the order of their use, the latest first.
use Rattle.std.specs.Prelude.{ℕ, ◌+◌, ◌-◌, Bool, nat_le, List, [], ◌∷◌, bytes_eq, Option, Some, None, if◌then◌else◌}
use Rattle.std.specs.Option.{option_map_or}
use Rattle.std.specs.Map.{lookup_entry, remove_entry}

-- each with its name
abbrev pub Items : Type 0 → Type 0
Items V = List (List ℕ × V)

-- the items, the latest used first, and the most bytes that they have together
pub record Ordered (V : Type 0) : Type 0 where
  pub bound : ℕ
  pub items : Items V

abbrev pub same_name : List ℕ → List ℕ → Bool
same_name = bytes_eq

module _ {V : Type 0} (size : V → ℕ) where
  -- the bytes of some items
  abbrev pub sizes : Items V → ℕ
  sizes [] = 0
  sizes (item ∷ items) = size item.1 + sizes items

  -- the bytes of an item, if there is one
  abbrev pub size_in : Option V → ℕ
  size_in None = 0
  size_in (Some item) = size item

  -- the longest front of the items whose bytes are within the room: the others are dropped from the end
  abbrev pub front_within : ℕ → Items V → Items V
  front_within room [] = []
  front_within room (item ∷ items) = if nat_le (size item.1) room then item ∷ front_within (room - size item.1) items else []

module _ {V : Type 0} where
  -- the item of a name is made the first
  abbrev pub used : (List ℕ → Bool) → Items V → Items V
  used test items = option_map_or (λ item. item ∷ remove_entry test items) (lookup_entry test items) items

  -- an item is put first, in place of one of its name
  abbrev pub put_front : (List ℕ → List ℕ → Bool) → List ℕ → V → Items V → Items V
  put_front same name item items =
      option_map_or (λ old. (old.0, item) ∷ remove_entry (same name) items) (lookup_entry (same name) items) ((name, item) ∷ items)
