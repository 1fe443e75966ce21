-- What drops from the end, and what the bytes are.
use Rattle.std.proofs.Common.{◌≡◌, ◌++◌, ℕ, zero, suc, ◌+◌, ◌-◌, ◌<◌, ◌≤◌, Bool, true, false, List, [], ◌∷◌, length, take, refl, sym, ◌∙◌, ap, subst, arith, cond}
use Rattle.std.specs.Prelude.{nat_le, Option, Some, None, slice_get}
use Rattle.std.specs.Option.{option_map, option_map_or}
use Rattle.std.specs.Map.{lookup, lookup_entry, remove_entry}
use Rattle.std.proofs.lemmas.Bool.{le-leb}
use Rattle.use_order.specs.Orders.{Items, sizes, size_in, used, front_within}

module _ {V : Type 0} (size : V → ℕ) where
  -- all are within the room
  pub whole : (room : ℕ) (items : Items V) → sizes size items ≤ room → front_within size room items ≡ items
  whole room [] few = refl
  whole room (item ∷ items) few =
      let small : nat_le (size item.1) room ≡ true = le-leb (size item.1) room (omega (arith, few)) in
      ap (λ b. cond b (item ∷ front_within size (room - size item.1) items) []) small
      ∙ ap (λ rest. item ∷ rest) (whole (room - size item.1) items (omega (arith, few)))

  drop_step : (b : Bool) (room : ℕ) (item : List ℕ × V) (less more : Items V) → nat_le (size item.1) room ≡ b
      → (b ≡ true → front_within size (room - size item.1) less ≡ front_within size (room - size item.1) more)
      → cond b (item ∷ front_within size (room - size item.1) less) [] ≡ cond b (item ∷ front_within size (room - size item.1) more) []
  drop_step true room item less more is same = ap (λ rest. item ∷ rest) (same refl)
  drop_step false room item less more is same = refl

  alone : (b : Bool) (room : ℕ) (item : List ℕ × V) → nat_le (size item.1) room ≡ b → room < size item.1 + 0
      → [] ≡ cond b (item ∷ []) []
  alone true room item is above = absurd (grind (arith, is, above))
  alone false room item is above = refl

  -- where they aren't, the last isn't among those that stay
  pub last_dropped : (n room : ℕ) (items : Items V) → length items ≡ suc n → room < sizes size items
      → front_within size room (take n items) ≡ front_within size room items
  last_dropped n room [] many above = absurd (omega (arith, many))
  last_dropped zero room (item ∷ []) many above = alone (nat_le (size item.1) room) room item refl above
  last_dropped zero room (item ∷ next ∷ items) many above = absurd (omega (arith, many))
  last_dropped (suc n) room (item ∷ items) many above =
      drop_step (nat_le (size item.1) room) room item (take n items) items refl
      (λ is. last_dropped n (room - size item.1) items (omega (arith, many)) (grind (arith, is, above)))

  -- the bytes of all but the last
  pub last_bytes : (n : ℕ) (items : Items V) (last : List ℕ × V) → length items ≡ suc n → slice_get items n ≡ Some last
      → sizes size items ≡ sizes size (take n items) + size last.1
  last_bytes n [] last many is = absurd (omega (arith, many))
  last_bytes zero (item ∷ []) last many is =
      let same : item ≡ last = cc in
      omega (arith, ap (λ (k : List ℕ × V). size k.1) same)
  last_bytes zero (item ∷ next ∷ items) last many is = absurd (omega (arith, many))
  last_bytes (suc n) (item ∷ items) last many is = omega (arith, last_bytes n items last (omega (arith, many)) is)

  pub some_items : (room : ℕ) (items : Items V) → room < sizes size items → 0 < length items
  some_items room [] above = omega (arith, above)
  some_items room (item ∷ items) above = omega arith

  -- ---- one name

  module _ (test : List ℕ → Bool) where
    split_step : (b : Bool) (e item : List ℕ × V) (items : Items V) → cond b (Some e) (lookup_entry test items) ≡ Some item
        → (lookup_entry test items ≡ Some item → sizes size items ≡ size item.1 + sizes size (remove_entry test items))
        → size e.1 + sizes size items ≡ size item.1 + sizes size (cond b items (e ∷ remove_entry test items))
    split_step true e item items is more = let same : e ≡ item = cc in ap (λ (k : List ℕ × V). size k.1 + sizes size items) same
    split_step false e item items is more = omega (arith, more is)

    pub split : (items : Items V) (item : List ℕ × V) → lookup_entry test items ≡ Some item
        → sizes size items ≡ size item.1 + sizes size (remove_entry test items)
    split [] item is = absurd (cc is)
    split (e ∷ items) item is = split_step (test e.0) e item items is (split items item)

    used_by : (items : Items V) (found : Option (List ℕ × V)) → lookup_entry test items ≡ found
        → sizes size (option_map_or (λ item. item ∷ remove_entry test items) found items) ≡ sizes size items
    used_by items None is = refl
    used_by items (Some item) is = sym (split items item is)

    -- a use changes no bytes
    pub used_bytes : (items : Items V) → sizes size (used test items) ≡ sizes size items
    used_bytes items = used_by items (lookup_entry test items) refl

    value_step : (b : Bool) (e : List ℕ × V) (value : V) (items : Items V) → cond b (Some e.1) (lookup test items) ≡ Some value
        → (lookup test items ≡ Some value → sizes size items ≡ size value + sizes size (remove_entry test items))
        → size e.1 + sizes size items ≡ size value + sizes size (cond b items (e ∷ remove_entry test items))
    value_step true e value items is more = let same : e.1 ≡ value = cc in ap (λ (k : V). size k + sizes size items) same
    value_step false e value items is more = omega (arith, more is)

    pub split_value : (items : Items V) (value : V) → lookup test items ≡ Some value
        → sizes size items ≡ size value + sizes size (remove_entry test items)
    split_value [] value is = absurd (cc is)
    split_value (e ∷ items) value is = value_step (test e.0) e value items is (split_value items value)

    none_step : (b : Bool) (e : List ℕ × V) (items : Items V) → cond b (Some e.1) (lookup test items) ≡ None
        → (lookup test items ≡ None → remove_entry test items ≡ items) → cond b items (e ∷ remove_entry test items) ≡ e ∷ items
    none_step true e items is more = absurd (cc is)
    none_step false e items is more = ap (λ rest. e ∷ rest) (more is)

    pub none_removed : (items : Items V) → lookup test items ≡ None → remove_entry test items ≡ items
    none_removed [] is = refl
    none_removed (e ∷ items) is = none_step (test e.0) e items is (none_removed items)

    lookup_by : (b : Bool) (e : List ℕ × V) (items : Items V) → lookup test items ≡ option_map (λ x. x.1) (lookup_entry test items)
        → cond b (Some e.1) (lookup test items) ≡ option_map (λ x. x.1) (cond b (Some e) (lookup_entry test items))
    lookup_by true e items same = refl
    lookup_by false e items same = same

    lookup_is : (items : Items V) → lookup test items ≡ option_map (λ x. x.1) (lookup_entry test items)
    lookup_is [] = refl
    lookup_is (e ∷ items) = lookup_by (test e.0) e items (lookup_is items)

    take_all : (n : ℕ) (items : Items V) → length items ≤ n → take n items ≡ items
    take_all zero [] few = refl
    take_all zero (item ∷ items) few = absurd (omega (arith, few))
    take_all (suc n) [] few = refl
    take_all (suc n) (item ∷ items) few = ap (λ rest. item ∷ rest) (take_all n items (omega (arith, few)))

    -- all items, as the list that is put into holds them
    abbrev pub put_some : List ℕ → V → ℕ → Items V → Option (List ℕ × V) → Items V
    put_some name item n items found =
        option_map_or (λ old. (old.0, item) ∷ remove_entry test items) found ((name, item) ∷ take n items)

    sum_by : (name : List ℕ) (item : V) (n : ℕ) (items : Items V) → length items ≤ n → (found : Option (List ℕ × V))
        → lookup_entry test items ≡ found
        → sizes size (put_some name item n items found) + size_in size (option_map (λ x. x.1) found) ≡ sizes size items + size item
    sum_by name item n items few None is = omega (arith, ap (sizes size) (take_all n items few))
    sum_by name item n items few (Some old) is = omega (arith, split items old is)

    -- a put adds the item's bytes, and takes those of the one that it replaces
    pub put_bytes : (name : List ℕ) (item : V) (n : ℕ) (items : Items V) → length items ≤ n
        → sizes size (put_some name item n items (lookup_entry test items)) + size_in size (lookup test items) ≡ sizes size items + size item
    put_bytes name item n items few =
        ap (λ o. sizes size (put_some name item n items (lookup_entry test items)) + size_in size o) (lookup_is items)
        ∙ sum_by name item n items few (lookup_entry test items) refl

    pub put_all : (name : List ℕ) (item : V) (n : ℕ) (items : Items V) → length items ≤ n
        → put_some name item n items (lookup_entry test items)
        ≡ option_map_or (λ old. (old.0, item) ∷ remove_entry test items) (lookup_entry test items) ((name, item) ∷ items)
    put_all name item n items few =
        ap (λ l. option_map_or (λ old. (old.0, item) ∷ remove_entry test items) (lookup_entry test items) ((name, item) ∷ l))
        (take_all n items few)

    few_by : (items : Items V) (found : Option (List ℕ × V)) → lookup_entry test items ≡ found
        → size_in size (option_map (λ x. x.1) found) ≤ sizes size items
    few_by items None is = omega arith
    few_by items (Some old) is = omega (arith, split items old is)

    -- an item has no more bytes than all
    pub few_bytes : (items : Items V) → size_in size (lookup test items) ≤ sizes size items
    few_bytes items = subst (λ o. size_in size o ≤ sizes size items) (sym (lookup_is items)) (few_by items (lookup_entry test items) refl)

    forgotten_by : (items : Items V) (found : Option (V)) → lookup test items ≡ found
        → sizes size items ≡ size_in size found + sizes size (remove_entry test items)
    forgotten_by items None is = omega (arith, ap (sizes size) (none_removed items is))
    forgotten_by items (Some value) is = split_value items value is

    -- the bytes of the item of a name, and those of the others
    pub forgotten : (items : Items V) → sizes size items ≡ size_in size (lookup test items) + sizes size (remove_entry test items)
    forgotten items = forgotten_by items (lookup test items) refl
