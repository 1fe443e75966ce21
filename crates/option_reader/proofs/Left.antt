-- The options from the first of a name on.
use Rattle.std.proofs.Common.{◌≡◌, ◌<◌, ◌≤◌, ℕ, suc, Bool, true, false, List, [], ◌∷◌, ◌++◌, length, map, drop, get_or, Option, Some}
use Rattle.std.proofs.Common.{None, refl, ap, sym, ◌∙◌, arith}
use Rattle.std.specs.Prelude.{is_some, bytes_eq, not, ◌==◌, if◌then◌else◌}
use Rattle.std.proofs.lemmas.List.{drop-map, length-map}
use Rattle.std.proofs.lemmas.Slice.Eq.{bytes_eq-Decides}
use Rattle.option_reader.specs.Items.{Item, items_words, value_words, from_name, is_one, first_value}
use Rattle.option_reader.specs.Tables.{Table, has_value, HasValue, StandBehind, AreShaped}

shaped_value : (table : Table) (before : List Item) (name : List ℕ) (value : Option (List ℕ)) → HasValue table before name value
    → has_value (table.known name) ≡ is_some value
shaped_value table before name None has = has
shaped_value table before name (Some value) has = has.0

pub shaped : (table : Table) (before items : List Item) → StandBehind table before items → AreShaped table items
shaped table before [] stand = tt
shaped table before (item ∷ items) stand = (
  shaped_value table before item.name item.value stand.0.value,
  shaped table
      (before ++ item ∷ []) items stand.1,
)

-- what is left of the options
pub record Left (table : Table) (name : List ℕ) (items : List Item) (words : List (List ℕ)) : Type 0 where
  pub left : List Item
  pub right : AreShaped table left
  pub are : words ≡ items_words left
  pub from : from_name name items ≡ from_name name left

module _ {X : Type 0} (f : X → List ℕ) (table : Table) (name : List ℕ) (items : List Item) where
  behind : (takes : Bool) (after : List X) (value : Option (List ℕ)) (left : List Item) → takes ≡ is_some value
      → map f after ≡ value_words value (items_words left)
      → map f (if takes then drop 1 after else after) ≡ items_words left
  behind true after (Some value) left is are = sym (drop-map f 1 after) ∙ ap (drop 1) are
  behind false after None left is are = are
  behind true after None left is are = absurd (cc is)
  behind false after (Some value) left is are = absurd (cc is)

  pub left_more : (rest after : List X) (word : X) (text : List ℕ) (takes : Bool) → rest ≡ word ∷ after → text ≡ f word
      → takes ≡ has_value (table.known text) → bytes_eq text name ≡ false
      → Left table name items (map f rest) → Left table name items (map f (if takes then drop 1 after else after))
  left_more rest after word text takes is spelled takes_is other before = go before.left before.right before.are before.from
    where
      go : (left : List Item) → AreShaped table left → map f rest ≡ items_words left → from_name name items ≡ from_name name left
          → Left table name items (map f (if takes then drop 1 after else after))
      go [] right are from = absurd (let none : f word ∷ map f after ≡ [] = ap (map f) (sym is) ∙ are in cc none)
      go (x ∷ left) right are from =
          let all : f word ∷ map f after ≡ x.name ∷ value_words x.value (items_words left) = ap (map f) (sym is) ∙ are in
          let same : text ≡ x.name = spelled ∙ (let e : f word ≡ x.name = cc all in e) in
          let rest_are : map f after ≡ value_words x.value (items_words left) = cc all in
          let shape : takes ≡ is_some x.value = takes_is ∙ ap (λ t. has_value (table.known t)) same ∙ right.0 in
          let apart : bytes_eq x.name name ≡ false = ap (λ t. bytes_eq t name) (sym same) ∙ other in
          record {
            left = left;
            right = right.1;
            are = behind takes after x.value left shape rest_are;
            from = from ∙ ap (λ b. if b then x ∷ left else from_name name left) apart;
          }

  -- this is it
  pub found : (rest after : List X) (word : X) (text : List ℕ) → rest ≡ word ∷ after → text ≡ f word → bytes_eq text name ≡ true
      → Left table name items (map f rest) → map f rest ≡ items_words (from_name name items)
  found rest after word text is spelled same before = go before.left before.are before.from
    where
      go : (left : List Item) → map f rest ≡ items_words left → from_name name items ≡ from_name name left
          → map f rest ≡ items_words (from_name name items)
      go [] are from = absurd (let none : f word ∷ map f after ≡ [] = ap (map f) (sym is) ∙ are in cc none)
      go (x ∷ left) are from =
          let all : f word ∷ map f after ≡ x.name ∷ value_words x.value (items_words left) = ap (map f) (sym is) ∙ are in
          let named : text ≡ x.name = spelled ∙ (let e : f word ≡ x.name = cc all in e) in
          let here : bytes_eq x.name name ≡ true = ap (λ t. bytes_eq t name) (sym named) ∙ same in
          are ∙ ap items_words (sym (from ∙ ap (λ b. if b then x ∷ left else from_name name left) here))

  -- it isn't among them
  pub not_found : (rest : List X) → length rest ≡ 0 → Left table name items (map f rest) → map f rest ≡ items_words (from_name name items)
  not_found [] none before = go before.left before.are before.from
    where
      go : (left : List Item) → [] ≡ items_words left → from_name name items ≡ from_name name left → [] ≡ items_words (from_name name items)
      go [] are from = ap items_words (sym from)
      go (x ∷ left) are from = absurd (cc are)
  not_found (x ∷ rest) none before = absurd (omega (arith, none))

-- ---- what is found

module _ {X : Type 0} (f : X → List ℕ) where
  pub stands_by : (rest : List X) (left : List Item) → map f rest ≡ items_words left → not (length rest == 0) ≡ is_one left
  stands_by [] [] are = refl
  stands_by [] (x ∷ left) are = absurd (cc are)
  stands_by (word ∷ rest) [] are = absurd (cc are)
  stands_by (word ∷ rest) (x ∷ left) are = grind arith

-- the first of these options has a value where one belongs to this name
abbrev pub IsHead : Table → List ℕ → List Item → Type 0
IsHead table name [] = Unit {0}
IsHead table name (item ∷ items) = has_value (table.known name) ≡ is_some item.value

module _ (table : Table) (name : List ℕ) where
  head_by : (b : Bool) (item : Item) (items : List Item) → bytes_eq item.name name ≡ b
      → has_value (table.known item.name) ≡ is_some item.value → IsHead table name (from_name name items)
      → IsHead table name (if b then item ∷ items else from_name name items)
  head_by true item items same shape more = ap (λ n. has_value (table.known n)) (sym ((bytes_eq-Decides item.name name).0 same)) ∙ shape
  head_by false item items other shape more = more

  pub head_is : (items : List Item) → AreShaped table items → IsHead table name (from_name name items)
  head_is [] right = tt
  head_is (item ∷ items) right = head_by (bytes_eq item.name name) item items refl right.0 (head_is items right.1)

  none_of : (value : Option (List ℕ)) → is_some value ≡ false → None ≡ value
  none_of None none = refl
  none_of (Some value) none = absurd (cc none)

  pub no_value : (left : List Item) → IsHead table name left → has_value (table.known name) ≡ false → None ≡ first_value left
  no_value [] head plain = refl
  no_value (item ∷ left) head plain = none_of item.value (sym head ∙ plain)

  module _ {X : Type 0} (f : X → List ℕ) (takes : has_value (table.known name) ≡ true) where
    value_by : (words : List X) (value : X) (word : List ℕ) (held : Option (List ℕ)) (left : List Item) → true ≡ is_some held
        → map f words ≡ word ∷ value_words held (items_words left) → 2 ≤ length words → value ≡ get_or words 1 value → Some (f value) ≡ held
    value_by words value word None left some are long at = absurd (cc some)
    value_by [] value word (Some held) left some are long at = absurd (omega (arith, long))
    value_by (x ∷ []) value word (Some held) left some are long at = absurd (omega (arith, long))
    value_by (x ∷ y ∷ words) value word (Some held) left some are long at =
        ap (λ v. Some (f v)) at ∙ (let e : f y ≡ held = cc are in ap Some e)

    pub some_value : (words : List X) (value : X) (left : List Item) → IsHead table name left → map f words ≡ items_words left
        → 2 ≤ length words → value ≡ get_or words 1 value → Some (f value) ≡ first_value left
    some_value words value [] head are long at = absurd (let e : length words ≡ 0 = sym (length-map words f)
        ∙ ap length are in omega (arith, long, e))
    some_value words value (item ∷ left) head are long at = value_by words value item.name item.value left (sym takes ∙ head) are long at

    short_by : (words : List X) (word : List ℕ) (held : Option (List ℕ)) (left : List Item) → true ≡ is_some held
        → map f words ≡ word ∷ value_words held (items_words left) → length words < 2 → ⊥
    short_by words word None left some are short = cc some
    short_by words word (Some held) left some are short =
        let e : length words ≡ suc (suc (length (items_words left))) = sym (length-map words f) ∙ ap length are in omega (arith, short, e)

    pub too_short : (words : List X) (left : List Item) → IsHead table name left → map f words ≡ items_words left → length words < 2
        → None ≡ first_value left
    too_short words [] head are short = refl
    too_short words (item ∷ left) head are short = absurd (short_by words item.name item.value left (sym takes ∙ head) are short)
