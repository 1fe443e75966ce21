-- The places of names in a table, and of the definitions that have them.
use Rattle.std.proofs.Common.{◌≡◌, ℕ, zero, suc, ◌+◌, ◌<◌, Bool, true, false, cond, List, [], ◌∷◌, ◌++◌, length, drop, get_or}
use Rattle.std.proofs.Common.{Some, None, refl, ap, sym, ◌∙◌, subst, arith}
use Rattle.std.specs.Prelude.{not, ◌||◌}
use Rattle.std.specs.List.{list_any, position_from}
use Rattle.std.specs.Option.{is_some}
use Rattle.std.specs.Str.{bytes_eq}
use Rattle.std.specs.Cmp.{IsEquivalence}
use Rattle.std.specs.Cmp.Lexicographic.{same_text}
use Rattle.std.proofs.lemmas.List.{drop_more}
use Rattle.sample_lang.specs.declared.program.Item.{Item}
use Rattle.sample_lang.specs.Names.{is_named, name_of}
use Rattle.sample_linker.specs.declared.name_table.NameTable.{NameTable}
use Rattle.sample_linker.specs.Indexes.{Indexes, names_of}
use Rattle.sample_linker.specs.Orders.{place_of}
use Rattle.sample_linker.specs.Tables.{place_in}
use Rattle.sample_linker.specs.Waits.{At}
use Rattle.sample_linker.proofs.Numbers.{same_bytes}
use Rattle.sample_linker.proofs.TableLemmas.{bytes_turn}

some_place : (a b : ℕ) → Some a ≡ Some b → a ≡ b
some_place a b h = cc

no_place : {P : Type 0} (n : ℕ) → None ≡ Some n → P
no_place n h = cc

pub bytes_laws : IsEquivalence bytes_eq
bytes_laws = record {
  refl = same_bytes;
  symm = bytes_turn;
  congr = λ x y z h. ap (λ a. bytes_eq a z) (same_text x y (sym h));
}

-- ---- the first place of a name

-- a name is found where it is among these
pub any_place : (test : List ℕ → Bool) (i : ℕ) (names : List (List ℕ)) → is_some (position_from test i names) ≡ list_any test names
any_place test i [] = refl
any_place test i (name ∷ names) = by (test name) (any_place test (i + 1) names)
  where
    by : (b : Bool) → is_some (position_from test (i + 1) names) ≡ list_any test names
        → is_some (cond b (Some i) (position_from test (i + 1) names)) ≡ (b || list_any test names)
    by true h = refl
    by false h = h

-- a name behind them that doesn't pass changes nothing
place_kept : (test : List ℕ → Bool) (i : ℕ) (names : List (List ℕ)) (last : List ℕ) → test last ≡ false
    → position_from test i (names ++ last ∷ []) ≡ position_from test i names
place_kept test i [] last h = ap (λ b. cond b (Some i) None) h
place_kept test i (name ∷ names) last h = ap (λ rest. cond (test name) (Some i) rest) (place_kept test (i + 1) names last h)

-- one that passes, where none before it does
place_last : (test : List ℕ → Bool) (i : ℕ) (names : List (List ℕ)) (last : List ℕ) → test last ≡ true → list_any test names ≡ false
    → position_from test i (names ++ last ∷ []) ≡ Some (i + length names)
place_last test i [] last h none = ap (λ b. cond b (Some i) None) h ∙ ap (λ (n : ℕ). Some n) (omega arith)
place_last test i (name ∷ names) last h none = by (test name) none (place_last test (i + 1) names last h)
  where
    by : (b : Bool) → (b || list_any test names) ≡ false
        → (list_any test names ≡ false → position_from test (i + 1) (names ++ last ∷ []) ≡ Some (i + 1 + length names))
        → cond b (Some i) (position_from test (i + 1) (names ++ last ∷ [])) ≡ Some (i + suc (length names))
    by true e more = cc
    by false e more = more e ∙ ap (λ (n : ℕ). Some n) (omega arith)

-- the table has one name more
pub indexes_more : (table new : NameTable) (names : List (List ℕ)) (name : List ℕ) (at : ℕ) → Indexes table names
    → list_any (bytes_eq name) names ≡ false → at ≡ length names
    → ((other : List ℕ) → place_in new other ≡ cond (bytes_eq name other) (Some at) (place_in table other))
    → Indexes new (names ++ name ∷ [])
indexes_more table new names name at h fresh is updates other = updates other ∙ by (bytes_eq name other) refl
  where
    by : (b : Bool) → bytes_eq name other ≡ b
        → cond b (Some at) (place_in table other) ≡ position_from (bytes_eq other) 0 (names ++ name ∷ [])
    by true e =
        let same : name ≡ other = same_text name other (sym e) in
        ap (λ (n : ℕ). Some n) (omega (arith, is))
        ∙ sym (place_last (bytes_eq other) 0 names name (bytes_turn other name ∙ e)
        (subst (λ n. list_any (bytes_eq n) names ≡ false) same fresh))
    by false e = h other ∙ sym (place_kept (bytes_eq other) 0 names name (bytes_turn other name ∙ e))

-- what stands at the first place
name_from : (name : List ℕ) (i : ℕ) (names : List (List ℕ)) (p : ℕ) → position_from (bytes_eq name) i names ≡ Some p
    → (j : ℕ) × (p ≡ i + j) × (j < length names) × ((d : List ℕ) → get_or names j d ≡ name)
name_from name i [] p h = no_place p h
name_from name i (other ∷ names) p h = by (bytes_eq name other) refl h (name_from name (i + 1) names p)
  where
    by : (b : Bool) → bytes_eq name other ≡ b → cond b (Some i) (position_from (bytes_eq name) (i + 1) names) ≡ Some p
        → (position_from (bytes_eq name) (i + 1) names ≡ Some p
        → (j : ℕ) × (p ≡ i + 1 + j) × (j < length names) × ((d : List ℕ) → get_or names j d ≡ name))
        → (j : ℕ) × (p ≡ i + j) × (j < suc (length names)) × ((d : List ℕ) → get_or (other ∷ names) j d ≡ name)
    by true e h more = (zero, omega (arith, some_place i p h), omega arith, λ d. sym (same_text name other (sym e)))
    by false e h more =
        let r = more h in
        (suc r.0, omega (arith, r.1), omega (arith, r.2), r.3)

pub at_name : (name : List ℕ) (names : List (List ℕ)) (p : ℕ) → position_from (bytes_eq name) 0 names ≡ Some p
    → (p < length names) × (drop p names ≡ name ∷ drop (p + 1) names)
at_name name names p h =
    let r = name_from name 0 names p h in
    let same : r.0 ≡ p = omega (arith, r.1) in
    let lt : p < length names = omega (arith, same, r.2) in
    (lt, drop_more names p name lt ∙ ap (λ n. n ∷ drop (p + 1) names) (subst (λ j. get_or names j name ≡ name) same (r.3 name)))

-- ---- the definition of a name

item_from : (name : List ℕ) (i : ℕ) (defined : List Item) (p : ℕ) → position_from (bytes_eq name) i (names_of defined) ≡ Some p
    → (j : ℕ) × (p ≡ i + j) × (item : Item) × At defined j item × (name_of item ≡ name)
item_from name i [] p h = no_place p h
item_from name i (item ∷ defined) p h = by (bytes_eq name (name_of item)) refl h (item_from name (i + 1) defined p)
  where
    by : (b : Bool) → bytes_eq name (name_of item) ≡ b → cond b (Some i) (position_from (bytes_eq name) (i + 1) (names_of defined)) ≡ Some p
        → (position_from (bytes_eq name) (i + 1) (names_of defined) ≡ Some p
        → (j : ℕ) × (p ≡ i + 1 + j) × (found : Item) × At defined j found × (name_of found ≡ name))
        → (j : ℕ) × (p ≡ i + j) × (found : Item) × At (item ∷ defined) j found × (name_of found ≡ name)
    by true e h more = (zero, omega (arith, some_place i p h), item, (omega arith, refl), sym (same_text name (name_of item) (sym e)))
    by false e h more =
        let r = more h in
        (suc r.0, omega (arith, r.1), r.2, (omega (arith, r.3.0), r.3.1), r.4)

pub item_of : (table : NameTable) (defined : List Item) (name : List ℕ) (p : ℕ) → Indexes table (names_of defined)
    → place_in table name ≡ Some p
    → (item : Item) × At defined p item × (name_of item ≡ name)
item_of table defined name p h found =
    let r = item_from name 0 defined p (sym (h name) ∙ found) in
    let same : r.0 ≡ p = omega (arith, r.1) in
    (r.2, subst (λ j. At defined j r.2) same r.3, r.4)

one_more : (a b c : ℕ) → a ≡ b + 1 + c → a ≡ b + (1 + c)
one_more a b c h = omega (arith, h)

place_from : (name : List ℕ) (i : ℕ) (defined : List Item) (p : ℕ) → position_from (bytes_eq name) i (names_of defined) ≡ Some p
    → p ≡ i + place_of defined name
place_from name i [] p h = no_place p h
place_from name i (item ∷ defined) p h = by (bytes_eq name (name_of item)) (bytes_turn (name_of item) name) h
    (place_from name (i + 1) defined p)
  where
    by : (b : Bool) → bytes_eq (name_of item) name ≡ b → cond b (Some i) (position_from (bytes_eq name) (i + 1) (names_of defined)) ≡ Some p
        → (position_from (bytes_eq name) (i + 1) (names_of defined) ≡ Some p → p ≡ i + 1 + place_of defined name)
        → p ≡ i + cond (not (bytes_eq (name_of item) name)) (1 + place_of defined name) 0
    by true e h more =
        let here : p ≡ i + 0 = omega (arith, some_place i p h) in
        here ∙ ap (λ t. i + cond (not t) (1 + place_of defined name) 0) (sym e)
    by false e h more = one_more p i (place_of defined name) (more h) ∙ ap (λ t. i + cond (not t) (1 + place_of defined name) 0) (sym e)

pub place_is : (table : NameTable) (defined : List Item) (name : List ℕ) (p : ℕ) → Indexes table (names_of defined)
    → place_in table name ≡ Some p → p ≡ place_of defined name
place_is table defined name p h found = let r = place_from name 0 defined p (sym (h name) ∙ found) in omega (arith, r)

-- ---- names of definitions

pub named_any : (defined : List Item) (name : List ℕ) → is_named defined name ≡ list_any (bytes_eq name) (names_of defined)
named_any [] name = refl
named_any (item ∷ defined) name = ap (λ b. b || is_named defined name) (bytes_turn (name_of item) name)
    ∙ ap (λ b. bytes_eq name (name_of item) || b) (named_any defined name)

pub indexes_named : (table : NameTable) (defined : List Item) (name : List ℕ) → Indexes table (names_of defined)
    → is_some (place_in table name) ≡ is_named defined name
indexes_named table defined name h = ap is_some (h name) ∙ any_place (bytes_eq name) 0 (names_of defined) ∙ sym (named_any defined name)

pub names-append : (is js : List Item) → names_of (is ++ js) ≡ names_of is ++ names_of js
names-append [] js = refl
names-append (i ∷ is) js = ap (λ ns. name_of i ∷ ns) (names-append is js)
