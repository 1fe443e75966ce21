-- The table of definitions has each name in their codes.
use Rattle.std.proofs.Common.{◌≡◌, ℕ, suc, ◌<◌, Bool, true, false, cond, List, [], ◌∷◌, ◌++◌, length, Some, None}
use Rattle.std.proofs.Common.{Result, Ok, Err, refl, ap, sym, ◌∙◌, subst, inl, inr, ⊎_elim, append_assoc, arith}
use Rattle.std.specs.Prelude.{◌||◌}
use Rattle.std.specs.List.{Contains}
use Rattle.std.specs.Option.{is_some}
use Rattle.std.specs.Str.{bytes_eq}
use Rattle.std.specs.Cmp.Lexicographic.{same_text}
use Rattle.std.proofs.lemmas.Bool.{or_cases}
use Rattle.std.proofs.lemmas.List.{length-map}
use Rattle.std.proofs.lemmas.List.Folds.{list_any-append}
use Rattle.sample_lang.specs.declared.program.Part.{Part}
use Rattle.sample_lang.specs.declared.program.Part.TheVariants.{Number, Name, Add, Sub, Mul}
use Rattle.sample_lang.specs.declared.program.Item.{Item}
use Rattle.sample_lang.specs.declared.program.Item.TheVariants.{Extern, Def}
use Rattle.sample_lang.specs.Names.{is_named, name_of, code_of, HaveNames, AreDeclared}
use Rattle.sample_linker.specs.declared.kind.Kind.TheVariants.{Object}
use Rattle.sample_linker.specs.declared.name_table.NameTable.{NameTable}
use Rattle.sample_linker.specs.Circles.{AllUsed}
use Rattle.sample_linker.specs.Files.{file_items, then_file, objects_items}
use Rattle.sample_linker.specs.Indexes.{Indexes, names_of}
use Rattle.sample_linker.specs.Links.{definitions, unresolved}
use Rattle.sample_linker.specs.Reads.{Lists}
use Rattle.sample_linker.specs.Runs.{Within}
use Rattle.sample_linker.specs.Tables.{place_in}
use Rattle.sample_linker.proofs.Numbers.{same_bytes, have_more, within_more, Within-append}
use Rattle.sample_linker.proofs.Places.{at_name, indexes_named}
use Rattle.sample_linker.proofs.Members.{Member, member_contained, member_named, have_part}
use Rattle.sample_linker.proofs.Soundness.{file_sound}

-- ---- within an object

or_true : (b : Bool) → (b || true) ≡ true
or_true true = refl
or_true false = refl

named_behind : (earlier items : List Item) (name : List ℕ) → is_named items name ≡ true → is_named (earlier ++ items) name ≡ true
named_behind earlier items name h =
    list_any-append (λ item. bytes_eq (name_of item) name) earlier items ∙ ap (λ b. is_named earlier name || b) h
    ∙ or_true (is_named earlier name)

have_behind : (earlier items : List Item) (code : List Part) → HaveNames items code → HaveNames (earlier ++ items) code
have_behind earlier items [] h = tt
have_behind earlier items (Name name ∷ code) h = (named_behind earlier items name h.0, have_behind earlier items code h.1)
have_behind earlier items (Number n ∷ code) h = have_behind earlier items code h
have_behind earlier items (Add ∷ code) h = have_behind earlier items code h
have_behind earlier items (Sub ∷ code) h = have_behind earlier items code h
have_behind earlier items (Mul ∷ code) h = have_behind earlier items code h

within_behind : (earlier outer items : List Item) → Within outer items → Within (earlier ++ outer) items
within_behind earlier outer [] h = tt
within_behind earlier outer
    (item ∷ items) h = (
      named_behind earlier outer (name_of item) h.0,
      have_behind earlier outer (code_of item) h.1,
      within_behind earlier outer items h.2,
    )

first_named : (item : Item) (items : List Item) → is_named (item ∷ items) (name_of item) ≡ true
first_named item items = ap (λ b. b || is_named items (name_of item)) (same_bytes (name_of item))

declared_within : (earlier items : List Item) → AreDeclared earlier items → Within (earlier ++ items) items
declared_within earlier [] d = tt
declared_within earlier (item ∷ items) d = (
  named_behind earlier (item ∷ items) (name_of item) (first_named item items),
  have_more earlier (item ∷ items) (code_of item) d.1,
  subst (λ outer. Within outer items) (append_assoc earlier (item ∷ []) items) (declared_within (earlier ++ item ∷ []) items d.2),
)

within_both : (items more : List Item) → Within items items → Within more more → Within (items ++ more) (items ++ more)
within_both items more h k = Within-append (items ++ more) items more (within_more items more items h) (within_behind items more more k)

-- ---- all objects

abbrev Read : List Item → Result (List Item) (ℕ × ℕ)
Read items = Ok items

one_list : (a b : List Item) → Read a ≡ Read b → a ≡ b
one_list a b h = cc

no_list : {P : Type 0} (e : ℕ × ℕ) (items : List Item) → Err e ≡ Ok items → P
no_list e items h = cc

pub objects_within : (items found : List Item) (file : ℕ) (objects : List (List ℕ)) → objects_items items file objects ≡ Ok found
    → Within items items → Within found found
objects_within items found file [] h w = subst (λ is. Within is is) (one_list items found h) w
objects_within items found file (object ∷ objects) h w = by (file_items Object object) refl h
    (λ more k. objects_within (items ++ more) found (suc file) objects k)
  where
    by : (read : Result (List Item) ℕ) → file_items Object object ≡ read
        → then_file file read (λ more. objects_items (items ++ more) (suc file) objects) ≡ Ok found
        → ((more : List Item) → objects_items (items ++ more) (suc file) objects ≡ Ok found → Within (items ++ more) (items ++ more)
        → Within found found) → Within found found
    by (Err line) e h go = no_list (file, line) found h
    by (Ok more) e h go = go more h (within_both items more w (declared_within [] more (file_sound Object object more e).1))

-- ---- definitions

not_some : {P : Type 0} (name : List ℕ) → Some name ≡ None → P
not_some name h = cc

no_need : {P : Type 0} → false ≡ true → P
no_need h = cc

-- a name of an item is defined, where each need is met
met_named : (defined items : List Item) (name : List ℕ) → unresolved defined items ≡ None
    → ((n : List ℕ) → is_named (definitions items) n ≡ true → is_named defined n ≡ true)
    → is_named items name ≡ true → is_named defined name ≡ true
met_named defined [] name met sub h = no_need h
met_named defined (Def other code ∷ items) name met sub h =
    ⊎_elim (λ here. sub name (ap (λ b. b || is_named (definitions items) name) here))
    (λ later. met_named defined items name met (λ n k. sub n (ap (λ b. bytes_eq other n || b) k ∙ or_true (bytes_eq other n))) later)
    (or_cases (bytes_eq other name) (is_named items name) h)
met_named defined (Extern other ∷ items) name met sub h = by (is_named defined other) refl met (λ m. met_named defined items name m sub)
  where
    by : (b : Bool) → is_named defined other ≡ b → cond b (unresolved defined items) (Some other) ≡ None
        → (unresolved defined items ≡ None → is_named items name ≡ true → is_named defined name ≡ true) → is_named defined name ≡ true
    by false e met more = not_some other met
    by true e met more =
        ⊎_elim (λ here. subst (λ n. is_named defined n ≡ true) (same_text other name (sym here)) e)
        (λ later. more met later)
        (or_cases (bytes_eq other name) (is_named items name) h)

member_defined : (items : List Item) (item : Item) → Member item (definitions items) → Member item items
member_defined [] item m = m
member_defined (Extern name ∷ items) item m = inr (member_defined items item m)
member_defined (Def name code ∷ items) item m = ⊎_elim (λ here. inl here) (λ later. inr (member_defined items item later)) m

within_member : (outer items : List Item) (item : Item) → Within outer items → Member item items → HaveNames outer (code_of item)
within_member outer [] item w m = absurd m
within_member outer (other ∷ items) item w m =
    ⊎_elim (λ here. subst (λ i. HaveNames outer (code_of i)) here w.1) (λ later. within_member outer items item w.2 later) m

-- each name in a code of a definition has a place
pub all_used : (table : NameTable) (objects : List (List ℕ)) (items : List Item) → objects_items [] 1 objects ≡ Ok items
    → Lists table (definitions items) → unresolved (definitions items) items ≡ None
    → AllUsed table (definitions items)
all_used table objects items read lists met item name defined part =
    let within : Within items items = objects_within [] items 1 objects read tt in
    let have : HaveNames items (code_of item) =
    within_member items items item within (member_defined items item (member_contained (definitions items) item defined)) in
    let named : is_named items name ≡ true = have_part items (code_of item) name part.0 have part.1 part.2 in
    lists name ∙ met_named (definitions items) items name met (λ n k. k) named

-- each definition has a place
pub all_own : (table : NameTable) (defined : List Item) (item : Item) → Indexes table (names_of defined) → Contains defined item
    → is_some (place_in table (name_of item)) ≡ true
all_own table defined item h here = indexes_named table defined (name_of item) h
    ∙ member_named defined item (name_of item) (member_contained defined item here) refl

pub place_below : (table : NameTable) (defined : List Item) (name : List ℕ) (place : ℕ) → Indexes table (names_of defined)
    → place_in table name ≡ Some place → place < length defined
place_below table defined name place h found =
    let here = (at_name name (names_of defined) place (sym (h name) ∙ found)).0 in
    omega (arith, here, length-map defined name_of)
