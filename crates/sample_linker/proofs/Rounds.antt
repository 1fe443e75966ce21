-- Names that lead to one another.
use Rattle.std.proofs.Common.{◌≡◌, ℕ, zero, suc, ◌+◌, ◌<◌, ◌≤◌, Bool, true, false, List, [], ◌∷◌, ◌++◌, length, take, drop, get_or}
use Rattle.std.proofs.Common.{Option, Some, None, refl, ap, sym, ◌∙◌, subst, ⊎_elim, arith}
use Rattle.std.specs.Prelude.{All, IfSome, IfNone, unwrap_or, ◌||◌}
use Rattle.std.specs.List.{Contains, IsDistinct, list_any, list_all}
use Rattle.std.specs.Option.{is_some}
use Rattle.std.specs.Str.{bytes_eq}
use Rattle.std.specs.Cmp.Lexicographic.{same_text}
use Rattle.std.specs.Prelude.{Vec}
use Rattle.std.specs.Global.{Global}
use Rattle.std.proofs.lemmas.Bool.{or_cases}
use Rattle.std.proofs.lemmas.List.{append-nil, drop_more, take_more, take-append-drop, length-map}
use Rattle.std.proofs.lemmas.List.Elements.{All-append, All-take, All-drop, All-cons, All-nil}
use Rattle.std.proofs.lemmas.List.Folds.{list_any-append}
use Rattle.std.proofs.lemmas.List.Sorted.{IsPermutation-append_comm}
use Rattle.std.proofs.lemmas.Map.Keys.{IsDistinct-tail, IsDistinct-push, IsDistinct-IsPermutation}
use Rattle.std.proofs.lemmas.Map.Made.{length-le_from_is_member}
use Rattle.std.proofs.lemmas.Map.Views.{All-from_any}
use Rattle.sample_lang.specs.declared.program.Part.{Part}
use Rattle.sample_lang.specs.declared.program.Part.TheVariants.{Name, Add}
use Rattle.sample_lang.specs.declared.program.Item.{Item}
use Rattle.sample_lang.specs.declared.program.Item.TheVariants.{Extern, Def}
use Rattle.sample_lang.specs.Names.{is_named, name_of, code_of}
use Rattle.sample_linker.specs.declared.name_table.NameTable.{NameTable}
use Rattle.sample_linker.specs.Circles.{AllUsed, AreStuck, IsLeft, IsRound, IsLowest}
use Rattle.sample_linker.specs.Files.{is_known}
use Rattle.sample_linker.specs.Indexes.{Indexes, names_of}
use Rattle.sample_linker.specs.Links.{image_of}
use Rattle.sample_linker.specs.Orders.{Uses, LeadTo, GoRound, BeginsByFirst, IsCircle, IsImageOrder, place_of}
use Rattle.sample_linker.specs.Reads.{Lists}
use Rattle.sample_linker.specs.Runs.{number_in}
use Rattle.sample_linker.specs.Tables.{place_in}
use Rattle.sample_linker.specs.Waits.{At, Settled, PlacedSo}
use Rattle.sample_linker.proofs.Places.{bytes_laws, at_name, item_of, place_is, named_any, indexes_named}
use Rattle.sample_linker.proofs.Members.{have_part}
use Rattle.sample_linker.proofs.Soundness.{have_known}
use Rattle.sample_linker.proofs.TableLemmas.{bytes_turn}

absent : {P : Type 0} → true ≡ false → P
absent h = cc

-- ---- ways

pub leads_more : (defined : List Item) (end next : List ℕ) (names : List (List ℕ)) → LeadTo defined end names → Uses defined end next
    → LeadTo defined next (names ++ end ∷ [])
leads_more defined end next [] h u = u
leads_more defined end next (name ∷ []) h u = (h, u)
leads_more defined end next (name ∷ other ∷ names) h u = (h.0, leads_more defined end next (other ∷ names) h.1 u)

pub leads_drop : (defined : List Item) (end : List ℕ) (i : ℕ) (names : List (List ℕ)) → LeadTo defined end names
    → LeadTo defined end (drop i names)
leads_drop defined end zero names h = h
leads_drop defined end (suc i) [] h = tt
leads_drop defined end (suc i) (name ∷ []) h = leads_drop defined end i [] tt
leads_drop defined end (suc i) (name ∷ other ∷ names) h = leads_drop defined end i (other ∷ names) h.1

leads_split : (defined : List Item) (end y : List ℕ) (xs ys : List (List ℕ)) → LeadTo defined end (xs ++ y ∷ ys)
    → LeadTo defined y xs × LeadTo defined end (y ∷ ys)
leads_split defined end y [] ys h = (tt, h)
leads_split defined end y (x ∷ []) ys h = h
leads_split defined end y (x ∷ z ∷ xs) ys h = let r = leads_split defined end y (z ∷ xs) ys h.1 in ((h.0, r.0), r.1)

leads_join : (defined : List Item) (end y : List ℕ) (xs ys : List (List ℕ)) → LeadTo defined y xs → LeadTo defined end (y ∷ ys)
    → LeadTo defined end (xs ++ y ∷ ys)
leads_join defined end y [] ys h k = k
leads_join defined end y (x ∷ []) ys h k = (h, k)
leads_join defined end y (x ∷ z ∷ xs) ys h k = (h.0, leads_join defined end y (z ∷ xs) ys h.1 k)

-- a circle can begin anywhere
round_turned : (defined : List Item) (xs ys : List (List ℕ)) → GoRound defined (xs ++ ys) → GoRound defined (ys ++ xs)
round_turned defined [] ys h = subst (GoRound defined) (sym (append-nil ys)) h
round_turned defined (x ∷ xs) [] h = subst (GoRound defined) (append-nil (x ∷ xs)) h
round_turned defined (x ∷ xs) (y ∷ ys) h =
    let parts = leads_split defined x y (x ∷ xs) ys h in
    leads_join defined y x (y ∷ ys) xs parts.1 parts.0

distinct_drop : (i : ℕ) (names : List (List ℕ)) → IsDistinct bytes_eq names → IsDistinct bytes_eq (drop i names)
distinct_drop zero names h = h
distinct_drop (suc i) [] h = h
distinct_drop (suc i) (name ∷ names) h = distinct_drop i names (IsDistinct-tail bytes_eq name names h)

any_drop : (test : List ℕ → Bool) (i : ℕ) (names : List (List ℕ)) → list_any test (drop i names) ≡ true → list_any test names ≡ true
any_drop test zero names h = h
any_drop test (suc i) [] h = h
any_drop test (suc i) (name ∷ names) h = by (test name) (any_drop test i names h)
  where
    by : (b : Bool) → list_any test names ≡ true → (b || list_any test names) ≡ true
    by true e = refl
    by false e = e

-- ---- a walk

-- how far a walk is
pub record WalksTo (table placed met : NameTable) (defined : List Item) (path : List (List ℕ)) (at : List ℕ) : Type 0 where
  pub leads : LeadTo defined at path
  pub left : IsLeft table placed defined at
  pub distinct : IsDistinct bytes_eq path
  pub met_so : Indexes met path
  pub among : (name : List ℕ) → list_any (bytes_eq name) path ≡ true → list_any (bytes_eq name) (names_of defined) ≡ true

pub walk_few : (table placed met : NameTable) (defined : List Item) (path : List (List ℕ)) (at : List ℕ)
    → WalksTo table placed met defined path at → length path ≤ length defined
walk_few table placed met defined path at w =
    subst (λ n. length path ≤ n) (length-map defined name_of)
    (length-le_from_is_member bytes_laws path (names_of defined) w.distinct w.among)

last_among : (defined : List Item) (path : List (List ℕ)) (at name : List ℕ)
    → ((other : List ℕ) → list_any (bytes_eq other) path ≡ true → list_any (bytes_eq other) (names_of defined) ≡ true)
    → list_any (bytes_eq at) (names_of defined) ≡ true → list_any (bytes_eq name) (path ++ at ∷ []) ≡ true
    → list_any (bytes_eq name) (names_of defined) ≡ true
last_among defined path at name among here h =
    ⊎_elim (λ old. among name old)
    (λ new. ⊎_elim (λ same. subst (λ n. list_any (bytes_eq n) (names_of defined) ≡ true) (sym (same_text name at (sym same))) here)
    (λ no. absent (sym no))
    (or_cases (bytes_eq name at) false new))
    (or_cases (list_any (bytes_eq name) path) (list_any (bytes_eq name) (at ∷ []))
    (sym (list_any-append (bytes_eq name) path (at ∷ [])) ∙ h))

pub walk_more : (table placed met new : NameTable) (defined : List Item) (path : List (List ℕ)) (at next : List ℕ)
    → Indexes table (names_of defined) → WalksTo table placed met defined path at
    → list_any (bytes_eq at) path ≡ false → Indexes new (path ++ at ∷ []) → Uses defined at next → IsLeft table placed defined next
    → WalksTo table placed new defined (path ++ at ∷ []) next
walk_more table placed met new defined path at next indexes w fresh noted uses left = record {
  leads = leads_more defined at next path w.leads uses;
  left = left;
  distinct = IsDistinct-push bytes_laws path at w.distinct fresh;
  met_so = noted;
  among = λ name h. last_among defined path at name w.among
      (sym (named_any defined at) ∙ sym (indexes_named table defined at indexes) ∙ w.left.found) h;
}

-- where a walk meets a name again, its end goes round
pub walk_round : (table placed met : NameTable) (defined : List Item) (path : List (List ℕ)) (at : List ℕ) (from : ℕ)
    → WalksTo table placed met defined path at → place_in met at ≡ Some from
    → (from ≤ length path) × IsRound defined (drop from path)
walk_round table placed met defined path at from w found =
    let here = at_name at path from (sym (w.met_so at) ∙ found) in (
      omega (arith, here.0),
      record {
        round = subst (GoRound defined) (sym here.1) (subst (LeadTo defined at) here.1 (leads_drop defined at from path w.leads));
        distinct = distinct_drop from path w.distinct;
        among = λ name h. w.among name (any_drop (bytes_eq name) from path h);
      },
    )

-- ---- the first name of a circle

some_of : (number : Option ℕ) → is_some number ≡ true → (n : ℕ) × (number ≡ Some n)
some_of None h = absent (sym h)
some_of (Some n) h = (n, refl)

number_place : (table : NameTable) (defined : List Item) (name : List ℕ) → Indexes table (names_of defined)
    → list_any (bytes_eq name) (names_of defined) ≡ true → number_in table name ≡ place_of defined name
number_place table defined name h among =
    let found = some_of (place_in table name) (indexes_named table defined name h ∙ named_any defined name ∙ among) in
    ap (λ o. unwrap_or o 0) found.1 ∙ place_is table defined name found.0 h found.1

pub round_first : (table : NameTable) (defined : List Item) (names : List (List ℕ)) (at : ℕ) → Indexes table (names_of defined)
    → IsRound defined names → IsLowest table names at
    → IsCircle defined (drop at names ++ take at names)
round_first table defined names at h r low =
    let whole : names ≡ take at names ++ drop at names = sym (take-append-drop at names) in
    let first : List ℕ = get_or names at [] in
    let here : drop at names ≡ first ∷ drop (at + 1) names = drop_more names at [] low.0 in
    let shape : drop at names ++ take at names ≡ first ∷ (drop (at + 1) names ++ take at names) = ap (λ d. d ++ take at names) here in
    let numbered : (name : List ℕ) → list_any (bytes_eq name) names ≡ true → number_in table name ≡ place_of defined name =
    λ name m. number_place table defined name h (r.among name m) in
    let places : All (λ other. number_in table other ≡ place_of defined other) names =
    All-from_any bytes_laws (λ other. number_in table other ≡ place_of defined other) names numbered in
    let least : All (λ other. place_of defined first ≤ place_of defined other) names =
    λ k d lt. subst (λ n. n ≤ place_of defined (get_or names k d)) (places at [] low.0)
    (subst (λ n. number_in table first ≤ n) (places k d lt) (low.1 k [] d lt)) in
    record {
      round = round_turned defined (take at names) (drop at names) (subst (GoRound defined) whole r.round);
      distinct = IsDistinct-IsPermutation bytes_eq bytes_turn (take at names ++ drop at names) (drop at names ++ take at names)
          (IsPermutation-append_comm (take at names) (drop at names)) (subst (IsDistinct bytes_eq) whole r.distinct);
      begins = subst (BeginsByFirst defined) (sym shape)
          (All-append (λ other. place_of defined first ≤ place_of defined other) (drop (at + 1) names) (take at names)
          (All-drop (λ other. place_of defined first ≤ place_of defined other) (at + 1) names least)
          (All-take (λ other. place_of defined first ≤ place_of defined other) at names least));
    }

-- ---- where no definition can be placed

pub stuck_from : (table : NameTable) (lists : List (Vec ℕ Global)) (placed defined : List Item) → Settled table lists [] placed defined
    → AreStuck placed defined
stuck_from table lists placed defined s at item here free known =
    ⊎_elim (λ named. absent (sym named ∙ free))
    (λ rest. ⊎_elim (λ none. absurd none)
    (λ w. absent (sym (have_part placed (code_of item) w.name w.part.0 (have_known placed (code_of item) known) w.part.1 w.part.2)
    ∙ w.left)) rest)
    (s at item here)

-- ---- a step

-- the definition of a name that is left stands at its place in the table
pub record Stands (defined : List Item) (name : List ℕ) (place : ℕ) : Type 0 where
  pub item : Item
  pub here : At defined place item
  pub named : name_of item ≡ name

pub left_stands : (table placed : NameTable) (defined : List Item) (name : List ℕ) (place : ℕ) → Indexes table (names_of defined)
    → IsLeft table placed defined name
    → place ≡ unwrap_or (place_in table name) 0 → Stands defined name place
left_stands table placed defined name place h left is =
    let found = some_of (place_in table name) left.found in
    let same : place ≡ found.0 = is ∙ ap (λ o. unwrap_or o 0) found.1 in
    let r = item_of table defined name found.0 h found.1 in
    record { item = r.0; here = subst (λ p. At defined p r.0) (sym same) r.1; named = r.2 }

get_any : {X : Type 0} (xs : List X) (k : ℕ) (a b : X) → k < length xs → get_or xs k a ≡ get_or xs k b
get_any [] k a b h = absurd (omega (arith, h))
get_any (x ∷ xs) zero a b h = refl
get_any (x ∷ xs) (suc k) a b h = get_any xs k a b (omega (arith, h))

-- the item at its place is the same
stands_is : (defined : List Item) (name : List ℕ) (place : ℕ) (item : Item) → Stands defined name place → item ≡ get_or defined place item
    → At defined place item × (name_of item ≡ name)
stands_is defined name place item s is =
    let same : item ≡ s.item = is ∙ get_any defined place item s.item s.here.0 ∙ s.here.1 in
    ((s.here.0, sym is), ap name_of same ∙ s.named)

used_def : (item : Item) (name : List ℕ) → Contains (code_of item) (Name name) → item ≡ Def (name_of item) (code_of item)
used_def (Extern other) name h = absurd (omega (arith, h.1))
used_def (Def other code) name h = refl

-- one that isn't known is found in its code
pub step_found : (table placed : NameTable) (defined : List Item) (name : List ℕ) (place : ℕ) (item : Item) (found : Option ℕ)
    → Stands defined name place → item ≡ get_or defined place item
    → IsLeft table placed defined name
    → ((items : List Item) → Lists placed items → IfNone found (list_all (is_known items) (code_of item) ≡ true))
    → (at : ℕ) × (found ≡ Some at)
step_found table placed defined name place item (Some at) s is left none = (at, refl)
step_found table placed defined name place item None s is left none =
    let here = stands_is defined name place item s is in
    absurd (left.stuck place item here.0 (ap (is_named left.before) here.1 ∙ left.left) (none left.before left.lists))

-- what looking for a name that isn't placed tells
pub record Looked (placed : NameTable) (code : List Part) (found : Option ℕ) : Type 0 where
  pub bound : IfSome found (λ at. at < length code)
  pub some : (items : List Item) → Lists placed items → IfSome found (λ at. is_known items (get_or code at Add) ≡ false)
  pub none : (items : List Item) → Lists placed items → IfNone found (list_all (is_known items) code ≡ true)

-- the place that is gone on with is one of a name that isn't placed
pub record Lacks (placed : NameTable) (code : List Part) (at : ℕ) : Type 0 where
  pub within : at < length code
  pub unknown : (items : List Item) → Lists placed items → is_known items (get_or code at Add) ≡ false

pub step_lacks : (table placed : NameTable) (defined : List Item) (name : List ℕ) (place : ℕ) (item : Item) (code : List Part)
    (found : Option ℕ) (at : ℕ) → Stands defined name place → item ≡ get_or defined place item
    → IsLeft table placed defined name → code ≡ code_of item → Looked placed code found → at ≡ unwrap_or found 0
    → Lacks placed (code_of item) at
step_lacks table placed defined name place item code found at s is left coded looked which =
    let here : Looked placed (code_of item) found = subst (λ c. Looked placed c found) coded looked in
    let some = step_found table placed defined name place item found s is left here.none in
    let same : at ≡ some.0 = which ∙ ap (λ o. unwrap_or o 0) some.1 in
    record {
      within = subst (λ k. k < length (code_of item)) (sym same) (subst (λ o. IfSome o (λ k. k < length (code_of item))) some.1 here.bound);
      unknown = λ items lists. subst (λ k. is_known items (get_or (code_of item) k Add) ≡ false) (sym same)
          (subst (λ o. IfSome o (λ k. is_known items (get_or (code_of item) k Add) ≡ false)) some.1 (here.some items lists));
    }

-- it is a use, and left
pub step_uses : (table placed : NameTable) (defined : List Item) (name next : List ℕ) (place : ℕ) (item : Item) (at : ℕ) (part : Part)
    → Stands defined name place → item ≡ get_or defined place item
    → AllUsed table defined → IsLeft table placed defined name → at < length (code_of item) → part ≡ get_or (code_of item) at part
    → ((items : List Item) → Lists placed items → is_known items (get_or (code_of item) at Add) ≡ false)
    → ((items : List Item) → is_known items part ≡ false → part ≡ Name next)
    → Uses defined name next × IsLeft table placed defined next
step_uses table placed defined name next place item at part s is used left lt there unknown names =
    let here = stands_is defined name place item s is in
    let missed : is_known left.before part ≡ false = ap (is_known left.before) (there ∙ get_any (code_of item) at part Add lt)
    ∙ unknown left.before left.lists in
    let named : part ≡ Name next = names left.before missed in
    let among : Contains (code_of item) (Name next) = (at, lt, get_any (code_of item) at (Name next) part lt ∙ sym there ∙ named) in
    let contained : Contains defined item = (place, here.0.0, here.0.1) in
    let whole : item ≡ Def name (code_of item) = used_def item next among ∙ ap (λ n. Def n (code_of item)) here.1 in (
      record { code = code_of item; defined = subst (Contains defined) whole contained; part = among },
      record {
        before = left.before;
        lists = left.lists;
        stuck = left.stuck;
        left = ap (is_known left.before) (sym named)
            ∙ missed;
        found = used item next contained among;
      },
    )

-- ---- the start and the end of a walk

distinct_none : IsDistinct bytes_eq []
unfolding IsDistinct
distinct_none = tt

pub walk_none : (table placed met : NameTable) (defined : List Item) (path : List (List ℕ)) (at : List ℕ) → path ≡ []
    → ((name : List ℕ) → place_in met name ≡ None) → IsLeft table placed defined at
    → WalksTo table placed met defined path at
walk_none table placed met defined path at e none left =
    subst (λ p. WalksTo table placed met defined p at) (sym e)
    (record { leads = tt; left = left; distinct = distinct_none; met_so = none; among = λ name h. absent (sym h) })

pub some_at : (found : Option ℕ) (n : ℕ) → is_some found ≡ true → n ≡ unwrap_or found 0 → found ≡ Some n
some_at found n h is = let some = some_of found h in some.1 ∙ ap (λ (k : ℕ). Some k) (sym (is ∙ ap (λ o. unwrap_or o 0) some.1))

-- ---- all that can be placed is placed

pub record Halted (table placed : NameTable) (text : List ℕ) (lists : List (Vec ℕ Global)) (defined : List Item) : Type 0 where
  pub before : List Item
  pub so : PlacedSo placed text before defined
  pub settled : Settled table lists [] before defined

pub left_at : (table placed : NameTable) (text : List ℕ) (lists : List (Vec ℕ Global)) (defined : List Item) (name : List ℕ)
    → Indexes table (names_of defined) → Halted table placed text lists defined
    → is_some (place_in placed name) ≡ false → is_named defined name ≡ true → IsLeft table placed defined name
left_at table placed text lists defined name h halted left named = record {
  before = halted.before;
  lists = halted.so.lists;
  stuck = stuck_from table lists halted.before defined halted.settled;
  left = sym (halted.so.lists name) ∙ left;
  found = indexes_named table defined name h ∙ named;
}

pub order_at : (table placed : NameTable) (text : List ℕ) (lists : List (Vec ℕ Global)) (defined : List Item)
    → Halted table placed text lists defined
    → All (λ item. is_some (place_in placed (name_of item)) ≡ true) defined
    → (order : List Item) × IsImageOrder defined [] order × (text ≡ image_of order)
order_at table placed text lists defined halted all = (
  halted.before,
  subst (IsImageOrder defined []) (append-nil halted.before)
      (halted.so.whole [] (λ k d lt. sym (halted.so.lists (name_of (get_or defined k d))) ∙ all k d lt)),
  halted.so.says,
)

all_one : (P : Item → Type 0) (x : Item) → P x → All P (x ∷ [])
all_one P x p = All-cons P x [] p (All-nil P)

pub all_more : (P : Item → Type 0) (items : List Item) (i : ℕ) (item : Item) → i < length items → item ≡ get_or items i item
    → All P (take i items) → P item → All P (take (i + 1) items)
all_more P items i item lt is h p =
    subst (All P) (sym (take_more items i item lt))
    (All-append P (take i items) (get_or items i item ∷ []) h (all_one P (get_or items i item) (subst P is p)))
