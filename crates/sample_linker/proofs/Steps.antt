-- How definitions are placed.
use Rattle.std.proofs.Common.{◌≡◌, ℕ, zero, suc, ◌<◌, ◌≤◌, Bool, true, false, List, [], ◌∷◌, ◌++◌, length, take, drop, get_or, codes}
use Rattle.std.proofs.Common.{Option, Some, None, refl, ap, sym, ◌∙◌, subst, ◌⊎◌, inl, inr, ⊎_elim, append_assoc, arith}
use Rattle.std.specs.Prelude.{Vec}
use Rattle.std.specs.Global.{Global}
use Rattle.std.specs.List.{Contains, list_all, flat_map}
use Rattle.std.proofs.Math.Seq.{split_at}
use Rattle.std.proofs.lemmas.List.{append-nil}
use Rattle.std.proofs.lemmas.List.Concat.{flat_map-cons}
use Rattle.std.proofs.lemmas.Grind.{flat_map-append}
use Rattle.std.specs.Option.{is_some}
use Rattle.sample_lang.specs.declared.program.Part.{Part}
use Rattle.sample_lang.specs.declared.program.Part.TheVariants.{Name, Add}
use Rattle.sample_lang.specs.declared.program.Item.{Item}
use Rattle.sample_lang.specs.Names.{is_named, name_of, code_of}
use Rattle.sample_linker.specs.declared.name_table.NameTable.{NameTable}
use Rattle.sample_linker.specs.Files.{is_known}
use Rattle.sample_compiler.specs.Objects.{item_line}
use Rattle.sample_linker.specs.Tables.{place_in}
use Rattle.sample_linker.specs.Reads.{Lists}
use Rattle.sample_linker.specs.Orders.{IsNext, IsImageOrder}
use Rattle.sample_linker.specs.Links.{image_of}
use Rattle.sample_linker.specs.Waits.{Has, Awaits, Wakes, At, Waits, Settled, PlacedSo}
use Rattle.sample_linker.proofs.Numbers.{last_named}
use Rattle.sample_linker.proofs.Sets.{some_is}
use Rattle.sample_linker.proofs.Soundness.{have_known}
use Rattle.sample_linker.proofs.Members.{push_cases, more_named, have_part}

never : {P : Type 0} → true ≡ false → P
never h = cc

at_one : (defined : List Item) (k : ℕ) (x y : Item) → At defined k x → At defined k y → x ≡ y
at_one [] k x y h g = absurd (omega (arith, h.0))
at_one (d ∷ ds) zero x y h g = sym h.1 ∙ g.1
at_one (d ∷ ds) (suc k) x y h g = at_one ds k x y (omega (arith, h.0), h.1) (omega (arith, g.0), g.1)

abbrev Now : NameTable → List (Vec ℕ Global) → List ℕ → List Item → ℕ → Item → Type 0
Now table lists seen placed at item = (is_named placed (name_of item) ≡ true) ⊎ (Has seen at ⊎ Waits table lists placed at item)

-- the definition at one place was looked at, and the others stand as they did
settled_map : (table : NameTable) (lists new : List (Vec ℕ Global)) (at : ℕ) (seen more : List ℕ) (placed then : List Item)
    (defined : List Item)
    → Settled table lists (at ∷ seen) placed defined
    → ((item : Item) → At defined at item → Now table new more then at item)
    → ((name : List ℕ) → is_named placed name ≡ true → is_named then name ≡ true)
    → ((k : ℕ) → Has seen k → Has more k)
    → ((k : ℕ) (item : Item) → Waits table lists placed k item → Now table new more then k item)
    → Settled table new more then defined
settled_map table lists new at seen more placed then defined s here named kept waits k item there =
    ⊎_elim (λ p. inl (named (name_of item) p))
    (λ rest. ⊎_elim
    (λ looked. ⊎_elim (λ same. subst (λ j. Now table new more then j item) same
    (here item (subst (λ j. At defined j item) (sym same) there))) (λ later. inr (inl (kept k later))) looked)
    (λ w. waits k item w) rest)
    (s k item there)

-- there is no such place
pub settled_past : (table : NameTable) (lists : List (Vec ℕ Global)) (at : ℕ) (seen : List ℕ) (placed defined : List Item)
    → length defined ≤ at
    → Settled table lists (at ∷ seen) placed defined → Settled table lists seen placed defined
settled_past table lists at seen placed defined le s =
    settled_map table lists lists at seen seen placed placed defined s (λ item there. absurd (omega (arith, le, there.0))) (λ n h. h)
    (λ k h. h) (λ k item w. inr (inr w))

-- it was placed before
pub settled_done : (table : NameTable) (lists : List (Vec ℕ Global)) (at : ℕ) (seen : List ℕ) (placed defined : List Item) (item : Item)
    → At defined at item → is_named placed (name_of item) ≡ true
    → Settled table lists (at ∷ seen) placed defined → Settled table lists seen placed defined
settled_done table lists at seen placed defined item is h s =
    settled_map table lists lists at seen seen placed placed defined s
    (λ other there. inl (subst (λ i. is_named placed (name_of i) ≡ true) (at_one defined at item other is there) h)) (λ n k. k) (λ k m. m)
    (λ k other w. inr (inr w))

wait_kept : (table : NameTable) (lists new : List (Vec ℕ Global)) (placed : List Item) (k : ℕ) (item : Item)
    → ((other n : ℕ) → Awaits lists other n → Awaits new other n)
    → Waits table lists placed k item → Waits table new placed k item
wait_kept table lists new placed k item f w =
    record { name = w.name; place = w.place; part = w.part; left = w.left; found = w.found; awaits = f w.place k w.awaits }

-- it waits
pub settled_wait : (table : NameTable) (lists new : List (Vec ℕ Global)) (at : ℕ) (seen : List ℕ) (placed defined : List Item)
    (item : Item) → At defined at item → Waits table new placed at item
    → ((other n : ℕ) → Awaits lists other n → Awaits new other n) → Settled table lists (at ∷ seen) placed defined
    → Settled table new seen placed defined
settled_wait table lists new at seen placed defined item is w f s =
    settled_map table lists new at seen seen placed placed defined s
    (λ other there. inr (inr (subst (λ i. Waits table new placed at i) (at_one defined at item other is there) w))) (λ n k. k) (λ k m. m)
    (λ k other v. inr (inr (wait_kept table lists new placed k other f v)))

woken_by : (table : NameTable) (lists new : List (Vec ℕ Global)) (seen more : List ℕ) (placed : List Item) (next : Item) (place k : ℕ)
    (item : Item) (w : Waits table lists placed k item) (b : Bool)
    → is_named (placed ++ next ∷ []) w.name ≡ b → place_in table (name_of next) ≡ Some place → Wakes lists new seen more place
    → Now table new more (placed ++ next ∷ []) k item
woken_by table lists new seen more placed next place k item w true e found h =
    ⊎_elim (λ old. never (sym old ∙ w.left))
    (λ same. inr (inl (h.taken k
    (subst (λ q. Awaits lists q k) (sym (some_is place w.place (sym found ∙ ap (place_in table) same ∙ w.found))) w.awaits))))
    (push_cases placed next w.name e)
woken_by table lists new seen more placed next place k item w false e found h =
    ⊎_elim (λ woke. inr (inl woke))
    (λ still. inr (inr (record { name = w.name; place = w.place; part = w.part; left = e; found = w.found; awaits = still })))
    (h.kept w.place k w.awaits)

-- it is placed
pub settled_place : (table : NameTable) (lists new : List (Vec ℕ Global)) (at : ℕ) (seen more : List ℕ) (placed defined : List Item)
    (item : Item) (place : ℕ) → At defined at item
    → place_in table (name_of item) ≡ Some place → Wakes lists new seen more place → Settled table lists (at ∷ seen) placed defined
    → Settled table new more (placed ++ item ∷ []) defined
settled_place table lists new at seen more placed defined item place is found h s =
    settled_map table lists new at seen more placed (placed ++ item ∷ []) defined s
    (λ other there. inl (subst (λ i. is_named (placed ++ item ∷ []) (name_of i) ≡ true) (at_one defined at item other is there)
    (last_named placed item)))
    (λ n k. more_named placed item n k) h.seen_kept
    (λ k other w. woken_by table lists new seen more placed item place k other w (is_named (placed ++ item ∷ []) w.name) refl found h)

-- ---- the next definition

front_at : (defined : List Item) (at k : ℕ) (x : Item) → k < length (take at defined) → get_or (take at defined) k x ≡ x
    → (k < at) × At defined k x
front_at defined zero k x h e = absurd (omega (arith, h))
front_at [] (suc at) k x h e = absurd (omega (arith, h))
front_at (d ∷ ds) (suc at) zero x h e = (omega arith, (omega arith, e))
front_at (d ∷ ds) (suc at) (suc k) x h e =
    let r = front_at ds at k x (omega (arith, h)) e in
    (omega (arith, r.0), (omega (arith, r.1.0), r.1.1))

-- the least one that is to be looked at comes next, where it is left and all of its names are placed
pub next_is : (table : NameTable) (lists : List (Vec ℕ Global)) (at : ℕ) (seen : List ℕ) (placed defined : List Item) (item : Item)
    → At defined at item
    → Settled table lists (at ∷ seen) placed defined → ((k : ℕ) → Has seen k → at < k) → is_named placed (name_of item) ≡ false
    → list_all (is_known placed) (code_of item) ≡ true
    → IsNext defined placed item
next_is table lists at seen placed defined item is s above free known = record {
  front = take at defined;
  back = drop (suc at) defined;
  split = split_at defined at item is.0 ∙ ap (λ x. take at defined ++ x ∷ drop (suc at) defined) is.1;
  left = free;
  ready = have_known placed (code_of item) known;
  first = λ earlier there open_ have.
      let place = front_at defined at there.0 earlier there.1 there.2 in
      ⊎_elim (λ named. never (sym named ∙ open_))
      (λ rest. ⊎_elim
      (λ looked. ⊎_elim (λ same. omega (arith, same, place.0)) (λ later. omega (arith, above there.0 later, place.0)) looked)
      (λ w. never (sym (have_part placed (code_of earlier) w.name w.part.0 have w.part.1 w.part.2) ∙ w.left)) rest)
      (s there.0 earlier place.1);
}

image_more : (placed : List Item) (item : Item) → image_of placed ++ item_line item ≡ image_of (placed ++ item ∷ [])
image_more placed item =
    append_assoc (codes "SCP1\n") (flat_map item_line placed) (item_line item)
    ∙ ap (λ t. codes "SCP1\n" ++ t)
    (ap (λ t. flat_map item_line placed ++ t) (sym (flat_map-cons item_line item [] ∙ append-nil (item_line item)))
    ∙ sym (flat_map-append item_line placed (item ∷ [])))

-- the image grows by the line of the next definition
pub placed_more : (table new : NameTable) (text grown : List ℕ) (placed defined : List Item) (item : Item)
    → PlacedSo table text placed defined → IsNext defined placed item
    → Lists new (placed ++ item ∷ []) → grown ≡ text ++ item_line item → PlacedSo new grown (placed ++ item ∷ []) defined
placed_more table new text grown placed defined item p next lists e = record {
  lists = lists;
  says = e ∙ ap (λ t. t ++ item_line item) p.says ∙ image_more placed item;
  whole = λ more order. subst (IsImageOrder defined []) (sym (append_assoc placed (item ∷ []) more)) (p.whole (item ∷ more) (next, order));
}

-- nothing is placed
pub placed_none : (table : NameTable) (text : List ℕ) (defined : List Item) → Lists table [] → text ≡ image_of []
    → PlacedSo table text [] defined
placed_none table text defined lists e = record { lists = lists; says = e; whole = λ more order. order }

-- ---- one look

get_any : (code : List Part) (i : ℕ) (a b : Part) → i < length code → get_or code i a ≡ get_or code i b
get_any [] i a b h = absurd (omega (arith, h))
get_any (p ∷ ps) zero a b h = refl
get_any (p ∷ ps) (suc i) a b h = get_any ps i a b (omega (arith, h))

some_of : (number : Option ℕ) → is_some number ≡ true → (n : ℕ) × (number ≡ Some n)
some_of None h = cc
some_of (Some n) h = (n, refl)

pub look_waits : (table : NameTable) (lists new : List (Vec ℕ Global)) (at : ℕ) (seen : List ℕ) (placed defined : List Item) (item : Item)
    (code : List Part) (found : ℕ) (part : Part) (name : List ℕ)
    → At defined at item → code ≡ code_of item → found < length code → part ≡ get_or code found part
    → is_known placed (get_or code found Add) ≡ false
    → (is_known placed part ≡ false → part ≡ Name name)
    → ((used : List ℕ) → Contains (code_of item) (Name used) → is_some (place_in table used) ≡ true)
    → ((place : ℕ) → place_in table name ≡ Some place → Awaits new place at)
    → ((other n : ℕ) → Awaits lists other n → Awaits new other n)
    → Settled table lists (at ∷ seen) placed defined → Settled table new seen placed defined
look_waits table lists new at seen placed defined item code found part name here coded lt is unknown names used waits kept s =
    let missed : is_known placed part ≡ false = ap (is_known placed) (is ∙ get_any code found part Add lt) ∙ unknown in
    let named : part ≡ Name name = names missed in
    let has : Contains code (Name name) = (found, lt, get_any code found (Name name) part lt ∙ sym is ∙ named) in
    let among : Contains (code_of item) (Name name) = subst (λ c. Contains c (Name name)) coded has in
    let place = some_of (place_in table name) (used name among) in
    settled_wait table lists new at seen placed defined item here
    (record {
      name = name;
      place = place.0;
      part = among;
      left = ap (is_known placed) (sym named)
          ∙ missed;
      found = place.1;
      awaits = waits place.0 place.1;
    }) kept s

pub look_places : (table old grown : NameTable) (lists new : List (Vec ℕ Global)) (text image : List ℕ) (at : ℕ) (seen more : List ℕ)
    (placed defined : List Item) (item : Item) (code : List Part)
    → At defined at item → code ≡ code_of item → is_named placed (name_of item) ≡ false → list_all (is_known placed) code ≡ true
    → is_some (place_in table (name_of item)) ≡ true
    → Lists grown (placed ++ item ∷ []) → image ≡ text ++ item_line item
    → ((place : ℕ) → place_in table (name_of item) ≡ Some place → Wakes lists new seen more place)
    → PlacedSo old text placed defined → Settled table lists (at ∷ seen) placed defined → ((k : ℕ) → Has seen k → at < k)
    → (then : List Item) × PlacedSo grown image then defined × Settled table new more then defined
look_places table old grown lists new text image at seen more placed defined item code here coded free known own listed line wakes
    so s above =
    let next = next_is table lists at seen placed defined item here s above free
    (subst (λ c. list_all (is_known placed) c ≡ true) coded known) in
    let place = some_of (place_in table (name_of item)) own in (
      placed ++ item ∷ [],
      placed_more old grown text image placed defined item so next listed line,
      settled_place table lists new at seen more placed defined item place.0 here place.1 (wakes place.0 place.1) s,
    )
