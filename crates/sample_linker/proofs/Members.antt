-- Items among items by their names, and definitions in an order that an image may have.
use Rattle.std.proofs.Common.{◌≡◌, ℕ, zero, suc, ◌<◌, Bool, true, false, cond, List, [], ◌∷◌, ◌++◌, length, get_or, Option, Some, None}
use Rattle.std.proofs.Common.{refl, ap, sym, ◌∙◌, subst, ◌⊎◌, inl, inr, ⊎_elim, append_assoc, arith}
use Rattle.std.specs.Prelude.{All, ◌||◌}
use Rattle.std.specs.List.{Contains}
use Rattle.std.specs.Str.{bytes_eq}
use Rattle.std.proofs.lemmas.Bool.{or_cases}
use Rattle.std.proofs.lemmas.List.{append-nil}
use Rattle.std.proofs.lemmas.List.Elements.{All-contains}
use Rattle.std.specs.Cmp.Lexicographic.{same_text}
use Rattle.std.proofs.lemmas.List.Folds.{list_any-append}
use Rattle.sample_lang.specs.declared.program.Part.{Part}
use Rattle.sample_lang.specs.declared.program.Part.TheVariants.{Number, Name, Add, Sub, Mul}
use Rattle.sample_lang.specs.declared.program.Item.{Item}
use Rattle.sample_lang.specs.declared.program.Item.TheVariants.{Def}
use Rattle.sample_lang.specs.Names.{is_named, name_of, code_of, HaveNames}
use Rattle.sample_linker.specs.Orders.{Uses, LeadTo, IsNext, IsImageOrder}
use Rattle.sample_linker.specs.Links.{doubled}
use Rattle.sample_linker.specs.Sources.{UsesItself}
use Rattle.sample_linker.proofs.Numbers.{last_named, same_bytes}

pub unlike : {P : Type 0} → true ≡ false → P
unlike h = cc

-- ---- members

abbrev pub Member : Item → List Item → Type 0
Member x [] = ⊥
Member x (y ∷ ys) = (y ≡ x) ⊎ Member x ys

member_mid : (front back : List Item) (x : Item) → Member x (front ++ x ∷ back)
member_mid [] back x = inl refl
member_mid (y ∷ front) back x = inr (member_mid front back x)

member_at : (xs : List Item) (k : ℕ) (x : Item) → k < length xs → get_or xs k x ≡ x → Member x xs
member_at [] k x h e = absurd (omega (arith, h))
member_at (y ∷ ys) zero x h e = inl e
member_at (y ∷ ys) (suc k) x h e = inr (member_at ys k x (omega (arith, h)) e)

pub member_contained : (xs : List Item) (x : Item) → Contains xs x → Member x xs
member_contained xs x h = member_at xs h.0 x h.1 h.2

same_name : (item : Item) (name : List ℕ) → bytes_eq (name_of item) name ≡ true → name_of item ≡ name
same_name item name h = same_text (name_of item) name (sym h)

pub named_member : (items : List Item) (name : List ℕ) → is_named items name ≡ true
    → (item : Item) × Member item items × (name_of item ≡ name)
named_member [] name h = unlike (sym h)
named_member (item ∷ items) name h =
    ⊎_elim (λ here. (item, inl refl, same_name item name here))
    (λ later. let found = named_member items name later in (found.0, inr found.1, found.2))
    (or_cases (bytes_eq (name_of item) name) (is_named items name) h)

not_named : (earlier : List Item) (b : Bool) (name : List ℕ) (rest : Option (List ℕ)) → cond b (Some name) rest ≡ None
    → (b ≡ false) × (rest ≡ None)
not_named earlier true name rest h = cc
not_named earlier false name rest h = (refl, h)

left_false : (a b : Bool) → (a || b) ≡ false → a ≡ false
left_false true b h = h
left_false false b h = refl

named_kept : (items more : List Item) (name : List ℕ) → is_named (items ++ more) name ≡ false → is_named items name ≡ false
named_kept items more name h = left_false (is_named items name) (is_named more name)
    (sym (list_any-append (λ item. bytes_eq (name_of item) name) items more) ∙ h)

-- a definition among these has a name that no earlier one has
fresh_member : (earlier items : List Item) (x : Item) → doubled earlier items ≡ None → Member x items → is_named earlier (name_of x) ≡ false
fresh_member earlier [] x h m = absurd m
fresh_member earlier (item ∷ items) x h m =
    let first = not_named earlier (is_named earlier (name_of item)) (name_of item) (doubled (earlier ++ item ∷ []) items) h in
    ⊎_elim (λ here. subst (λ i. is_named earlier (name_of i) ≡ false) here first.0)
    (λ later. named_kept earlier (item ∷ []) (name_of x) (fresh_member (earlier ++ item ∷ []) items x first.1 later)) m

apart : (earlier items : List Item) (item x : Item) → doubled (earlier ++ item ∷ []) items ≡ None → Member x items
    → name_of item ≡ name_of x → ⊥
apart earlier items item x h m e =
    unlike (sym (last_named earlier item) ∙ ap (is_named (earlier ++ item ∷ [])) e ∙ fresh_member (earlier ++ item ∷ []) items x h m)

-- two definitions with one name are one
pub one_member : (earlier items : List Item) (x y : Item) → doubled earlier items ≡ None → Member x items → Member y items
    → name_of x ≡ name_of y → x ≡ y
one_member earlier [] x y h m n e = absurd m
one_member earlier (item ∷ items) x y h m n e =
    let first = not_named earlier (is_named earlier (name_of item)) (name_of item) (doubled (earlier ++ item ∷ []) items) h in
    ⊎_elim
    (λ x_here. ⊎_elim (λ y_here. sym x_here ∙ y_here)
    (λ y_later. absurd (apart earlier items item y first.1 y_later (ap name_of x_here ∙ e))) n)
    (λ x_later. ⊎_elim (λ y_here. absurd (apart earlier items item x first.1 x_later (ap name_of y_here ∙ sym e)))
    (λ y_later. one_member (earlier ++ item ∷ []) items x y first.1 x_later y_later e) n)
    m

-- ---- an order has no circles

have_rest : (items : List Item) (part : Part) (code : List Part) → HaveNames items (part ∷ code) → HaveNames items code
have_rest items (Name other) code h = h.1
have_rest items (Number n) code h = h
have_rest items Add code h = h
have_rest items Sub code h = h
have_rest items Mul code h = h

one_name : (a b : List ℕ) → Name a ≡ Name b → a ≡ b
one_name a b h = cc

pub have_part : (items : List Item) (code : List Part) (name : List ℕ) (k : ℕ) → HaveNames items code → k < length code
    → get_or code k (Name name) ≡ Name name → is_named items name ≡ true
have_part items [] name k h l e = absurd (omega (arith, l))
have_part items (Name other ∷ code) name zero h l e = subst (λ n. is_named items n ≡ true) (one_name other name e) h.0
have_part items (Number n ∷ code) name zero h l e = cc
have_part items (Add ∷ code) name zero h l e = cc
have_part items (Sub ∷ code) name zero h l e = cc
have_part items (Mul ∷ code) name zero h l e = cc
have_part items (part ∷ code) name (suc k) h l e = have_part items code name k (have_rest items part code h) (omega (arith, l)) e

-- what a placed definition uses is placed
abbrev Closed : List Item → List Item → Type 0
Closed defined placed = (name used : List ℕ) → is_named placed name ≡ true → Uses defined name used → is_named placed used ≡ true

stays : (defined placed : List Item) (end name : List ℕ) (names : List (List ℕ)) → Closed defined placed → is_named placed name ≡ true
    → LeadTo defined end (name ∷ names) → is_named placed end ≡ true
stays defined placed end name [] c h l = c name end h l
stays defined placed end name (next ∷ names) c h l = stays defined placed end next names c (c name next h l.0) l.1

abbrev NoneRound : List Item → List Item → Type 0
NoneRound defined placed = (name : List ℕ) → is_named placed name ≡ true → UsesItself defined name → ⊥

last_name : (next : Item) (name : List ℕ) → (bytes_eq (name_of next) name ≡ true) ⊎ (false ≡ true) → name_of next ≡ name
last_name next name (inl h) = same_text (name_of next) name (sym h)
last_name next name (inr h) = unlike (sym h)

pub push_cases : (placed : List Item) (next : Item) (name : List ℕ) → is_named (placed ++ next ∷ []) name ≡ true
    → (is_named placed name ≡ true) ⊎ (name_of next ≡ name)
push_cases placed next name h =
    ⊎_elim (λ old. inl old)
    (λ new. inr (last_name next name (or_cases (bytes_eq (name_of next) name) false new)))
    (or_cases (is_named placed name) (is_named (next ∷ []) name)
    (sym (list_any-append (λ item. bytes_eq (name_of item) name) placed (next ∷ [])) ∙ h))

pub more_named : (placed : List Item) (next : Item) (name : List ℕ) → is_named placed name ≡ true
    → is_named (placed ++ next ∷ []) name ≡ true
more_named placed next name h = list_any-append (λ item. bytes_eq (name_of item) name) placed (next ∷ [])
    ∙ ap (λ b. b || is_named (next ∷ []) name) h

next_uses : (defined placed : List Item) (next : Item) (used : List ℕ) → doubled [] defined ≡ None → IsNext defined placed next
    → Uses defined (name_of next) used → is_named placed used ≡ true
next_uses defined placed next used once n u =
    let itself : Member next defined = subst (Member next) (sym n.split) (member_mid n.front n.back next) in
    let same : Def (name_of next) u.code ≡ next =
    one_member [] defined (Def (name_of next) u.code) next once
    (member_contained defined (Def (name_of next) u.code) u.defined) itself refl in
    have_part placed u.code used u.part.0 (subst (λ i. HaveNames placed (code_of i)) (sym same) n.ready) u.part.1 u.part.2

closed_push : (defined placed : List Item) (next : Item) → doubled [] defined ≡ None → IsNext defined placed next → Closed defined placed
    → Closed defined (placed ++ next ∷ [])
closed_push defined placed next once n c name used h u =
    ⊎_elim (λ old. more_named placed next used (c name used old u))
    (λ new. more_named placed next used (next_uses defined placed next used once n (subst (λ m. Uses defined m used) (sym new) u)))
    (push_cases placed next name h)

next_leads : (defined placed : List Item) (next : Item) (through : List (List ℕ)) → doubled [] defined ≡ None → IsNext defined placed next
    → Closed defined placed
    → LeadTo defined (name_of next) (name_of next ∷ through) → ⊥
next_leads defined placed next [] once n c l = unlike (sym (next_uses defined placed next (name_of next) once n l) ∙ n.left)
next_leads defined placed next (used ∷ more) once n c l =
    unlike (sym (stays defined placed (name_of next) used more c (next_uses defined placed next used once n l.0) l.1) ∙ n.left)

next_straight : (defined placed : List Item) (next : Item) → doubled [] defined ≡ None → IsNext defined placed next → Closed defined placed
    → UsesItself defined (name_of next) → ⊥
next_straight defined placed next once n c round = next_leads defined placed next round.0 once n c round.1

straight_push : (defined placed : List Item) (next : Item) → doubled [] defined ≡ None → IsNext defined placed next → Closed defined placed
    → NoneRound defined placed → NoneRound defined (placed ++ next ∷ [])
straight_push defined placed next once n c s name h round =
    ⊎_elim (λ old. s name old round)
    (λ new. next_straight defined placed next once n c (subst (UsesItself defined) (sym new) round))
    (push_cases placed next name h)

first_use : (defined : List Item) (end name : List ℕ) (names : List (List ℕ)) → LeadTo defined end (name ∷ names)
    → (used : List ℕ) × Uses defined name used
first_use defined end name [] l = (end, l)
first_use defined end name (next ∷ names) l = (next, l.0)

pub order_straight : (defined placed more : List Item) → doubled [] defined ≡ None → IsImageOrder defined placed more
    → Closed defined placed
    → NoneRound defined placed
    → (name : List ℕ) → UsesItself defined name → ⊥
order_straight defined placed [] once o c s name round =
    let use_of = (first_use defined name name round.0 round.1).1 in
    s name (All-contains (λ definition. is_named placed (name_of definition) ≡ true) defined (Def name use_of.code) o use_of.defined) round
order_straight defined placed (next ∷ more) once o c s name round =
    order_straight defined (placed ++ next ∷ []) more once o.1 (closed_push defined placed next once o.0 c)
    (straight_push defined placed next once o.0 c s) name round

-- ---- the order has the definitions

pub order_members : (defined placed more : List Item) (item : Item) → IsImageOrder defined placed more → Member item more
    → Member item defined
order_members defined placed [] item o m = absurd m
order_members defined placed (next ∷ more) item o m =
    ⊎_elim (λ here. subst (λ i. Member i defined) here (subst (Member next) (sym o.0.split) (member_mid o.0.front o.0.back next)))
    (λ later. order_members defined (placed ++ next ∷ []) more item o.1 later) m

pub order_named : (defined placed more : List Item) → IsImageOrder defined placed more
    → All (λ definition. is_named (placed ++ more) (name_of definition) ≡ true) defined
order_named defined placed [] o = subst (λ is. All (λ definition. is_named is (name_of definition) ≡ true) defined)
    (sym (append-nil placed)) o
order_named defined placed (next ∷ more) o =
    subst (λ is. All (λ definition. is_named is (name_of definition) ≡ true) defined) (append_assoc placed (next ∷ []) more)
    (order_named defined (placed ++ next ∷ []) more o.1)

or_true : (b : Bool) → (b || true) ≡ true
or_true true = refl
or_true false = refl

pub member_named : (items : List Item) (item : Item) (name : List ℕ) → Member item items → name_of item ≡ name → is_named items name ≡ true
member_named [] item name m e = absurd m
member_named (other ∷ items) item name m e =
    ⊎_elim (λ here. ap (λ b. b || is_named items name) (subst (λ n. bytes_eq n name ≡ true) (sym (ap name_of here ∙ e)) (same_bytes name)))
    (λ later. ap (λ b. bytes_eq (name_of other) name || b) (member_named items item name later e)
    ∙ or_true (bytes_eq (name_of other) name)) m
