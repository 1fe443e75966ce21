-- Callers are served in the order in which they asked.
use Rattle.std.proofs.Common.{◌≡◌, inl, inr, ℕ, ◌≤◌, Bool, true, false, ◌||◌, not, cond, List, [], ◌∷◌}
use Rattle.std.proofs.Common.{◌++◌, Option, Some, None, nat_eq, length, refl, sym, ap}
use Rattle.std.proofs.Common.{◌∙◌, subst, arith, append_assoc, eq-eqb}
use Rattle.std.specs.Prelude.{filter}
use Rattle.std.specs.List.{cons_option}
use Rattle.std.proofs.lemmas.List.{append-nil}
use Rattle.slot_table.specs.declared.state.SlotState.{SlotState}
use Rattle.slot_desk.specs.declared.event.Event.{Event}
use Rattle.slot_desk.specs.declared.event.Event.TheVariants.{Ask, AskLocal, AskWithin, Done, Broke, Lost, Next}
use Rattle.slot_desk.specs.declared.event.Loan.{Loan}
use Rattle.slot_desk.specs.declared.event.Reply.TheVariants.{Nobody, Alone}
use Rattle.slot_desk.specs.declared.event.Waiter.{Waiter}
use Rattle.slot_desk.specs.Desk.{Rules, State, opened, waits_as, is_known, is_full, asked, told_at_once, same, first_as, found_in, served}
use Rattle.slot_desk.specs.Desk.{reply_of, desk_step}
use Rattle.slot_desk.specs.Runs.{after, waiting_as, callers_as, is_as_asked, lent_as, served_in, askers_in, IsPartOf, times}
use Rattle.slot_desk.specs.Laws.{AreServedInOrder}
use Rattle.slot_desk.proofs.Keeping.{Found, in-found, same-is}

part-refl : (xs : List ℕ) → IsPartOf xs xs
part-refl [] = tt
part-refl (x ∷ xs) = inl (refl, part-refl xs)

part-skip : (y : ℕ) (xs ys : List ℕ) → IsPartOf xs ys → IsPartOf xs (y ∷ ys)
part-skip y [] ys h = tt
part-skip y (x ∷ xs) ys h = inr h

part-trans : (xs ys zs : List ℕ) → IsPartOf xs ys → IsPartOf ys zs → IsPartOf xs zs
part-trans [] ys zs h k = tt
part-trans (x ∷ xs) [] zs h k = absurd h
part-trans (x ∷ xs) (y ∷ ys) [] h k = absurd k
part-trans (x ∷ xs) (y ∷ ys) (z ∷ zs) h k = elim k [
  | inl a ↦ elim h [
    | inl b ↦ inl (b.0 ∙ a.0, part-trans xs ys zs b.1 a.1)
    | inr b ↦ inr (part-trans (x ∷ xs) ys zs b a.1)
  ]
  | inr a ↦ inr (part-trans (x ∷ xs) (y ∷ ys) zs h a)
]

part-behind : (ys zs : List ℕ) → IsPartOf zs (ys ++ zs)
part-behind [] zs = part-refl zs
part-behind (y ∷ ys) zs = part-skip y zs (ys ++ zs) (part-behind ys zs)

part-append : (xs ys zs : List ℕ) → IsPartOf xs ys → IsPartOf (xs ++ zs) (ys ++ zs)
part-append [] ys zs h = part-behind ys zs
part-append (x ∷ xs) [] zs h = absurd h
part-append (x ∷ xs) (y ∷ ys) zs h = elim h [
  | inl a ↦ inl (a.0, part-append xs ys zs a.1)
  | inr a ↦ inr (part-append (x ∷ xs) ys zs a)
]

part-insert : (c : ℕ) (ws zs : List ℕ) → IsPartOf (ws ++ zs) (ws ++ c ∷ zs)
part-insert c [] zs = part-skip c zs zs (part-refl zs)
part-insert c (w ∷ ws) zs = inl (refl, part-insert c ws zs)

-- one in front, which may be left out on both sides or be there on both
part-same : (o : Option ℕ) (xs ys : List ℕ) → IsPartOf xs ys → IsPartOf (cons_option o xs) (cons_option o ys)
part-same None xs ys h = h
part-same (Some x) xs ys h = inl (refl, h)

part-skip-option : (o : Option ℕ) (xs ys : List ℕ) → IsPartOf xs ys → IsPartOf xs (cons_option o ys)
part-skip-option None xs ys h = h
part-skip-option (Some y) xs ys h = part-skip y xs ys h

part-insert-option : (o : Option ℕ) (ws zs : List ℕ) → IsPartOf (ws ++ zs) (ws ++ cons_option o zs)
part-insert-option None ws zs = part-refl (ws ++ zs)
part-insert-option (Some c) ws zs = part-insert c ws zs

-- of those that wait for one kind of slot, when the waiting of some ends
part-callers : (k : Bool) (p : Waiter → Bool) (ws : List Waiter) → IsPartOf (callers_as k (filter p ws)) (callers_as k ws)
part-callers k p [] = tt
part-callers k p (w ∷ ws) = go (p w) (part-callers k p ws)
  where
    go : (b : Bool) → IsPartOf (callers_as k (filter p ws)) (callers_as k ws)
        → IsPartOf (callers_as k (cond b (w ∷ filter p ws) (filter p ws))) (cons_option (waiting_as k w) (callers_as k ws))
    go true h = part-same (waiting_as k w) (callers_as k (filter p ws)) (callers_as k ws) h
    go false h = part-skip-option (waiting_as k w) (callers_as k (filter p ws)) (callers_as k ws) h

-- when the waiting of the one ends who waits longest of them
part-first : (k : Bool) (ws : List Waiter) (x : Waiter) → first_as k ws ≡ Some x
    → IsPartOf (x.caller ∷ callers_as k (filter (λ w. not (waits_as x.caller w)) ws)) (callers_as k ws)
part-first k [] x is = cc
part-first k (w ∷ ws) x is = go (same k w.local) refl is (part-first k ws x)
  where
    c : ℕ
    c = x.caller

    rest : List Waiter
    rest = filter (λ w. not (waits_as c w)) ws

    mine : (d : Bool) → c ≡ w.caller → d ≡ true
        → IsPartOf (c ∷ callers_as k (cond (not d) (w ∷ rest) rest)) (w.caller ∷ callers_as k ws)
    mine true is e = inl (is, part-callers k (λ w. not (waits_as c w)) ws)
    mine false is e = cc

    others : (d : Bool) → same k w.local ≡ false → IsPartOf (c ∷ callers_as k rest) (callers_as k ws)
        → IsPartOf (c ∷ callers_as k (cond d (w ∷ rest) rest)) (callers_as k ws)
    others true e h =
        subst (λ (o : Option ℕ). IsPartOf (c ∷ cons_option o (callers_as k rest)) (callers_as k ws))
        (sym (ap (λ (b : Bool). cond b (Some w.caller) None) e)) h
    others false e h = h

    go : (b : Bool) → same k w.local ≡ b → cond b (Some w) (first_as k ws) ≡ Some x
        → (first_as k ws ≡ Some x → IsPartOf (c ∷ callers_as k rest) (callers_as k ws))
        → IsPartOf (c ∷ callers_as k (cond (not (waits_as c w)) (w ∷ rest) rest))
        (cons_option (cond b (Some w.caller) None) (callers_as k ws))
    go true e is ih =
        let it : w ≡ x = cc in
        let at : c ≡ w.caller = ap (λ (y : Waiter). y.caller) (sym it) in mine (waits_as c w) at (eq-eqb c w.caller at)
    go false e is ih = others (not (waits_as c w)) e (ih is)

part-times : (n : ℕ) (xs ys : List ℕ) → IsPartOf xs ys → times n xs ≤ times n ys
part-times n [] ys h = omega arith
part-times n (x ∷ xs) [] h = absurd h
part-times n (x ∷ xs) (y ∷ ys) h = elim h [
  | inl a ↦ subst (λ (z : ℕ). times n (x ∷ xs) ≤ times n (z ∷ ys)) a.0 (same (nat_eq n x) (part-times n xs ys a.1))
  | inr a ↦ more (nat_eq n y) (times n (x ∷ xs)) (part-times n (x ∷ xs) ys a)
]
  where
    same : (b : Bool) → times n xs ≤ times n ys
        → length (cond b (x ∷ filter (nat_eq n) xs) (filter (nat_eq n) xs))
        ≤ length (cond b (x ∷ filter (nat_eq n) ys) (filter (nat_eq n) ys))
    same true h = omega (arith, h)
    same false h = h

    more : (b : Bool) (k : ℕ) → k ≤ times n ys → k ≤ length (cond b (y ∷ filter (nat_eq n) ys) (filter (nat_eq n) ys))
    more true k h = omega (arith, h)
    more false k h = h

times-front : (n : ℕ) (xs ys : List ℕ) → times n xs ≤ times n (xs ++ ys)
times-front n [] ys = omega arith
times-front n (x ∷ xs) ys = go (nat_eq n x) (times-front n xs ys)
  where
    go : (b : Bool) → times n xs ≤ times n (xs ++ ys)
        → length (cond b (x ∷ filter (nat_eq n) xs) (filter (nat_eq n) xs))
        ≤ length (cond b (x ∷ filter (nat_eq n) (xs ++ ys)) (filter (nat_eq n) (xs ++ ys)))
    go true h = omega (arith, h)
    go false h = h

-- those that are served from here on, and then those that wait, are of those that wait here and those that ask
abbrev Ordered : {h : ℕ} → Bool → Rules h → List Event → List ℕ → Option ℕ → State h → Type 0
Ordered k r es ws first v =
    IsPartOf (cons_option first (served_in k r v es) ++ callers_as k (after r v es).waiting) (ws ++ askers_in k es)

order-served : {h : ℕ} (k : Bool) (r : Rules h) (es : List Event) (v : State h) (s : SlotState h) (o : Option Loan)
    → ((loan : Loan) → o ≡ Some loan → Found v.waiting loan)
    → ((w : State h) → Ordered k r es (callers_as k w.waiting) None w)
    → Ordered k r es (callers_as k v.waiting) (lent_as k (reply_of o)) (served v s o)
order-served k r es v s None found ih = ih (record v { slots = s })
order-served {h} k r es v s (Some loan) found ih = go (same k (is_as_asked loan.place)) refl
  where
    f : Found v.waiting loan
    f = found loan refl

    w : State h
    w = served v s (Some loan)

    rest : List ℕ
    rest = served_in k r w es ++ callers_as k (after r w es).waiting

    go : (b : Bool) → same k (is_as_asked loan.place) ≡ b
        → IsPartOf (cons_option (cond b (Some loan.caller) None) (served_in k r w es) ++ callers_as k (after r w es).waiting)
        (callers_as k v.waiting ++ askers_in k es)
    go true e =
        let first : first_as k v.waiting ≡ Some f.waiter =
        ap (λ (b : Bool). first_as b v.waiting) (same-is k (is_as_asked loan.place) e) ∙ f.first in
        let part : IsPartOf (loan.caller ∷ callers_as k w.waiting) (callers_as k v.waiting) =
        subst (λ (c : ℕ). IsPartOf (c ∷ callers_as k (filter (λ x. not (waits_as c x)) v.waiting)) (callers_as k v.waiting)) f.caller
        (part-first k v.waiting f.waiter first) in
        part-trans (loan.caller ∷ rest) (loan.caller ∷ callers_as k w.waiting ++ askers_in k es) (callers_as k v.waiting ++ askers_in k es)
        (inl (refl, ih w))
        (part-append (loan.caller ∷ callers_as k w.waiting) (callers_as k v.waiting) (askers_in k es) part)
    go false e =
        part-trans rest (callers_as k w.waiting ++ askers_in k es) (callers_as k v.waiting ++ askers_in k es) (ih w)
        (part-append (callers_as k w.waiting) (callers_as k v.waiting) (askers_in k es)
        (part-callers k (λ x. not (waits_as loan.caller x)) v.waiting))

order-end : {h : ℕ} (k : Bool) (r : Rules h) (es : List Event) (v w : State h) (p : Waiter → Bool) → w.waiting ≡ filter p v.waiting
    → Ordered k r es (callers_as k w.waiting) None w → Ordered k r es (callers_as k v.waiting) None w
order-end k r es v w p is ih =
    part-trans (served_in k r w es ++ callers_as k (after r w es).waiting) (callers_as k w.waiting ++ askers_in k es)
    (callers_as k v.waiting ++ askers_in k es) ih
    (part-append (callers_as k w.waiting) (callers_as k v.waiting) (askers_in k es)
    (subst (λ (ws : List Waiter). IsPartOf (callers_as k ws) (callers_as k v.waiting)) (sym is) (part-callers k p v.waiting)))

-- one more that waits
callers-more : (k : Bool) (ws : List Waiter) (x : Waiter) → callers_as k (ws ++ x ∷ []) ≡ callers_as k ws ++ cons_option (waiting_as k x) []
callers-more k [] x = refl
callers-more k (w ∷ ws) x = go (waiting_as k w) (callers-more k ws x)
  where
    go : (o : Option ℕ) → callers_as k (ws ++ x ∷ []) ≡ callers_as k ws ++ cons_option (waiting_as k x) []
        → cons_option o (callers_as k (ws ++ x ∷ [])) ≡ cons_option o (callers_as k ws) ++ cons_option (waiting_as k x) []
    go None ih = ih
    go (Some c) ih = ap (λ (l : List ℕ). c ∷ l) ih

option-append : (ws : List ℕ) (o : Option ℕ) (zs : List ℕ) → (ws ++ cons_option o []) ++ zs ≡ ws ++ cons_option o zs
option-append ws None zs = append_assoc ws [] zs
option-append ws (Some c) zs = append_assoc ws (c ∷ []) zs

order-ask : {h : ℕ} (k : Bool) (r : Rules h) (es : List Event) (v : State h) (x : Waiter) (b : Bool)
    → ((w : State h) → Ordered k r es (callers_as k w.waiting) None w)
    → IsPartOf (served_in k r (record v { waiting = cond b v.waiting (v.waiting ++ x ∷ []) }) es
    ++ callers_as k (after r (record v { waiting = cond b v.waiting (v.waiting ++ x ∷ []) }) es).waiting)
    (callers_as k v.waiting ++ cons_option (waiting_as k x) (askers_in k es))
order-ask k r es v x true ih =
    part-trans (served_in k r v es ++ callers_as k (after r v es).waiting) (callers_as k v.waiting ++ askers_in k es)
    (callers_as k v.waiting ++ cons_option (waiting_as k x) (askers_in k es)) (ih v)
    (part-insert-option (waiting_as k x) (callers_as k v.waiting) (askers_in k es))
order-ask {h} k r es v x false ih =
    let w : State h = record v { waiting = v.waiting ++ x ∷ [] } in
    subst (IsPartOf (served_in k r w es ++ callers_as k (after r w es).waiting))
    (ap (λ (l : List ℕ). l ++ askers_in k es) (callers-more k v.waiting x)
    ∙ option-append (callers_as k v.waiting) (waiting_as k x) (askers_in k es)) (ih w)

-- what is told at once lends nobody a place
told-lends : {h : ℕ} (k : Bool) (r : Rules h) (v : State h) (c : ℕ) → lent_as k (told_at_once r v c) ≡ None
told-lends {h} k r v c = go (is_known v c)
  where
    full : (b : Bool) → lent_as k (cond b (Alone c) Nobody) ≡ None
    full true = refl
    full false = refl

    go : (b : Bool) → lent_as k (cond b Nobody (cond (is_full r v) (Alone c) Nobody)) ≡ None
    go true = refl
    go false = full (is_full r v)

order-asked : {h : ℕ} (k : Bool) (r : Rules h) (es : List Event) (v : State h) (x : Waiter)
    → ((w : State h) → Ordered k r es (callers_as k w.waiting) None w)
    → IsPartOf (cons_option (lent_as k (told_at_once r v x.caller)) (served_in k r (asked r v x) es)
    ++ callers_as k (after r (asked r v x) es).waiting) (callers_as k v.waiting ++ cons_option (waiting_as k x) (askers_in k es))
order-asked k r es v x ih =
    subst (λ (o : Option ℕ). IsPartOf (cons_option o (served_in k r (asked r v x) es) ++ callers_as k (after r (asked r v x) es).waiting)
    (callers_as k v.waiting ++ cons_option (waiting_as k x) (askers_in k es))) (sym (told-lends k r v x.caller))
    (order-ask k r es v x (is_known v x.caller || is_full r v) ih)

order : {h : ℕ} (k : Bool) (r : Rules h) (es : List Event) (v : State h) → Ordered k r es (callers_as k v.waiting) None v
order k r [] v = subst (IsPartOf (callers_as k v.waiting)) (sym (append-nil (callers_as k v.waiting))) (part-refl (callers_as k v.waiting))
order k r (Ask c ∷ es) v = order-asked k r es v (record { caller = c; local = false }) (λ w. order k r es w)
order k r (AskLocal c ∷ es) v = order-asked k r es v (record { caller = c; local = true }) (λ w. order k r es w)
order k r (AskWithin c ∷ es) v = order k r es v
order k r (Done c ∷ es) v =
    order-end k r es v (desk_step r v (Done c)).0 (λ x. not (waits_as c x)) refl (order k r es (desk_step r v (Done c)).0)
order k r (Broke c now ∷ es) v =
    order-end k r es v (desk_step r v (Broke c now)).0 (λ x. not (waits_as c x)) refl (order k r es (desk_step r v (Broke c now)).0)
order k r (Lost c ∷ es) v =
    order-end k r es v (desk_step r v (Lost c)).0 (λ x. not (waits_as c x)) refl (order k r es (desk_step r v (Lost c)).0)
order k r (Next now ∷ es) v =
    order-served k r es v (found_in r.limits now v.slots v.waiting).0 (found_in r.limits now v.slots v.waiting).1
    (λ loan is. in-found r.limits now v.slots v.waiting loan is) (λ w. order k r es w)

pub served-in-order : AreServedInOrder
served-in-order h k r es = record {
  order = order k r es (opened h);
  once = λ n.
      let all = part-times n (served_in k r (opened h) es ++ callers_as k (after r (opened h) es).waiting) (askers_in k es)
      (order k r es (opened h)) in
      let front = times-front n (served_in k r (opened h) es) (callers_as k (after r (opened h) es).waiting) in omega (arith, all, front);
}
