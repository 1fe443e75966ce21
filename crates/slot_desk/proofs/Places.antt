-- What is lent to a caller is what it was told.
use Rattle.std.proofs.Common.{◌≡◌, ◌≢◌, ℕ, Bool, true, false, not, cond, List, [], ◌∷◌, Option, Some, None}
use Rattle.std.proofs.Common.{nat_eq, refl, sym, ap, ◌∙◌, eq-eqb, ne_eqb, true≢false}
use Rattle.std.specs.Prelude.{find, filter}
use Rattle.std.proofs.lemmas.Bool.{eqb-true}
use Rattle.slot_table.specs.declared.state.SlotState.{SlotState}
use Rattle.slot_desk.specs.declared.event.Event.{Event}
use Rattle.slot_desk.specs.declared.event.Event.TheVariants.{Ask, AskLocal, AskWithin, Done, Broke, Lost, Next}
use Rattle.slot_desk.specs.declared.event.Loan.{Loan}
use Rattle.slot_desk.specs.declared.event.Place.{Place}
use Rattle.slot_desk.specs.Desk.{Rules, State, opened, is_of, found_in, served, reply_of, desk_step}
use Rattle.slot_desk.specs.Runs.{after, told, told_by, place_in, place_of}
use Rattle.slot_desk.specs.Laws.{LentAsTold}

false≢true : false ≢ true
false≢true e = true≢false (sym e)

apart : (c n : ℕ) → c ≢ n → nat_eq c n ≡ false
apart c n e = ne_eqb c n e

-- after the loans of one caller are taken away
place-ended : (c n : ℕ) (lent : List Loan)
    → place_of n (filter (λ loan. not (is_of c loan)) lent) ≡ cond (nat_eq c n) None (place_of n lent)
place-ended c n [] = go (nat_eq c n)
  where
    go : (b : Bool) → place_of n [] ≡ cond b None (place_of n [])
    go true = refl
    go false = refl
place-ended c n (x ∷ xs) = go (is_of c x) refl (nat_eq c n) refl (is_of n x) refl (place-ended c n xs)
  where
    go : (b : Bool) → is_of c x ≡ b → (d : Bool) → nat_eq c n ≡ d → (f : Bool) → is_of n x ≡ f
        → place_of n (filter (λ loan. not (is_of c loan)) xs) ≡ cond (nat_eq c n) None (place_of n xs)
        → place_in (find (is_of n) (cond (not b) (x ∷ filter (λ loan. not (is_of c loan)) xs) (filter (λ loan. not (is_of c loan)) xs)))
        ≡ cond d None (place_in (cond f (Some x) (find (is_of n) xs)))
    go true e true i f j ih = ih ∙ ap (λ (b : Bool). cond b None (place_of n xs)) i
    go true e false i true j ih = absurd (true≢false (sym (eq-eqb c n (eqb-true c x.caller e ∙ sym (eqb-true n x.caller j))) ∙ i))
    go true e false i false j ih = ih ∙ ap (λ (b : Bool). cond b None (place_of n xs)) i
    go false e true i true j ih =
        absurd (true≢false (sym (eq-eqb c x.caller (eqb-true c n i ∙ eqb-true n x.caller j)) ∙ e))
    go false e true i false j ih = ap (λ (b : Bool). place_in (cond b (Some x) (find (is_of n) (filter (λ loan. not (is_of c loan)) xs)))) j
        ∙ ih ∙ ap (λ (b : Bool). cond b None (place_of n xs)) i
    go false e false i true j ih = ap (λ (b : Bool). place_in (cond b (Some x) (find (is_of n) (filter (λ loan. not (is_of c loan)) xs)))) j
    go false e false i false j ih =
        ap (λ (b : Bool). place_in (cond b (Some x) (find (is_of n) (filter (λ loan. not (is_of c loan)) xs)))) j
        ∙ ih ∙ ap (λ (b : Bool). cond b None (place_of n xs)) i

place-served : {h : ℕ} (n now : ℕ) (v : State h) (s : SlotState h) (o : Option Loan)
    → place_of n (served v s o).lent ≡ told n (place_of n v.lent) (Next now) (reply_of o)
place-served n now v s None = refl
place-served n now v s (Some loan) = go (nat_eq n loan.caller) (nat_eq loan.caller n) (swap n loan.caller)
  where
    swap : (a b : ℕ) → nat_eq a b ≡ nat_eq b a
    swap a b = both (nat_eq a b) refl
      where
        both : (d : Bool) → nat_eq a b ≡ d → d ≡ nat_eq b a
        both true e = sym (eq-eqb b a (sym (eqb-true a b e)))
        both false e = sym (ne_eqb b a (λ k. true≢false (sym (eq-eqb a b (sym k)) ∙ e)))

    go : (b d : Bool) → b ≡ d
        → place_in (cond b (Some loan) (find (is_of n) v.lent)) ≡ cond d (Some loan.place) (place_of n v.lent)
    go true true e = refl
    go false false e = refl
    go true false e = cc
    go false true e = cc

place-step : {h : ℕ} (n : ℕ) (r : Rules h) (v : State h) (e : Event)
    → place_of n (desk_step r v e).0.lent ≡ told n (place_of n v.lent) e (desk_step r v e).1
place-step n r v (Ask c) = refl
place-step n r v (AskLocal c) = refl
place-step n r v (AskWithin c) = refl
place-step n r v (Done c) = place-ended c n v.lent
place-step n r v (Broke c now) = place-ended c n v.lent
place-step n r v (Lost c) = place-ended c n v.lent
place-step n r v (Next now) =
    place-served n now v (found_in r.limits now v.slots v.waiting).0 (found_in r.limits now v.slots v.waiting).1

place-run : {h : ℕ} (n : ℕ) (r : Rules h) (v : State h) (es : List Event)
    → place_of n (after r v es).lent ≡ told_by n (place_of n v.lent) r v es
place-run n r v [] = refl
place-run n r v (e ∷ es) = place-run n r (desk_step r v e).0 es
    ∙ ap (λ (p : Option Place). told_by n p r (desk_step r v e).0 es) (place-step n r v e)

pub lent-as-told : LentAsTold
lent-as-told h r es caller = place-run caller r (opened h) es
