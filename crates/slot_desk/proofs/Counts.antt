-- How often callers stand in the lists, and what is left of the lists without one.
use Rattle.std.proofs.Common.{◌≡◌, ◌≢◌, ℕ, ◌+◌, ◌≤◌, Bool, true, false, ◌&&◌, ◌||◌, not, cond, List, [], ◌∷◌}
use Rattle.std.proofs.Common.{◌++◌, Some, None, nat_eq, length, refl, sym, ap}
use Rattle.std.proofs.Common.{◌∙◌, arith, eq-eqb, ne_eqb, true≢false, length-append}
use Rattle.std.specs.Prelude.{find, filter, map}
use Rattle.std.specs.List.{list_any}
use Rattle.std.proofs.lemmas.Bool.{eqb-true}
use Rattle.std.proofs.lemmas.List.Elements.{filter-append}
use Rattle.slot_table.specs.History.{Holding, host_eq, holding_eq, has, without}
use Rattle.slot_table.proofs.Holdings.{holding_eq-refl}
use Rattle.slot_desk.specs.declared.event.Loan.{Loan}
use Rattle.slot_desk.specs.declared.event.Waiter.{Waiter}
use Rattle.slot_desk.specs.Desk.{is_of, waits_as}
use Rattle.slot_desk.specs.Runs.{holding_of}
use Rattle.slot_desk.specs.View.{loans, waits}

pub found-caller : (c : ℕ) (lent : List Loan) (loan : Loan) → find (is_of c) lent ≡ Some loan → c ≡ loan.caller
found-caller c [] loan is = cc
found-caller c (x ∷ xs) loan is = go (is_of c x) refl is (found-caller c xs loan)
  where
    go : (b : Bool) → is_of c x ≡ b → cond b (Some x) (find (is_of c) xs) ≡ Some loan → (find (is_of c) xs ≡ Some loan → c ≡ loan.caller)
        → c ≡ loan.caller
    go true e is ih = let same : x ≡ loan = cc in eqb-true c x.caller e ∙ ap (λ (l : Loan). l.caller) same
    go false e is ih = ih is

pub none-found : (c : ℕ) (lent : List Loan) → find (is_of c) lent ≡ None → loans c lent ≡ 0
none-found c [] is = refl
none-found c (x ∷ xs) is = go (is_of c x) is (none-found c xs)
  where
    go : (b : Bool) → cond b (Some x) (find (is_of c) xs) ≡ None → (find (is_of c) xs ≡ None → loans c xs ≡ 0)
        → length (cond b (x ∷ filter (is_of c) xs) (filter (is_of c) xs)) ≡ 0
    go true is ih = cc
    go false is ih = ih is

pub none-waits : (c : ℕ) (waiting : List Waiter) → list_any (waits_as c) waiting ≡ false → waits c waiting ≡ 0
none-waits c [] is = refl
none-waits c (x ∷ xs) is = go (waits_as c x) is (none-waits c xs)
  where
    go : (b : Bool) → (b || list_any (waits_as c) xs) ≡ false → (list_any (waits_as c) xs ≡ false → waits c xs ≡ 0)
        → length (cond b (x ∷ filter (waits_as c) xs) (filter (waits_as c) xs)) ≡ 0
    go true is ih = cc
    go false is ih = ih is

-- a caller with no loan takes none away
pub no-loan : (c : ℕ) (lent : List Loan) → loans c lent ≤ 0 → filter (λ loan. not (is_of c loan)) lent ≡ lent
no-loan c [] none = refl
no-loan c (x ∷ xs) none = go (is_of c x) none (no-loan c xs)
  where
    go : (b : Bool) → length (cond b (x ∷ filter (is_of c) xs) (filter (is_of c) xs)) ≤ 0
        → (loans c xs ≤ 0 → filter (λ loan. not (is_of c loan)) xs ≡ xs)
        → cond (not b) (x ∷ filter (λ loan. not (is_of c loan)) xs) (filter (λ loan. not (is_of c loan)) xs) ≡ x ∷ xs
    go true none ih = let more : length (x ∷ filter (is_of c) xs) ≤ 0 = none in absurd (omega (arith, more))
    go false none ih = ap (λ (l : List Loan). x ∷ l) (ih none)

-- the loan that is found is among the grants
pub found-held : (c : ℕ) (lent : List Loan) (loan : Loan) → find (is_of c) lent ≡ Some loan
    → has (holding_of loan) (map holding_of lent) ≡ true
found-held c [] loan is = cc
found-held c (x ∷ xs) loan is = go (is_of c x) is (found-held c xs loan)
  where
    first : (b : Bool) → holding_eq (holding_of loan) (holding_of x) ≡ true → (holding_eq (holding_of loan) (holding_of x) || b) ≡ true
    first b e = ap (λ (a : Bool). a || b) e

    behind : (a b : Bool) → b ≡ true → (a || b) ≡ true
    behind true b e = refl
    behind false b e = e

    go : (b : Bool) → cond b (Some x) (find (is_of c) xs) ≡ Some loan
        → (find (is_of c) xs ≡ Some loan → has (holding_of loan) (map holding_of xs) ≡ true)
        → (holding_eq (holding_of loan) (holding_of x) || has (holding_of loan) (map holding_of xs)) ≡ true
    go true is ih = let same : loan ≡ x = cc in
        first (has (holding_of loan) (map holding_of xs))
        (ap (λ (l : Loan). holding_eq (holding_of loan) (holding_of l)) (sym same) ∙ holding_eq-refl (holding_of loan))
    go false is ih =
        behind (holding_eq (holding_of loan) (holding_of x)) (has (holding_of loan) (map holding_of xs)) (ih is)

-- without its one loan a caller has none
pub without-loan : (c : ℕ) (lent : List Loan) (loan : Loan) → find (is_of c) lent ≡ Some loan → loans c lent ≤ 1
    → without (holding_of loan) (map holding_of lent) ≡ map holding_of (filter (λ l. not (is_of c l)) lent)
without-loan c [] loan is few = cc
without-loan c (x ∷ xs) loan is few = go (is_of c x) refl is few (without-loan c xs loan)
  where
    left : List Holding
    left = map holding_of (filter (λ l. not (is_of c l)) xs)

    go : (b : Bool) → is_of c x ≡ b → cond b (Some x) (find (is_of c) xs) ≡ Some loan
        → length (cond b (x ∷ filter (is_of c) xs) (filter (is_of c) xs)) ≤ 1
        → (find (is_of c) xs ≡ Some loan → loans c xs ≤ 1
        → without (holding_of loan) (map holding_of xs) ≡ map holding_of (filter (λ l. not (is_of c l)) xs))
        → cond (holding_eq (holding_of loan) (holding_of x)) (map holding_of xs)
        (holding_of x ∷ without (holding_of loan) (map holding_of xs))
        ≡ map holding_of (cond (not b) (x ∷ filter (λ l. not (is_of c l)) xs) (filter (λ l. not (is_of c l)) xs))
    go true e is few ih =
        let same : loan ≡ x = cc in
        let more : length (x ∷ filter (is_of c) xs) ≤ 1 = few in
        let none : loans c xs ≤ 0 = omega (arith, more) in
        ap (λ (b : Bool). cond b (map holding_of xs) (holding_of x ∷ without (holding_of loan) (map holding_of xs)))
        (ap (λ (l : Loan). holding_eq (holding_of loan) (holding_of l)) (sym same) ∙ holding_eq-refl (holding_of loan))
        ∙ ap (map holding_of) (sym (no-loan c xs none))
    go false e is few ih =
        let apart : loan.caller ≢ x.caller = λ k. true≢false (sym (eq-eqb c x.caller (found-caller c xs loan is ∙ k)) ∙ e) in
        ap (λ (b : Bool). cond (b && (nat_eq loan.caller x.caller && host_eq (holding_of loan).host (holding_of x).host))
        (map holding_of xs) (holding_of x ∷ without (holding_of loan) (map holding_of xs))) (ne_eqb loan.caller x.caller apart)
        ∙ ap (λ (l : List Holding). holding_of x ∷ l) (ih is few)

-- a filter leaves no more
pub fewer : {X : Type 0} (p q : X → Bool) (xs : List X) → length (filter p (filter q xs)) ≤ length (filter p xs)
fewer p q [] = omega arith
fewer {X} p q (x ∷ xs) = go (q x) (fewer p q xs)
  where
    both : (a : Bool) → length (filter p (filter q xs)) ≤ length (filter p xs)
        → length (cond a (x ∷ filter p (filter q xs)) (filter p (filter q xs))) ≤ length (cond a (x ∷ filter p xs) (filter p xs))
    both true ih = omega (arith, ih)
    both false ih = ih

    over : (a : Bool) → length (filter p (filter q xs)) ≤ length (filter p xs)
        → length (filter p (filter q xs)) ≤ length (cond a (x ∷ filter p xs) (filter p xs))
    over true ih = omega (arith, ih)
    over false ih = ih

    go : (b : Bool) → length (filter p (filter q xs)) ≤ length (filter p xs)
        → length (filter p (cond b (x ∷ filter q xs) (filter q xs))) ≤ length (cond (p x) (x ∷ filter p xs) (filter p xs))
    go true ih = both (p x) ih
    go false ih = over (p x) ih

pub one-more : (n : ℕ) (x : Waiter) (w : List Waiter) → waits n (w ++ x ∷ []) ≡ waits n w + waits n (x ∷ [])
one-more n x w = ap length (filter-append (waits_as n) w (x ∷ [])) ∙ length-append (filter (waits_as n) w) (filter (waits_as n) (x ∷ []))

-- one whose waiting ends waits no more
pub none-left : (c : ℕ) (w : List Waiter) → waits c (filter (λ x. not (waits_as c x)) w) ≡ 0
none-left c [] = refl
none-left c (x ∷ xs) = go (waits_as c x) refl (none-left c xs)
  where
    go : (b : Bool) → waits_as c x ≡ b → waits c (filter (λ x. not (waits_as c x)) xs) ≡ 0
        → waits c (cond (not b) (x ∷ filter (λ x. not (waits_as c x)) xs) (filter (λ x. not (waits_as c x)) xs)) ≡ 0
    go true e ih = ih
    go false e ih = ap (λ (b : Bool). length (cond b (x ∷ filter (waits_as c) (filter (λ x. not (waits_as c x)) xs))
        (filter (waits_as c) (filter (λ x. not (waits_as c x)) xs)))) e ∙ ih

-- what is found is in the list
pub first-waits : (p : Waiter → Bool) (w : List Waiter) (x : Waiter) → find p w ≡ Some x → 1 ≤ waits x.caller w
first-waits p [] x is = cc
first-waits p (y ∷ ys) x is = go (p y) is (first-waits p ys x)
  where
    mine : (b : Bool) → b ≡ true → 1 ≤ length (cond b (y ∷ filter (waits_as x.caller) ys) (filter (waits_as x.caller) ys))
    mine true e = omega arith
    mine false e = cc

    more : (b : Bool) → 1 ≤ waits x.caller ys → 1 ≤ length (cond b (y ∷ filter (waits_as x.caller) ys) (filter (waits_as x.caller) ys))
    more true h = omega arith
    more false h = h

    go : (b : Bool) → cond b (Some y) (find p ys) ≡ Some x → (find p ys ≡ Some x → 1 ≤ waits x.caller ys)
        → 1 ≤ length (cond (waits_as x.caller y) (y ∷ filter (waits_as x.caller) ys) (filter (waits_as x.caller) ys))
    go true is ih = let same : y ≡ x = cc in
        mine (waits_as x.caller y) (eq-eqb x.caller y.caller (ap (λ (w : Waiter). w.caller) (sym same)))
    go false is ih = more (waits_as x.caller y) (ih is)

-- and passes the test
pub find-tells : (p : Waiter → Bool) (w : List Waiter) (x : Waiter) → find p w ≡ Some x → p x ≡ true
find-tells p [] x is = cc
find-tells p (y ∷ ys) x is = go (p y) refl is (find-tells p ys x)
  where
    go : (b : Bool) → p y ≡ b → cond b (Some y) (find p ys) ≡ Some x → (find p ys ≡ Some x → p x ≡ true) → p x ≡ true
    go true e is ih = let same : y ≡ x = cc in ap p (sym same) ∙ e
    go false e is ih = ih is

-- without one that waits fewer wait
pub fewer-wait : (c : ℕ) (w : List Waiter) → 1 ≤ waits c w → length (filter (λ x. not (waits_as c x)) w) + 1 ≤ length w
fewer-wait c w some = let all = both w in omega (arith, all, some)
  where
    both : (w : List Waiter) → length (filter (λ x. not (waits_as c x)) w) + waits c w ≡ length w
    both [] = refl
    both (x ∷ xs) = split (waits_as c x) (both xs)
      where
        split : (b : Bool) → length (filter (λ x. not (waits_as c x)) xs) + waits c xs ≡ length xs
            → length (cond (not b) (x ∷ filter (λ x. not (waits_as c x)) xs) (filter (λ x. not (waits_as c x)) xs))
            + length (cond b (x ∷ filter (waits_as c) xs) (filter (waits_as c) xs)) ≡ length (x ∷ xs)
        split true ih = omega (arith, ih)
        split false ih = omega (arith, ih)
