-- How often a grant is outstanding.
use Rattle.std.proofs.Common.{◌≡◌, ◌≢◌, ℕ, ◌+◌, ◌<◌, Bool, true, false, ◌&&◌, ◌||◌, cond, List, [], ◌∷◌, Option, nat_eq, refl, sym, ap}
use Rattle.std.proofs.Common.{◌∙◌, arith, eq-eqb, ne_eqb}
use Rattle.slot_table.specs.History.{Holding, holding, host_eq, holding_eq, without, has}
use Rattle.slot_table.proofs.Holdings.{holding_eq-refl}
use Rattle.farm_machine.specs.Farm.{times}
use Rattle.farm_machine.proofs.Outs.{same-grant}

-- a grant that is given back was there
pub times-without : (x a : Holding) (ys : List Holding) → has a ys ≡ true
    → times x ys ≡ cond (holding_eq x a) (times x (without a ys) + 1) (times x (without a ys))
times-without x a [] e = cc
times-without x a (y ∷ ys) e = go (holding_eq a y) refl e (times-without x a ys)
  where
    swap : (b c : Bool) (n : ℕ) → cond b (cond c (n + 1) n + 1) (cond c (n + 1) n) ≡ cond c (cond b (n + 1) n + 1) (cond b (n + 1) n)
    swap true true n = refl
    swap true false n = refl
    swap false true n = refl
    swap false false n = refl

    go : (b : Bool) → holding_eq a y ≡ b → (b || has a ys) ≡ true
        → (has a ys ≡ true → times x ys ≡ cond (holding_eq x a) (times x (without a ys) + 1) (times x (without a ys)))
        → cond (holding_eq x y) (times x ys + 1) (times x ys) ≡ cond (holding_eq x a) (times x (cond b ys (y ∷ without a ys)) + 1)
        (times x (cond b ys (y ∷ without a ys)))
    go true is h ih = ap (λ (z : Holding). cond (holding_eq x z) (times x ys + 1) (times x ys)) (sym (same-grant a y is))
    go false is h ih = ap (λ (n : ℕ). cond (holding_eq x y) (n + 1) n) (ih h)
        ∙ swap (holding_eq x y) (holding_eq x a) (times x (without a ys))

pub times-has : (a : Holding) (ys : List Holding) → 0 < times a ys → has a ys ≡ true
times-has a [] h = absurd (omega arith)
times-has a (y ∷ ys) h = go (holding_eq a y) h (times-has a ys)
  where
    go : (b : Bool) → 0 < cond b (times a ys + 1) (times a ys) → (0 < times a ys → has a ys ≡ true) → (b || has a ys) ≡ true
    go true h ih = refl
    go false h ih = ih h

pub none-outstanding : (ys : List Holding) → ((x : Holding) → times x ys ≡ 0) → ys ≡ []
none-outstanding [] h = refl
none-outstanding (y ∷ ys) h =
    let e : cond (holding_eq y y) (times y ys + 1) (times y ys) ≡ 0 = h y in
    let f : times y ys + 1 ≡ 0 = ap (λ (b : Bool). cond b (times y ys + 1) (times y ys)) (sym (holding_eq-refl y)) ∙ e in
    absurd (omega arith)

-- a grant of another job, and one of this job
pub other-job : (x : Holding) (caller job : ℕ) (host : Option ℕ) → x.job ≢ job → holding_eq x (holding caller job host) ≡ false
other-job x caller job host apart = go (nat_eq x.caller caller)
  where
    go : (b : Bool) → (b && (nat_eq x.job job && host_eq x.host host)) ≡ false
    go true = ap (λ (c : Bool). c && host_eq x.host host) (ne_eqb x.job job apart)
    go false = refl

pub same-job : (x : Holding) (caller job : ℕ) (host : Option ℕ) → x.job ≡ job
    → holding_eq x (holding caller job host) ≡ (nat_eq x.caller caller && host_eq x.host host)
same-job x caller job host at = ap (λ (c : Bool). nat_eq x.caller caller && (c && host_eq x.host host)) (eq-eqb x.job job at)

pub and-false : (b : Bool) → (b && false) ≡ false
and-false true = refl
and-false false = refl
