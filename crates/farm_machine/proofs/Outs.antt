-- How often a slot is out to a caller.
use Rattle.std.proofs.Common.{◌≡◌, ◌≢◌, ℕ, ◌+◌, ◌-◌, Bool, true, false, ◌&&◌, ◌||◌, cond, List, [], ◌∷◌, Option, nat_eq, nat_lt, refl}
use Rattle.std.proofs.Common.{sym, ap, ◌∙◌, arith, eq-eqb, ne_eqb}
use Rattle.std.proofs.lemmas.Bool.{eqb-true, and_parts, lt-ltb}
use Rattle.slot_table.specs.History.{Holding, holding, host_eq, holding_eq, Change, Keeps, Takes, Gives, without, has, changed}
use Rattle.slot_table.proofs.Holdings.{same-caller, same-host}
use Rattle.farm_machine.specs.Checking.{is_taken, is_given}
use Rattle.farm_machine.specs.Farm.{times}

pub same-grant : (a b : Holding) → holding_eq a b ≡ true → a ≡ b
same-grant a b e =
    let job : a.job ≡ b.job =
    eqb-true a.job b.job (and_parts (nat_eq a.job b.job) (host_eq a.host b.host)
    (and_parts (nat_eq a.caller b.caller) (nat_eq a.job b.job && host_eq a.host b.host) e).1).0 in
    let caller : a.caller ≡ b.caller = same-caller a b e in
    let host : a.host ≡ b.host = same-host a b e in
    λ i. record { caller = caller i; job = job i; host = host i }

less : (n : ℕ) → n ≡ n + 1 - 1
less n = omega arith

-- after a grant like this one is given back it is out once less, and never less than not at all
times-without : (x a : Holding) (ys : List Holding) → holding_eq x a ≡ true → times x (without a ys) ≡ times x ys - 1
times-without x a [] same = refl
times-without x a (y ∷ ys) same = go (holding_eq a y) refl (times-without x a ys same)
  where
    alike : holding_eq x y ≡ holding_eq a y
    alike = ap (λ (z : Holding). holding_eq z y) (same-grant x a same)

    go : (b : Bool) → holding_eq a y ≡ b → times x (without a ys) ≡ times x ys - 1
        → times x (cond b ys (y ∷ without a ys)) ≡ cond (holding_eq x y) (times x ys + 1) (times x ys) - 1
    go true is ih = less (times x ys) ∙ sym (ap (λ (c : Bool). cond c (times x ys + 1) (times x ys) - 1) (alike ∙ is))
    go false is ih =
        ap (λ (c : Bool). cond c (times x (without a ys) + 1) (times x (without a ys))) (alike ∙ is) ∙ ih
        ∙ sym (ap (λ (c : Bool). cond c (times x ys + 1) (times x ys) - 1) (alike ∙ is))

-- and any other is out as often as before
times-apart : (x a : Holding) (ys : List Holding) → holding_eq x a ≡ false → times x (without a ys) ≡ times x ys
times-apart x a [] apart = refl
times-apart x a (y ∷ ys) apart = go (holding_eq a y) refl (times-apart x a ys apart)
  where
    go : (b : Bool) → holding_eq a y ≡ b → times x (without a ys) ≡ times x ys
        → times x (cond b ys (y ∷ without a ys)) ≡ cond (holding_eq x y) (times x ys + 1) (times x ys)
    go true is ih = sym (ap (λ (c : Bool). cond c (times x ys + 1) (times x ys)) (ap (holding_eq x) (sym (same-grant a y is)) ∙ apart))
    go false is ih = ap (λ (n : ℕ). cond (holding_eq x y) (n + 1) n) ih

-- the grant of a change is the one that is looked for
is-own : (caller job taker : ℕ) (host at : Option ℕ) (b : Bool) → (nat_eq job taker && host_eq host at) ≡ b
    → holding_eq (holding caller job host) (holding caller taker at) ≡ b
is-own caller job taker host at b is = ap (λ (c : Bool). c && (nat_eq job taker && host_eq host at)) (eq-eqb caller caller refl) ∙ is

is-others : (caller other job taker : ℕ) (host at : Option ℕ) → caller ≢ other
    → holding_eq (holding caller job host) (holding other taker at) ≡ false
is-others caller other job taker host at apart = ap (λ (c : Bool). c && (nat_eq job taker && host_eq host at)) (ne_eqb caller other apart)

pub others-call : (caller other job : ℕ) (host : Option ℕ) (out : List Holding) (change : Change) → caller ≢ other
    → times (holding caller job host) (changed other out change) ≡ times (holding caller job host) out
others-call caller other job host out Keeps apart = refl
others-call caller other job host out (Takes taker at) apart =
    ap (λ (b : Bool). cond b (times (holding caller job host) out + 1) (times (holding caller job host) out))
    (is-others caller other job taker host at apart)
others-call caller other job host out (Gives giver at) apart =
    times-apart (holding caller job host) (holding other giver at) out (is-others caller other job giver host at apart)

pub took-one : (caller job : ℕ) (host : Option ℕ) (out : List Holding) (change : Change) → is_taken job host change ≡ true
    → times (holding caller job host) (changed caller out change) ≡ times (holding caller job host) out + 1
took-one caller job host out Keeps is = cc
took-one caller job host out (Takes taker at) is =
    ap (λ (b : Bool). cond b (times (holding caller job host) out + 1) (times (holding caller job host) out))
    (is-own caller job taker host at true is)
took-one caller job host out (Gives giver at) is = cc

pub gave-one : (caller job : ℕ) (host : Option ℕ) (out : List Holding) (change : Change) → is_given job host change ≡ true
    → times (holding caller job host) (changed caller out change) ≡ times (holding caller job host) out - 1
gave-one caller job host out Keeps is = cc
gave-one caller job host out (Takes taker at) is = cc
gave-one caller job host out (Gives giver at) is =
    times-without (holding caller job host) (holding caller giver at) out (is-own caller job giver host at true is)

pub left-alone : (caller job : ℕ) (host : Option ℕ) (out : List Holding) (change : Change) → is_taken job host change ≡ false
    → is_given job host change ≡ false → times (holding caller job host) (changed caller out change) ≡ times (holding caller job host) out
left-alone caller job host out Keeps none free = refl
left-alone caller job host out (Takes taker at) none free =
    ap (λ (b : Bool). cond b (times (holding caller job host) out + 1) (times (holding caller job host) out))
    (is-own caller job taker host at false none)
left-alone caller job host out (Gives giver at) none free =
    times-apart (holding caller job host) (holding caller giver at) out (is-own caller job giver host at false free)

-- a grant is out where it is so at least once
pub has-times : (x : Holding) (ys : List Holding) → has x ys ≡ nat_lt 0 (times x ys)
has-times x [] = refl
has-times x (y ∷ ys) = go (holding_eq x y) (has-times x ys)
  where
    more : (n : ℕ) → true ≡ nat_lt 0 (n + 1)
    more n = sym (lt-ltb 0 (n + 1) (omega arith))

    go : (b : Bool) → has x ys ≡ nat_lt 0 (times x ys) → (b || has x ys) ≡ nat_lt 0 (cond b (times x ys + 1) (times x ys))
    go true ih = more (times x ys)
    go false ih = ih
