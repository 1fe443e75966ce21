-- Lists of outstanding grants.
use Rattle.std.proofs.Common.{◌≡◌, ◌≢◌, ℕ, ◌+◌, ◌<◌, Bool, true, false, ◌&&◌, ◌||◌, cond, List, [], ◌∷◌, Option, Some, None, nat_eq}
use Rattle.std.proofs.Common.{length, refl, sym, ap, ◌∙◌, subst, arith, eq-eqb, ne_eqb, true≢false}
use Rattle.std.specs.Prelude.{filter}
use Rattle.std.proofs.lemmas.Bool.{eqb-true, and_parts}
use Rattle.slot_table.specs.History.{Holding, host_eq, holding_eq, has, without, held_by, count_at}

host_eq-true : (a b : Option ℕ) → host_eq a b ≡ true → a ≡ b
host_eq-true None None e = refl
host_eq-true (Some a) (Some b) e = ap Some (eqb-true a b e)
host_eq-true None (Some b) e = cc
host_eq-true (Some a) None e = cc

pub host_eq-refl : (a : Option ℕ) → host_eq a a ≡ true
host_eq-refl None = refl
host_eq-refl (Some a) = eq-eqb a a refl

pub holding_eq-refl : (a : Holding) → holding_eq a a ≡ true
holding_eq-refl a = ap (λ (b : Bool). b && (nat_eq a.job a.job && host_eq a.host a.host)) (eq-eqb a.caller a.caller refl)
    ∙ ap (λ (b : Bool). b && host_eq a.host a.host) (eq-eqb a.job a.job refl) ∙ host_eq-refl a.host

pub same-caller : (a x : Holding) → holding_eq a x ≡ true → a.caller ≡ x.caller
same-caller a x e = eqb-true a.caller x.caller (and_parts (nat_eq a.caller x.caller) (nat_eq a.job x.job && host_eq a.host x.host) e).0

pub same-host : (a x : Holding) → holding_eq a x ≡ true → a.host ≡ x.host
same-host a x e = host_eq-true a.host x.host
    (and_parts (nat_eq a.job x.job) (host_eq a.host x.host)
    (and_parts (nat_eq a.caller x.caller) (nat_eq a.job x.job && host_eq a.host x.host) e).1).1

-- 1 where the grant is of this host
abbrev pub one_at : Option ℕ → Holding → ℕ
one_at i a = cond (host_eq a.host i) 1 0

pub count_at-cons : (i : Option ℕ) (x : Holding) (xs : List Holding) → count_at i (x ∷ xs) ≡ one_at i x + count_at i xs
count_at-cons i x xs = go (host_eq x.host i) (filter (λ a. host_eq a.host i) xs)
  where
    go : (b : Bool) (l : List Holding) → length (cond b (x ∷ l) l) ≡ cond b 1 0 + length l
    go true l = omega arith
    go false l = omega arith

-- a grant that is given back was counted
pub count-without : (i : Option ℕ) (a : Holding) (xs : List Holding) → has a xs ≡ true
    → count_at i xs ≡ one_at i a + count_at i (without a xs)
count-without i a [] e = cc
count-without i a (x ∷ xs) e = count_at-cons i x xs ∙ go (holding_eq a x) refl e (count-without i a xs)
  where
    swap : (x a m n k : ℕ) → n ≡ a + m → k ≡ x + m → x + n ≡ a + k
    swap x a m n k e f = omega arith

    go : (b : Bool) → holding_eq a x ≡ b → (b || has a xs) ≡ true
        → (has a xs ≡ true → count_at i xs ≡ one_at i a + count_at i (without a xs))
        → one_at i x + count_at i xs ≡ one_at i a + count_at i (cond b xs (x ∷ without a xs))
    go true is h ih = ap (λ (k : Option ℕ). cond (host_eq k i) 1 0 + count_at i xs) (sym (same-host a x is))
    go false is h ih = swap (one_at i x) (one_at i a) (count_at i (without a xs)) (count_at i xs) (count_at i (x ∷ without a xs))
        (ih h) (count_at-cons i x (without a xs))

-- what is there after one grant is given back was there before
pub has-without : (b a : Holding) (xs : List Holding) → has b (without a xs) ≡ true → has b xs ≡ true
has-without b a [] e = e
has-without b a (x ∷ xs) e = go (holding_eq a x) e (has-without b a xs)
  where
    over : (c p q : Bool) → (p ≡ true → q ≡ true) → (c || p) ≡ true → (c || q) ≡ true
    over true p q f h = refl
    over false p q f h = f h

    keep : (c q : Bool) → q ≡ true → (c || q) ≡ true
    keep true q h = refl
    keep false q h = h

    go : (c : Bool) → has b (cond c xs (x ∷ without a xs)) ≡ true → (has b (without a xs) ≡ true → has b xs ≡ true)
        → (holding_eq b x || has b xs) ≡ true
    go true h ih = keep (holding_eq b x) (has b xs) h
    go false h ih = over (holding_eq b x) (has b (without a xs)) (has b xs) ih h

-- a grant that is there is counted
pub counted : (a : Holding) (xs : List Holding) → has a xs ≡ true → 0 < count_at a.host xs
counted a xs e = let is : count_at a.host xs ≡ 1 + count_at a.host (without a xs) = count-without a.host a xs e
    ∙ ap (λ (b : Bool). cond b 1 0 + count_at a.host (without a xs)) (host_eq-refl a.host) in omega arith

-- a grant is there where it is among its caller's
pub has-held_by : (n : ℕ) (a : Holding) (xs : List Holding) → a.caller ≡ n → has a (held_by n xs) ≡ has a xs
has-held_by n a [] e = refl
has-held_by n a (x ∷ xs) e = go (nat_eq x.caller n) refl (has-held_by n a xs e)
  where
    go : (b : Bool) → nat_eq x.caller n ≡ b → has a (held_by n xs) ≡ has a xs
        → has a (cond b (x ∷ held_by n xs) (held_by n xs)) ≡ (holding_eq a x || has a xs)
    go true is ih = ap (λ (h : Bool). holding_eq a x || h) ih
    go false is ih =
        let apart : a.caller ≢ x.caller = λ k. true≢false (sym (eq-eqb x.caller n (sym k ∙ e)) ∙ is) in
        ih ∙ sym (ap (λ (c : Bool). (c && (nat_eq a.job x.job && host_eq a.host x.host)) || has a xs) (ne_eqb a.caller x.caller apart))

-- a grant of the caller itself is given back
pub held_by-without : (a : Holding) (xs : List Holding) → held_by a.caller (without a xs) ≡ without a (held_by a.caller xs)
held_by-without a [] = refl
held_by-without a (x ∷ xs) = go (nat_eq x.caller a.caller) refl (held_by-without a xs)
  where
    inner : (c : Bool) → nat_eq x.caller a.caller ≡ true → held_by a.caller (without a xs) ≡ without a (held_by a.caller xs)
        → held_by a.caller (cond c xs (x ∷ without a xs)) ≡ cond c (held_by a.caller xs) (x ∷ without a (held_by a.caller xs))
    inner true is ih = refl
    inner false is ih = ap (λ (b : Bool). cond b (x ∷ held_by a.caller (without a xs)) (held_by a.caller (without a xs))) is
        ∙ ap (λ (l : List Holding). x ∷ l) ih

    go : (b : Bool) → nat_eq x.caller a.caller ≡ b → held_by a.caller (without a xs) ≡ without a (held_by a.caller xs)
        → held_by a.caller (cond (holding_eq a x) xs (x ∷ without a xs))
        ≡ without a (cond b (x ∷ held_by a.caller xs) (held_by a.caller xs))
    go true is ih = inner (holding_eq a x) is ih
    go false is ih =
        let apart : a.caller ≢ x.caller = λ k. true≢false (sym (eq-eqb x.caller a.caller (sym k)) ∙ is) in
        let rest : Bool = nat_eq a.job x.job && host_eq a.host x.host in
        let P : Bool → Type 0 = λ c. held_by a.caller (cond (c && rest) xs (x ∷ without a xs)) ≡ without a (held_by a.caller xs) in
        subst P (sym (ne_eqb a.caller x.caller apart))
        (ap (λ (b : Bool). cond b (x ∷ held_by a.caller (without a xs)) (held_by a.caller (without a xs))) is ∙ ih)

-- a grant of another caller is given back
pub held_by-others : (n : ℕ) (a : Holding) (xs : List Holding) → nat_eq a.caller n ≡ false → held_by n (without a xs) ≡ held_by n xs
held_by-others n a [] e = refl
held_by-others n a (x ∷ xs) e = go (holding_eq a x) refl (held_by-others n a xs e)
  where
    go : (b : Bool) → holding_eq a x ≡ b → held_by n (without a xs) ≡ held_by n xs
        → held_by n (cond b xs (x ∷ without a xs)) ≡ cond (nat_eq x.caller n) (x ∷ held_by n xs) (held_by n xs)
    go true is ih =
        let P : Bool → Type 0 = λ c. held_by n xs ≡ cond c (x ∷ held_by n xs) (held_by n xs) in
        subst P (sym (ap (λ (k : ℕ). nat_eq k n) (sym (same-caller a x is)) ∙ e)) refl
    go false is ih = ap (λ (l : List Holding). cond (nat_eq x.caller n) (x ∷ l) l) ih
