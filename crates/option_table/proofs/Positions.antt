-- The first place at which a test passes.
use Rattle.std.proofs.Common.{◌≡◌, ℕ, ◌<◌, Bool, true, false, cond, ltb, List, length, get_or, Some, None, refl, sym, ◌∙◌, ap, arith}
use Rattle.std.specs.List.{position, position_or_len}
use Rattle.std.proofs.lemmas.List.Sums.{position_or_len_is, passes_at_first, fails_before_first}
use Rattle.std.proofs.lemmas.Bool.Decides.{nat_tests}

-- a test that can't pass fails
pub fails_by : (a : Bool) → (a ≡ true → ⊥) → a ≡ false
fails_by true h = absurd (h refl)
fails_by false h = refl

chosen_when : (n m at : ℕ) → n ≡ at → at < m → cond (ltb n m) (Some n) None ≡ Some at
chosen_when n m at same below = grind (arith, nat_tests)

none_when : (n m : ℕ) → n ≡ m → cond (ltb n m) (Some n) None ≡ None
none_when n m same = grind (arith, nat_tests)

chosen_is : (n m at : ℕ) → cond (ltb n m) (Some n) None ≡ Some at → (n ≡ at) × (at < m)
chosen_is n m at h = (grind (arith, nat_tests), grind (arith, nat_tests))

pub position_is : {X : Type 0} (p : X → Bool) (xs : List X) (at : ℕ) (d : X) → at < length xs
    → ((k : ℕ) → k < at → p (get_or xs k d) ≡ false) → p (get_or xs at d) ≡ true → position p xs ≡ Some at
position_is p xs at d within before here =
    chosen_when _ _ at (position_or_len_is p xs at d (omega arith) before (λ _. here)) within

pub position_none : {X : Type 0} (p : X → Bool) (xs : List X) (d : X) → ((k : ℕ) → k < length xs → p (get_or xs k d) ≡ false)
    → position p xs ≡ None
position_none p xs d fails = none_when _ _ (position_or_len_is p xs (length xs) d (omega arith) fails (λ h. absurd (omega arith)))

-- the place that was found is within the list, and its element passes
pub position_passes : {X : Type 0} (p : X → Bool) (xs : List X) (at : ℕ) (d : X) → position p xs ≡ Some at
    → (at < length xs) × (p (get_or xs at d) ≡ true)
position_passes p xs at d h =
    let is = chosen_is (position_or_len p xs) (length xs) at h in
    let inside : position_or_len p xs < length xs = omega arith in
    (is.1, ap (λ k. p (get_or xs k d)) (sym is.0) ∙ passes_at_first p xs d inside)

-- where no place was found no element passes
pub position_fails : {X : Type 0} (p : X → Bool) (xs : List X) (k : ℕ) (d : X) → position p xs ≡ None → k < length xs
    → p (get_or xs k d) ≡ false
position_fails p xs k d h within = fails_before_first p xs k d (none_is _ _ k h within)
  where
    none_is : (n m k : ℕ) → cond (ltb n m) (Some n) None ≡ None → k < m → k < n
    none_is n m k h within = grind (arith, nat_tests)
