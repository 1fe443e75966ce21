-- How many in a list pass a test, where one of them changes or one more comes.
use Rattle.std.proofs.Common.{◌≡◌, ℕ, zero, suc, ◌+◌, Bool, cond, List, [], ◌∷◌, ◌++◌, set, count_by, sym, ap, arith}
use Rattle.std.proofs.lemmas.List.Sums.{sum_by-cons, sum_by_push}
use mathlib.Core.Option.{some, some-ne-none, some-injective}
use lib.ListN.{get_elem?}

abbrev pub one_if : Bool → ℕ
one_if b = cond b 1 0

module _ {A : Type 0} (p : A → Bool) where
  step : (x : A) (xs : List A) → count_by p (x ∷ xs) ≡ one_if (p x) + count_by p xs
  step x xs = sum_by-cons (λ y. one_if (p y)) x xs

  pub count-set : (l : List A) (i : ℕ) (a b : A) → get_elem? l i ≡ some b
      → count_by p (set l i a) + one_if (p b) ≡ count_by p l + one_if (p a)
  count-set [] i a b e = absurd (some-ne-none b (sym e))
  count-set (x ∷ xs) zero a b e =
      let same : one_if (p x) ≡ one_if (p b) = ap (λ (y : A). one_if (p y)) (some-injective x b e) in
      let before = step x xs in
      let after : count_by p (set (x ∷ xs) 0 a) ≡ one_if (p a) + count_by p xs = step a xs in omega arith
  count-set (x ∷ xs) (suc i) a b e =
      let rest = count-set xs i a b e in
      let before = step x xs in
      let after : count_by p (set (x ∷ xs) (suc i) a) ≡ one_if (p x) + count_by p (set xs i a) = step x (set xs i a) in omega arith

  pub count-snoc : (l : List A) (a : A) → count_by p (l ++ a ∷ []) ≡ count_by p l + one_if (p a)
  count-snoc l a = sum_by_push (λ y. one_if (p y)) l a
