-- Numbers that rise are known by their sums.
use Rattle.std.proofs.Common.{◌≡◌, inl, inr, ℕ, zero, suc, ◌+◌, ◌<◌, ◌≤◌, Bool, cond, List, [], ◌∷◌, length, get_or, map, nat_eq, refl, sym}
use Rattle.std.proofs.Common.{ap, ◌∙◌, arith, ne_eqb, eq-eqb}
use Rattle.std.specs.List.{sum_by, range_with_len}
use Rattle.std.specs.List.Sorted.{IsNonDecreasingBy}
use Rattle.std.proofs.lemmas.Bool.{cases_lt}
use Rattle.std.proofs.lemmas.List.Sums.{sum_by-cons}

-- numbers that don't fall
abbrev pub Up : ℕ → List ℕ → Type 0
Up from [] = Unit {0}
Up from (x ∷ xs) = (from ≤ x) × Up x xs

abbrev pub SameSums : List ℕ → List ℕ → Type 0
SameSums xs ys = (f : ℕ → ℕ) → sum_by f xs ≡ sum_by f ys

abbrev is_it : ℕ → ℕ → ℕ
is_it x k = cond (nat_eq k x) 1 0

above-none : (x from : ℕ) (ys : List ℕ) → x < from → Up from ys → sum_by (is_it x) ys ≡ 0
above-none x from [] less up = refl
above-none x from (y ∷ ys) less up =
    let low : from ≤ y = up.0 in
    let rest = above-none x y ys (omega (arith, less, low)) up.1 in
    let other : is_it x y ≡ 0 = ap (λ (b : Bool). cond b 1 0) (ne_eqb y x (λ e. omega (arith, e, less, low))) in
    let s = sum_by-cons (is_it x) y ys in
    omega (arith, rest, other, s)

self-one : (x : ℕ) (xs : List ℕ) → 1 ≤ sum_by (is_it x) (x ∷ xs)
self-one x xs = let one : is_it x x ≡ 1 = ap (λ (b : Bool). cond b 1 0) (eq-eqb x x refl) in let s = sum_by-cons (is_it x) x xs in omega
    (arith, one, s)

not-less : (x y : ℕ) (xs ys : List ℕ) → Up y ys → SameSums (x ∷ xs) (y ∷ ys) → x < y → ⊥
not-less x y xs ys up same less =
    let none : sum_by (is_it x) (y ∷ ys) ≡ 0 = above-none x y (y ∷ ys) less (omega arith, up) in
    let some = self-one x xs in
    let s = same (is_it x) in
    omega (arith, none, some, s)

first-same : (x y : ℕ) (xs ys : List ℕ) → Up x xs → Up y ys → SameSums (x ∷ xs) (y ∷ ys) → x ≡ y
first-same x y xs ys u v same = elim (cases_lt x y) [
  | inl less ↦ absurd (not-less x y xs ys v same less)
  | inr other ↦ elim (cases_lt y x) [
    | inl less ↦ absurd (not-less y x ys xs u (λ f. sym (same f)) less)
    | inr back ↦ omega (arith, other, back)
  ]
]

-- two such lists with the same sums are equal
pub up-same : (a b : ℕ) (xs ys : List ℕ) → Up a xs → Up b ys → SameSums xs ys → xs ≡ ys
up-same a b [] [] u v same = refl
up-same a b [] (y ∷ ys) u v same = let s = same (λ k. 1) in let t = sum_by-cons (λ (k : ℕ). 1) y ys in absurd (omega (arith, s, t))
up-same a b (x ∷ xs) [] u v same = let s = same (λ k. 1) in let t = sum_by-cons (λ (k : ℕ). 1) x xs in absurd (omega (arith, s, t))
up-same a b (x ∷ xs) (y ∷ ys) u v same =
    let e : x ≡ y = first-same x y xs ys u.1 v.1 same in
    let tails : SameSums xs ys = λ f. let s = same f in let h : f x ≡ f y = ap f e in let t = sum_by-cons f x xs in let u = sum_by-cons f y
    ys in omega (arith, s, h, t, u) in
    ap (λ (k : ℕ). k ∷ xs) e ∙ ap (λ (zs : List ℕ). y ∷ zs) (up-same x y xs ys u.1 v.1 tails)

up-lower : (a b : ℕ) (xs : List ℕ) → b ≤ a → Up a xs → Up b xs
up-lower a b [] less up = tt
up-lower a b (x ∷ xs) less up = (let low : a ≤ x = up.0 in omega (arith, less, low), up.1)

pub up-range : (a n : ℕ) → Up a (range_with_len a n)
up-range a zero = tt
up-range a (suc n) = (omega arith, up-lower (a + 1) a (range_with_len (a + 1) n) (omega arith) (up-range (a + 1) n))

pub up-from : {X : Type 0} (n : X → ℕ) (xs : List X) (from : ℕ) → ((d : X) → 0 < length xs → from ≤ n (get_or xs 0 d))
    → IsNonDecreasingBy n xs → Up from (map n xs)
up-from n [] from low order = tt
up-from n (x ∷ xs) from low order = (
  low x (omega arith),
  up-from n xs (n x) (λ d some. order zero (suc zero) d (omega arith) (omega (arith, some)))
      (λ i j d le below. order (suc i) (suc j) d (omega (arith, le)) (omega (arith, below))),
)

-- sums over a range
pub sum-same : (g h : ℕ → ℕ) (xs : List ℕ) → ((i : ℕ) → g i ≡ h i) → sum_by g xs ≡ sum_by h xs
sum-same g h [] same = refl
sum-same g h (x ∷ xs) same = let a = same x in let b = sum-same g h xs same in let s = sum_by-cons g x xs in let t = sum_by-cons h x xs in
    omega (arith, a, b, s, t)

pub sum-none : (xs : List ℕ) → sum_by (λ i. 0) xs ≡ 0
sum-none [] = refl
sum-none (x ∷ xs) = let b = sum-none xs in let s = sum_by-cons (λ (i : ℕ). 0) x xs in omega (arith, b, s)

abbrev at : ℕ → ℕ → ℕ → ℕ
at c w i = cond (nat_eq c i) w 0

sum-outside : (g : ℕ → ℕ) (c w a n : ℕ) → c < a → sum_by (λ i. at c w i + g i) (range_with_len a n) ≡ sum_by g (range_with_len a n)
sum-outside g c w a zero less = refl
sum-outside g c w a (suc n) less =
    let no : at c w a ≡ 0 = ap (λ (b : Bool). cond b w 0) (ne_eqb c a (λ e. omega (arith, e, less))) in
    let rest = sum-outside g c w (a + 1) n (omega (arith, less)) in
    let s : sum_by (λ i. at c w i + g i) (range_with_len a (suc n)) ≡ (at c w a + g a) + sum_by (λ i. at c w i + g i)
    (range_with_len (a + 1) n) = sum_by-cons (λ i. at c w i + g i) a (range_with_len (a + 1) n) in
    let t : sum_by g (range_with_len a (suc n)) ≡ g a + sum_by g (range_with_len (a + 1) n) = sum_by-cons g a (range_with_len (a + 1) n) in
    omega (arith, no, rest, s, t)

pub sum-inside : (g : ℕ → ℕ) (c w a n : ℕ) → a ≤ c → c < a + n
    → sum_by (λ i. at c w i + g i) (range_with_len a n) ≡ w + sum_by g (range_with_len a n)
sum-inside g c w a zero low high = absurd (omega (arith, low, high))
sum-inside g c w a (suc n) low high = elim (cases_lt a c) [
  | inl less ↦
      let no : at c w a ≡ 0 = ap (λ (b : Bool). cond b w 0) (ne_eqb c a (λ e. omega (arith, e, less))) in
      let rest = sum-inside g c w (a + 1) n (omega (arith, less)) (omega (arith, high)) in
      let s : sum_by (λ i. at c w i + g i) (range_with_len a (suc n)) ≡ (at c w a + g a) + sum_by (λ i. at c w i + g i)
      (range_with_len (a + 1) n) = sum_by-cons (λ i. at c w i + g i) a (range_with_len (a + 1) n) in
      let t : sum_by g (range_with_len a (suc n)) ≡ g a + sum_by g (range_with_len (a + 1) n) = sum_by-cons g a (range_with_len (a + 1) n)
      in
      omega (arith, no, rest, s, t)
  | inr other ↦
      let yes : at c w a ≡ w = ap (λ (b : Bool). cond b w 0) (eq-eqb c a (omega (arith, other, low))) in
      let rest = sum-outside g c w (a + 1) n (omega (arith, other)) in
      let s : sum_by (λ i. at c w i + g i) (range_with_len a (suc n)) ≡ (at c w a + g a) + sum_by (λ i. at c w i + g i)
      (range_with_len (a + 1) n) = sum_by-cons (λ i. at c w i + g i) a (range_with_len (a + 1) n) in
      let t : sum_by g (range_with_len a (suc n)) ≡ g a + sum_by g (range_with_len (a + 1) n) = sum_by-cons g a (range_with_len (a + 1) n)
      in
      omega (arith, yes, rest, s, t)
]

pub sum-below : (g h : ℕ → ℕ) (a n : ℕ) → ((i : ℕ) → i < a + n → g i ≡ h i) → sum_by g (range_with_len a n) ≡ sum_by h (range_with_len a n)
sum-below g h a zero same = refl
sum-below g h a (suc n) same =
    let first = same a (omega arith) in
    let rest = sum-below g h (a + 1) n (λ i below. same i (omega (arith, below))) in
    let s : sum_by g (range_with_len a (suc n)) ≡ g a + sum_by g (range_with_len (a + 1) n) = sum_by-cons g a (range_with_len (a + 1) n) in
    let t : sum_by h (range_with_len a (suc n)) ≡ h a + sum_by h (range_with_len (a + 1) n) = sum_by-cons h a (range_with_len (a + 1) n) in
    omega (arith, first, rest, s, t)
