-- The reports of all workers, put together.
use Rattle.std.proofs.Common.{◌≡◌, inl, inr, ℕ, zero, suc, ◌+◌, ◌<◌, ◌≤◌, Bool, true, false, cond, List, [], ◌∷◌, ◌++◌, Option, Some, None}
use Rattle.std.proofs.Common.{length, get_or, reverse, nat_eq, refl, sym, ap, ◌∙◌, subst, arith, eq-eqb}
use Rattle.std.specs.Prelude.{All}
use Rattle.std.specs.List.{sum_by, flat_map, range_with_len, cons_option}
use Rattle.std.proofs.lemmas.Bool.{cases_lt}
use Rattle.std.proofs.lemmas.List.Elements.{All-nil, All-cons, All-head, All-tail, All-append}
use Rattle.std.proofs.lemmas.List.Sums.{sum_by-append, sum_by-cons}
use Rattle.std.proofs.lemmas.List.Sorted.{IsPermutation-reverse, IsPermutation-sym, All-permutation, sum_by-IsPermutation}
use Rattle.slot_table.specs.declared.calls.CallEntry.{CallEntry}
use Rattle.slot_table.specs.History.{job_drawn, jobs_drawn, calls_by}
use Rattle.job_driver.proofs.Sorting.{sum-same, sum-none, sum-inside}

-- The list has the elements of these n lists.
pub record Joins {X : Type 0} (n : ℕ) (lists : ℕ → List X) (all : List X) : Type 1 where
  pub sums : (g : X → ℕ) → sum_by g all ≡ sum_by (λ i. sum_by g (lists i)) (range_with_len 0 n)
  pub each : (P : X → Type 0) → ((i : ℕ) → i < n → All P (lists i)) → All P all
  pub part : (i : ℕ) → i < n → (P : X → Type 0) → All P all → All P (lists i)

flat-sum : {X Y : Type 0} (f : X → List Y) (g : Y → ℕ) (xs : List X) → sum_by g (flat_map f xs) ≡ sum_by (λ x. sum_by g (f x)) xs
flat-sum f g [] = refl
flat-sum f g (x ∷ xs) = let a = sum_by-append g (f x) (flat_map f xs) in let b = flat-sum f g xs in let s = sum_by-cons
    (λ y. sum_by g (f y)) x xs in a ∙ (let e : sum_by g (f x) + sum_by g (flat_map f xs) ≡ sum_by (λ y. sum_by g (f y)) (x ∷ xs) = omega
    (arith, b, s) in e)

sum-at : {X : Type 0} (k : X → ℕ) (xs : List X) (a : ℕ) (h : ℕ → ℕ) → ((i : ℕ) (d : X) → i < length xs → h (a + i) ≡ k (get_or xs i d))
    → sum_by k xs ≡ sum_by h (range_with_len a (length xs))
sum-at k [] a h is = refl
sum-at k (x ∷ xs) a h is =
    let first : h a ≡ k x = ap h (let e : a ≡ a + 0 = omega arith in e) ∙ is zero x (omega arith) in
    let rest = sum-at k xs (a + 1) h (λ i d below. subst (λ (j : ℕ). h j ≡ k (get_or xs i d)) (omega arith)
    (is (suc i) d (omega (arith, below)))) in
    let s = sum_by-cons k x xs in
    let t : sum_by h (range_with_len a (length (x ∷ xs))) ≡ h a + sum_by h (range_with_len (a + 1) (length xs)) = sum_by-cons h a
    (range_with_len (a + 1) (length xs)) in
    omega (arith, first, rest, s, t)

all-flat : {X Y : Type 0} (f : X → List Y) (P : Y → Type 0) (xs : List X) → All (λ x. All P (f x)) xs → All P (flat_map f xs)
all-flat f P [] all = All-nil P
all-flat f P (x ∷ xs) all = All-append P (f x) (flat_map f xs) (All-head (λ y. All P (f y)) x xs all)
    (all-flat f P xs (All-tail (λ y. All P (f y)) x xs all))

all-left : {Y : Type 0} (P : Y → Type 0) (xs ys : List Y) → All P (xs ++ ys) → All P xs
all-left P [] ys all = All-nil P
all-left P (x ∷ xs) ys all = All-cons P x xs (All-head P x (xs ++ ys) all) (all-left P xs ys (All-tail P x (xs ++ ys) all))

all-right : {Y : Type 0} (P : Y → Type 0) (xs ys : List Y) → All P (xs ++ ys) → All P ys
all-right P [] ys all = all
all-right P (x ∷ xs) ys all = all-right P xs ys (All-tail P x (xs ++ ys) all)

flat-all : {X Y : Type 0} (f : X → List Y) (P : Y → Type 0) (xs : List X) → All P (flat_map f xs) → All (λ x. All P (f x)) xs
flat-all f P [] all = All-nil (λ x. All P (f x))
flat-all f P (x ∷ xs) all = All-cons (λ y. All P (f y)) x xs (all-left P (f x) (flat_map f xs) all)
    (flat-all f P xs (all-right P (f x) (flat_map f xs) all))

pub joins-of : {X Y : Type 0} (f : X → List Y) (xs : List X) (n : ℕ) (lists : ℕ → List Y) → length xs ≡ n
    → ((i : ℕ) (d : X) → i < n → lists i ≡ f (get_or xs i d)) → Joins n lists (flat_map f (reverse xs))
joins-of {X} {Y} f xs n lists long is = record {
  sums = λ g.
      flat-sum f g (reverse xs) ∙ sum_by-IsPermutation (λ x. sum_by g (f x)) xs (reverse xs) (IsPermutation-reverse xs)
      ∙ sum-at (λ x. sum_by g (f x)) xs 0 (λ i. sum_by g (lists i))
      (λ i d below. ap (λ (j : ℕ). sum_by g (lists j)) (let e : 0 + i ≡ i = omega arith in e)
      ∙ ap (sum_by g) (is i d (omega (arith, below, long))))
      ∙ ap (λ (k : ℕ). sum_by (λ i. sum_by g (lists i)) (range_with_len 0 k)) long;
  each = λ P h.
      all-flat f P (reverse xs) (All-permutation (λ x. All P (f x)) xs (reverse xs) (IsPermutation-reverse xs)
      (λ k d below. let inside : k < n = omega (arith, below, long) in subst (λ (ys : List Y). All P ys) (is k d inside) (h k inside)));
  part = λ i inside P all.
      let there = All-permutation (λ x. All P (f x)) (reverse xs) xs (IsPermutation-sym xs (reverse xs) (IsPermutation-reverse xs))
      (flat-all f P (reverse xs) all) in
      at-part P i inside xs there (omega (arith, inside, long)) (λ d. is i d inside);
}
  where
    at-part : (P : Y → Type 0) (i : ℕ) → i < n → (zs : List X) → All (λ x. All P (f x)) zs → i < length zs
        → ((d : X) → lists i ≡ f (get_or zs i d)) → All P (lists i)
    at-part P i inside [] there below same = absurd (omega (arith, below))
    at-part P i inside (z ∷ zs) there below same = subst (λ (ys : List Y). All P ys) (sym (same z)) (there i z below)

-- what the calls of one caller draw
abbrev pub weight : (ℕ → ℕ) → Option ℕ → ℕ
weight f None = 0
weight f (Some job) = f job

weighed : (f : ℕ → ℕ) (o : Option ℕ) (xs : List ℕ) → sum_by f (cons_option o xs) ≡ weight f o + sum_by f xs
weighed f None xs = let e : sum_by f xs ≡ 0 + sum_by f xs = omega arith in e
weighed f (Some job) xs = sum_by-cons f job xs

abbrev drawn_by : (ℕ → ℕ) → List CallEntry → ℕ → ℕ
drawn_by f es i = sum_by f (jobs_drawn (calls_by i es))

drawn-first : (f : ℕ → ℕ) (e : CallEntry) (es : List CallEntry) (i : ℕ)
    → drawn_by f (e ∷ es) i ≡ cond (nat_eq e.caller i) (weight f (job_drawn e.call e.reply)) 0 + drawn_by f es i
drawn-first f e es i = go (nat_eq e.caller i)
  where
    go : (b : Bool) → sum_by f (jobs_drawn (cond b (e ∷ calls_by i es) (calls_by i es))) ≡ cond b (weight f (job_drawn e.call e.reply)) 0 +
        drawn_by f es i
    go true = weighed f (job_drawn e.call e.reply) (jobs_drawn (calls_by i es))
    go false = omega arith

others-none : (n : ℕ) (e : CallEntry) (es : List CallEntry) → ((caller : ℕ) → n ≤ caller → calls_by caller (e ∷ es) ≡ []) → (caller : ℕ)
    → n ≤ caller → calls_by caller es ≡ []
others-none n e es none caller above = go (nat_eq e.caller caller) (none caller above)
  where
    go : (b : Bool) → cond b (e ∷ calls_by caller es) (calls_by caller es) ≡ [] → calls_by caller es ≡ []
    go true is = absurd (let long = ap length is in omega (arith, long))
    go false is = is

caller-below : (n : ℕ) (e : CallEntry) (es : List CallEntry) → ((caller : ℕ) → n ≤ caller → calls_by caller (e ∷ es) ≡ []) → e.caller < n
caller-below n e es none = elim (cases_lt e.caller n) [
  | inl below ↦ below
  | inr above ↦
      let is : cond (nat_eq e.caller e.caller) (e ∷ calls_by e.caller es) (calls_by e.caller es) ≡ [] = none e.caller above in
      let own : e ∷ calls_by e.caller es ≡ [] = sym
      (ap (λ (b : Bool). cond b (e ∷ calls_by e.caller es) (calls_by e.caller es)) (eq-eqb e.caller e.caller refl)) ∙ is in
      let long = ap length own in absurd (omega (arith, long))
]

-- what all callers draw together is what is drawn
pub drawn-sums : (f : ℕ → ℕ) (n : ℕ) (es : List CallEntry) → ((caller : ℕ) → n ≤ caller → calls_by caller es ≡ [])
    → sum_by (λ i. sum_by f (jobs_drawn (calls_by i es))) (range_with_len 0 n) ≡ sum_by f (jobs_drawn es)
drawn-sums f n [] none = sum-none (range_with_len 0 n)
drawn-sums f n (e ∷ es) none =
    let w = weight f (job_drawn e.call e.reply) in
    let rest = drawn-sums f n es (others-none n e es none) in
    let one = sum-same (drawn_by f (e ∷ es)) (λ i. cond (nat_eq e.caller i) w 0 + drawn_by f es i) (range_with_len 0 n) (drawn-first f e es)
    in
    let in_all = sum-inside (drawn_by f es) e.caller w 0 n (omega arith) (let b = caller-below n e es none in omega (arith, b)) in
    one ∙ in_all ∙ ap (λ (k : ℕ). w + k) rest ∙ sym (weighed f (job_drawn e.call e.reply) (jobs_drawn es))
