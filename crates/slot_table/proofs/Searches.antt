-- Searches over a range of entries, one entry after another.
use Rattle.std.proofs.Common.{◌≡◌, inl, inr, ℕ, zero, suc, ◌+◌, ◌-◌, ◌<◌, ◌≤◌, Bool, true, false, ◌&&◌, not, nat_lt, cond, List, [], ◌∷◌}
use Rattle.std.proofs.Common.{◌++◌, Option, Some, None, take, drop, refl, sym, ap, ◌∙◌, arith}
use Rattle.std.specs.Prelude.{find}
use Rattle.std.specs.Option.{option_or}
use Rattle.std.proofs.lemmas.Bool.{and_parts, cases_eq, lt-ltb}
use Rattle.std.proofs.lemmas.List.{take-append-drop}
use Rattle.std.proofs.lemmas.List.Folds.{find-append, list_all-append}
use Rattle.std.specs.List.{range_with_len, list_all}

range-one : (a n : ℕ) → a < n → range_with_len a (n - a) ≡ a ∷ range_with_len (a + 1) (n - (a + 1))
range-one a n below = let e : n - a ≡ suc (n - (a + 1)) = omega arith in ap (range_with_len a) e

range-none : (a n : ℕ) → n ≤ a → range_with_len a (n - a) ≡ []
range-none a n above = let e : n - a ≡ 0 = omega arith in ap (range_with_len a) e

pub find-hit : (p : ℕ → Bool) (a n : ℕ) → a < n → p a ≡ true → find p (range_with_len a (n - a)) ≡ Some a
find-hit p a n below is = ap (find p) (range-one a n below)
    ∙ ap (λ (b : Bool). cond b (Some a) (find p (range_with_len (a + 1) (n - (a + 1))))) is

pub find-miss : (p : ℕ → Bool) (a n : ℕ) → a < n → p a ≡ false
    → find p (range_with_len a (n - a)) ≡ find p (range_with_len (a + 1) (n - (a + 1)))
find-miss p a n below is = ap (find p) (range-one a n below)
    ∙ ap (λ (b : Bool). cond b (Some a) (find p (range_with_len (a + 1) (n - (a + 1))))) is

pub find-end : (p : ℕ → Bool) (a n : ℕ) → n ≤ a → find p (range_with_len a (n - a)) ≡ None
find-end p a n above = ap (find p) (range-none a n above)

pub all-hit : (p : ℕ → Bool) (a n : ℕ) → a < n → p a ≡ true
    → list_all p (range_with_len a (n - a)) ≡ list_all p (range_with_len (a + 1) (n - (a + 1)))
all-hit p a n below is = ap (list_all p) (range-one a n below)
    ∙ ap (λ (b : Bool). b && list_all p (range_with_len (a + 1) (n - (a + 1)))) is

pub all-miss : (p : ℕ → Bool) (a n : ℕ) → a < n → p a ≡ false → list_all p (range_with_len a (n - a)) ≡ false
all-miss p a n below is = ap (list_all p) (range-one a n below)
    ∙ ap (λ (b : Bool). b && list_all p (range_with_len (a + 1) (n - (a + 1)))) is

pub all-end : (p : ℕ → Bool) (a n : ℕ) → n ≤ a → list_all p (range_with_len a (n - a)) ≡ true
all-end p a n above = ap (list_all p) (range-none a n above)

-- a range from its place k on, and up to it
pub drop-range : (k a n : ℕ) → drop k (range_with_len a n) ≡ range_with_len (a + k) (n - k)
drop-range zero a n = omega-free a n
  where
    omega-free : (a n : ℕ) → range_with_len a n ≡ range_with_len (a + 0) (n - 0)
    omega-free a n = let e : a + 0 ≡ a = omega arith in let z : n - 0 ≡ n = omega arith in
        ap (λ (b : ℕ). range_with_len b n) (sym e) ∙ ap (range_with_len (a + 0)) (sym z)
drop-range (suc k) a zero = let z : 0 - suc k ≡ 0 = omega arith in ap (range_with_len (a + suc k)) (sym z)
drop-range (suc k) a (suc n) = let e : a + 1 + k ≡ a + suc k = omega arith in let z : n - k ≡ suc n - suc k = omega arith in
    drop-range k (a + 1) n ∙ ap (λ (b : ℕ). range_with_len b (n - k)) e ∙ ap (range_with_len (a + suc k)) z

pub take-range : (k a n : ℕ) → k ≤ n → take k (range_with_len a n) ≡ range_with_len a k
take-range zero a n fits = refl
take-range (suc k) a zero fits = absurd (omega arith)
take-range (suc k) a (suc n) fits = ap (λ (xs : List ℕ). a ∷ xs) (take-range k (a + 1) n (omega arith))

-- a search in the rotated order looks from place k on, and then below it
pub find-rotated : (p : ℕ → Bool) (k n : ℕ) → k ≤ n → find p (drop k (range_with_len 0 n) ++ take k (range_with_len 0 n))
    ≡ option_or (find p (range_with_len k (n - k))) (find p (range_with_len 0 (k - 0)))
find-rotated p k n fits =
    let z : 0 + k ≡ k = omega arith in let m : k ≡ k - 0 = omega arith in
    find-append p (drop k (range_with_len 0 n)) (take k (range_with_len 0 n))
    ∙ ap (λ (xs : List ℕ). option_or (find p xs) (find p (take k (range_with_len 0 n))))
    (drop-range k 0 n ∙ ap (λ (a : ℕ). range_with_len a (n - k)) z)
    ∙ ap (λ (xs : List ℕ). option_or (find p (range_with_len k (n - k))) (find p xs)) (take-range k 0 n fits ∙ ap (range_with_len 0) m)

pub rotated-hit : (p : ℕ → Bool) (k n i : ℕ) → k ≤ n → Some i ≡ find p (range_with_len k (n - k))
    → Some i ≡ find p (drop k (range_with_len 0 n) ++ take k (range_with_len 0 n))
rotated-hit p k n i fits is =
    sym (find-rotated p k n fits ∙ ap (λ (o : Option ℕ). option_or o (find p (range_with_len 0 (k - 0)))) (sym is))

pub rotated-rest : (p : ℕ → Bool) (k n : ℕ) (r : Option ℕ) → k ≤ n → None ≡ find p (range_with_len k (n - k))
    → r ≡ find p (range_with_len 0 (k - 0)) → r ≡ find p (drop k (range_with_len 0 n) ++ take k (range_with_len 0 n))
rotated-rest p k n r fits none is =
    is ∙ sym (find-rotated p k n fits ∙ ap (λ (o : Option ℕ). option_or o (find p (range_with_len 0 (k - 0)))) (sym none))

-- without an entry there is none to find
pub find-nothing : (p : ℕ → Bool) (k n : ℕ) → n ≡ 0 → find p (drop k (range_with_len 0 n) ++ take k (range_with_len 0 n)) ≡ None
find-nothing p k n is = ap (λ (m : ℕ). find p (drop k (range_with_len 0 m) ++ take k (range_with_len 0 m))) is ∙ none k
  where
    none : (k : ℕ) → find p (drop k [] ++ take k []) ≡ None
    none zero = refl
    none (suc k) = refl

-- what is found passes the test, and what every entry passes
abbrev pub Passes : (ℕ → Bool) → (ℕ → Bool) → Option ℕ → Type 0
Passes p q None = Unit {0}
Passes p q (Some i) = (p i ≡ true) × (q i ≡ true)

pub find-passes : (p q : ℕ → Bool) (xs : List ℕ) → list_all q xs ≡ true → Passes p q (find p xs)
find-passes p q [] all = tt
find-passes p q (x ∷ xs) all = let parts = and_parts (q x) (list_all q xs) all in go (p x) refl (find-passes p q xs parts.1)
  where
    go : (b : Bool) → p x ≡ b → Passes p q (find p xs) → Passes p q (cond b (Some x) (find p xs))
    go true is rest = (is, (and_parts (q x) (list_all q xs) all).0)
    go false is rest = rest

-- where nothing is found, every entry fails the test
pub find-none : (p : ℕ → Bool) (xs : List ℕ) → find p xs ≡ None → list_all (λ i. not (p i)) xs ≡ true
find-none p [] none = refl
find-none p (x ∷ xs) none = go (p x) none (find-none p xs)
  where
    go : (b : Bool) → cond b (Some x) (find p xs) ≡ None → (find p xs ≡ None → list_all (λ i. not (p i)) xs ≡ true)
        → (not b && list_all (λ i. not (p i)) xs) ≡ true
    go true e ih = cc
    go false e ih = ih e

-- the rotated order has the same entries
pub all-rotated : (q : ℕ → Bool) (k : ℕ) (xs : List ℕ) → list_all q (drop k xs ++ take k xs) ≡ list_all q xs
all-rotated q k xs = list_all-append q (drop k xs) (take k xs) ∙ swap (list_all q (drop k xs)) (list_all q (take k xs))
    ∙ sym (list_all-append q (take k xs) (drop k xs)) ∙ ap (list_all q) (take-append-drop k xs)
  where
    swap : (a b : Bool) → (a && b) ≡ (b && a)
    swap true true = refl
    swap true false = refl
    swap false true = refl
    swap false false = refl

-- a test that holds from a on, below a + n, holds of each entry of the range
pub all-range : (q : ℕ → Bool) (a n : ℕ) → ((i : ℕ) → i < a + n → q i ≡ true) → list_all q (range_with_len a n) ≡ true
all-range q a zero each = refl
all-range q a (suc n) each = let here : a < a + suc n = omega arith in
    ap (λ (b : Bool). b && list_all q (range_with_len (a + 1) n)) (each a here)
    ∙ all-range q (a + 1) n (λ i below. let below' : i < a + suc n = omega arith in each i below')

-- each entry of the range that passes one test passes another
pub all-weaker : (q r : ℕ → Bool) (a n : ℕ) → ((i : ℕ) → i < a + n → q i ≡ true → r i ≡ true)
    → list_all q (range_with_len a n) ≡ true → list_all r (range_with_len a n) ≡ true
all-weaker q r a zero each all = refl
all-weaker q r a (suc n) each all =
    let here : a < a + suc n = omega arith in
    let parts = and_parts (q a) (list_all q (range_with_len (a + 1) n)) all in
    ap (λ (b : Bool). b && list_all r (range_with_len (a + 1) n)) (each a here parts.0)
    ∙ all-weaker q r (a + 1) n (λ i below. let below' : i < a + suc n = omega arith in each i below') parts.1

-- the entries that a search looks at are below their number
pub search-below : (k n : ℕ) → list_all (λ i. nat_lt i n) (drop k (range_with_len 0 n) ++ take k (range_with_len 0 n)) ≡ true
search-below k n = all-rotated (λ i. nat_lt i n) k (range_with_len 0 n)
    ∙ all-range (λ i. nat_lt i n) 0 n (λ i below. lt-ltb i n (omega arith))

-- what holds of each entry of a range holds of one of them
pub all-at : (q : ℕ → Bool) (a n : ℕ) → list_all q (range_with_len a n) ≡ true → (i : ℕ) → a ≤ i → i < a + n → q i ≡ true
all-at q a zero all i low high = absurd (omega arith)
all-at q a (suc n) all i low high =
    let parts = and_parts (q a) (list_all q (range_with_len (a + 1) n)) all in
    elim (cases_eq i a) [ inl e ↦ ap q e ∙ parts.0 | inr apart ↦ all-at q (a + 1) n parts.1 i (omega arith) (omega arith) ]
