-- Pairs of jobs with the same output.
use Rattle.std.proofs.Common.{◌≡◌, ℕ, zero, suc, ◌+◌, ◌<◌, ◌≤◌, true, false, List, [], ◌∷◌, length, Option, Some, None, refl, ap, sym}
use Rattle.std.proofs.Common.{◌∙◌, subst, inl, inr, ⊎_elim, arith}
use Rattle.std.specs.Prelude.{◌⊎◌, Result, IfOk, IfNone}
use Rattle.std.specs.List.{slice_get}
use Rattle.std.specs.Str.{bytes_eq}
use Rattle.std.proofs.lemmas.Bool.{cases_Bool, cases_lt, cases_order}
use Rattle.std.proofs.lemmas.Slice.Eq.{bytes_eq-Decides}
use Rattle.std.specs.BTreeMap.{BTreeMap, get_by, is_at}
use Rattle.std.specs.Map.{lookup, update}
use Rattle.std.specs.Cmp.Lexicographic.{slice_cmp}
use Rattle.std.specs.Ordering.{nat_cmp}
use Rattle.std.proofs.Common.{Bor, get_or}
use Rattle.std.proofs.lemmas.Option.{slice_get-get_or}
use Rattle.job_list.specs.Outputs.{SameOutputAt, AreApart, IsLeastPair}

abbrev Outputs : Type 0
Outputs = List (Option (List ℕ))

-- one of the first numbers has P, or none has
abbrev Found : (ℕ → Type 0) → ℕ → Type 0
Found P n = ((i : ℕ) × (i < n) × P i × ((k : ℕ) → k < i → P k → ⊥)) ⊎ ((k : ℕ) → k < n → P k → ⊥)

below_or_last : (k n : ℕ) → k < suc n → (k < n) ⊎ (k ≡ n)
below_or_last k n lt = ⊎_elim inl (λ past. inr (omega arith)) (cases_lt k n)

-- the least number below n that has P, where each number is tested
least_below : (P : ℕ → Type 0) → ((i : ℕ) → P i ⊎ (P i → ⊥)) → (n : ℕ) → Found P n
least_below P test zero = inr (λ k lt is. absurd (omega arith))
least_below P test (suc n) = by (least_below P test n)
  where
    by : Found P n → Found P (suc n)
    by (inl (i, lt, is, before)) = inl (i, omega arith, is, before)
    by (inr none) = ⊎_elim
        (λ is. inl (n, omega arith, is, none))
        (λ no. inr (λ k lt is. ⊎_elim (λ (below : k < n). none k below is) (λ (same : k ≡ n). no (subst P same is)) (below_or_last k n lt)))
        (test n)

same_bytes : (xs ys : List ℕ) → (xs ≡ ys) ⊎ (xs ≡ ys → ⊥)
same_bytes xs ys = ⊎_elim (λ yes. inl ((bytes_eq-Decides xs ys).0 yes))
    (λ no. inr (λ e. let yes = (bytes_eq-Decides xs ys).1 e in cc)) (cases_Bool (bytes_eq xs ys))

same_here : (a b : Option (Option (List ℕ))) → ((output : List ℕ) × (a ≡ Some (Some output)) × (b ≡ Some (Some output)))
    ⊎ ((output : List ℕ) × (a ≡ Some (Some output)) × (b ≡ Some (Some output)) → ⊥)
same_here None b = inr (λ h. let e = h.1 in cc)
same_here (Some None) b = inr (λ h. let e = h.1 in cc)
same_here (Some (Some x)) None = inr (λ h. let e = h.2 in cc)
same_here (Some (Some x)) (Some None) = inr (λ h. let e = h.2 in cc)
same_here (Some (Some x)) (Some (Some y)) = ⊎_elim
    (λ e. inl (x, refl, ap (λ t. Some (Some t)) (sym e)))
    (λ ne. inr (λ h. let a = h.1 in let b = h.2 in let e : x ≡ y = cc in ne e))
    (same_bytes x y)

tests_same : (outputs : Outputs) (i j : ℕ) → SameOutputAt outputs i j ⊎ (SameOutputAt outputs i j → ⊥)
tests_same outputs i j = same_here (slice_get outputs i) (slice_get outputs j)

-- the pairs whose second place is below n: none of them is the same, or the least one is
abbrev PairBelow : Outputs → ℕ → Type 0
PairBelow outputs n =
    ((i : ℕ) × (j : ℕ) × IsLeastPair outputs i j) ⊎ ((i j : ℕ) → i < j → j < n → SameOutputAt outputs i j → ⊥)

pair_below : (outputs : Outputs) (n : ℕ) → PairBelow outputs n
pair_below outputs zero = inr (λ i j lt within same. absurd (omega arith))
pair_below outputs (suc n) = by (pair_below outputs n) (least_below (λ i. SameOutputAt outputs i n) (λ i. tests_same outputs i n) n)
  where
    by : PairBelow outputs n → Found (λ i. SameOutputAt outputs i n) n → PairBelow outputs (suc n)
    by (inl pair) found = inl pair
    by (inr none) (inl (i, lt, same, before)) = inl (i, n, record { low = lt; same = same; earlier = none; least = before })
    by (inr none) (inr alone) = inr (λ i j lt within same. ⊎_elim
        (λ (below : j < n). none i j lt below same)
        (λ (last : j ≡ n). alone i (omega arith) (subst (SameOutputAt outputs i) last same))
        (below_or_last j n within))

pub get_past : {X : Type 0} (xs : List X) (i : ℕ) (x : X) → slice_get xs i ≡ Some x → i < length xs
get_past [] i x h = absurd cc
get_past (y ∷ ys) zero x h = omega arith
get_past (y ∷ ys) (suc i) x h = let later = get_past ys i x h in omega arith

-- two jobs have the same output, or no two have
pub every_pair : (outputs : Outputs) → ((i : ℕ) × (j : ℕ) × IsLeastPair outputs i j) ⊎ AreApart outputs
every_pair outputs = ⊎_elim inl (λ none. inr (λ i j lt same. none i j lt (get_past outputs j (Some same.0) same.2) same))
    (pair_below outputs (length outputs))

pub pair_not_apart : (outputs : Outputs) (i j : ℕ) → IsLeastPair outputs i j → AreApart outputs → ⊥
pair_not_apart outputs i j h apart = apart i j h.low h.same

one_second : (outputs : Outputs) (i j k m : ℕ) → IsLeastPair outputs i j → IsLeastPair outputs k m → j ≡ m
one_second outputs i j k m h g = ⊎_elim
    (λ e. e)
    (λ apart. absurd (⊎_elim (λ (lt : j < m). g.earlier i j h.low lt h.same) (λ (lt : m < j). h.earlier k m g.low lt g.same) apart))
    (cases_order j m)

one_first : (outputs : Outputs) (i j k : ℕ) → IsLeastPair outputs i j → IsLeastPair outputs k j → i ≡ k
one_first outputs i j k h g = ⊎_elim
    (λ e. e)
    (λ apart. absurd (⊎_elim (λ (lt : i < k). g.least i lt h.same) (λ (lt : k < i). h.least k lt g.same) apart))
    (cases_order i k)

-- there is one least pair
pub one_pair : (outputs : Outputs) (i j k m : ℕ) → IsLeastPair outputs i j → IsLeastPair outputs k m → (i ≡ k) × (j ≡ m)
one_pair outputs i j k m h g =
    let second = one_second outputs i j k m h g in
    (one_first outputs i j k h (subst (IsLeastPair outputs k) (sym second) g), second)

-- ---- a map from outputs to places

abbrev pub Places : Type 0
Places = BTreeMap (Bor (List ℕ)) ℕ

abbrev pub place_of : Places → List ℕ → Option ℕ
place_of places output = get_by (λ (key : Bor (List ℕ)). slice_cmp nat_cmp output key.now) places

-- the map has each of the first n outputs with its place, and nothing else
pub record HasPlaces (outputs : List (Option (List ℕ))) (n : ℕ) (places : Places) : Type 0 where
  pub found : (output : List ℕ) (i : ℕ) → place_of places output ≡ Some i → (i < n) × (slice_get outputs i ≡ Some (Some output))
  pub kept : (output : List ℕ) (i : ℕ) → i < n → slice_get outputs i ≡ Some (Some output) → place_of places output ≡ Some i

pub no_places : (outputs : Outputs) (places : Places) → places.entries ≡ [] → HasPlaces outputs 0 places
no_places outputs places empty = record {
  found = λ output i h. let e : None ≡ Some i =
      sym (ap (lookup (is_at (λ (key : Bor (List ℕ)). slice_cmp nat_cmp output key.now))) empty) ∙ h in absurd cc;
  kept = λ output i lt h. absurd (omega arith);
}

-- no output at the next place
pub places_past : (outputs : Outputs) (n : ℕ) (places : Places) → HasPlaces outputs n places → slice_get outputs n ≡ Some None
    → HasPlaces outputs (n + 1) places
places_past outputs n places h none = record {
  found = λ output i e. let p = h.found output i e in let lt = p.0 in (omega arith, p.1);
  kept = λ output i lt there. ⊎_elim
      (λ below. h.kept output i below there)
      (λ last. let e : Some (Some output) ≡ Some None = sym there ∙ ap (slice_get outputs) last ∙ none in absurd cc)
      (below_or_last i n (omega arith));
}

-- an output at the next place that wasn't there before
pub places_more : (outputs : Outputs) (n : ℕ) (old new : Places) (output : List ℕ) → HasPlaces outputs n old
    → slice_get outputs n ≡ Some (Some output) → place_of old output ≡ None
    → ((other : List ℕ) → place_of new other ≡ update bytes_eq (place_of old) output (Some n) other) → HasPlaces outputs (n + 1) new
places_more outputs n old new output h here none up = record {
  found = λ other i e. ⊎_elim
      (λ (same : bytes_eq output other ≡ true).
      let is : output ≡ other = (bytes_eq-Decides output other).0 same in
      let there : Some n ≡ Some i = sym (up other ∙ rw same refl) ∙ e in
      let at : n ≡ i = cc in
      (omega arith, ap (slice_get outputs) (sym at) ∙ here ∙ ap (λ o. Some (Some o)) is))
      (λ (differs : bytes_eq output other ≡ false).
      let p = h.found other i (sym (up other ∙ rw differs refl) ∙ e) in
      let lt = p.0 in
      (omega arith, p.1))
      (cases_Bool (bytes_eq output other));
  kept = λ other i lt there. ⊎_elim
      (λ (same : bytes_eq output other ≡ true).
      let is : output ≡ other = (bytes_eq-Decides output other).0 same in
      let place = up other ∙ rw same refl in
      ⊎_elim
      (λ below. let e : None ≡ Some i = sym none ∙ ap (place_of old) is ∙ h.kept other i below there in absurd cc)
      (λ last. place ∙ ap Some (sym last))
      (below_or_last i n (omega arith)))
      (λ (differs : bytes_eq output other ≡ false).
      let place = up other ∙ rw differs refl in
      ⊎_elim
      (λ below. place ∙ h.kept other i below there)
      (λ last. let e : Some (Some other) ≡ Some (Some output) = sym there ∙ ap (slice_get outputs) last ∙ here in
      let is : output ≡ other = cc in let yes = (bytes_eq-Decides output other).1 is in absurd cc)
      (below_or_last i n (omega arith)))
      (cases_Bool (bytes_eq output other));
}

places_apart : (outputs : Outputs) (n : ℕ) (places : Places) → HasPlaces outputs n places → (i j : ℕ) → i < j → j < n
    → SameOutputAt outputs i j → ⊥
places_apart outputs n places h i j lt within same =
    let e : Some i ≡ Some j = sym (h.kept same.0 i (omega arith) same.1) ∙ h.kept same.0 j within same.2 in
    let is : i ≡ j = cc in
    omega arith

pub places_all : (outputs : Outputs) (n : ℕ) (places : Places) → HasPlaces outputs n places → length outputs ≤ n → AreApart outputs
places_all outputs n places h all i j lt same = let within = get_past outputs j (Some same.0) same.2 in
    places_apart outputs n places h i j lt (omega arith) same

-- the output at the next place was there before
pub places_pair : (outputs : Outputs) (n : ℕ) (places : Places) (output : List ℕ) (first : ℕ) → HasPlaces outputs n places
    → slice_get outputs n ≡ Some (Some output) → place_of places output ≡ Some first → IsLeastPair outputs first n
places_pair outputs n places output first h here place =
    let p = h.found output first place in
    record {
      low = p.0;
      same = (output, p.1, here);
      earlier = places_apart outputs n places h;
      least = λ i lt same.
          let e : Some (Some same.0) ≡ Some (Some output) = sym same.2 ∙ here in
          let is : same.0 ≡ output = cc in
          let low = p.0 in
          let again : Some i ≡ Some first = sym (h.kept output i (omega arith) (same.1 ∙ ap (λ o. Some (Some o)) is)) ∙ place in
          let one : i ≡ first = cc in
          omega arith;
    }

pub none_answer : {T E : Type 0} (r : Result (Option T) E) (outputs other : Outputs) → outputs ≡ other
    → IfOk r (λ found. IfNone found (AreApart outputs)) → IfOk r (λ found. IfNone found (AreApart other))
none_answer r outputs other same = subst (λ (o : Outputs). IfOk r (λ found. IfNone found (AreApart o))) same

pub places_added : (outputs : Outputs) (n : ℕ) (old new : Places) (output key : List ℕ) → HasPlaces outputs n old
    → slice_get outputs n ≡ Some (Some output) → place_of old output ≡ None → key ≡ output
    → ((other : List ℕ) → place_of new other ≡ update bytes_eq (place_of old) key (Some n) other) → HasPlaces outputs (n + 1) new
places_added outputs n old new output key h here none is up =
    places_more outputs n old new output h here none (λ other. up other ∙ ap (λ k. update bytes_eq (place_of old) k (Some n) other) is)

pub here_at : (outputs : Outputs) (n : ℕ) (output : Option (List ℕ)) → n < length outputs → (read : Option (List ℕ))
    → read ≡ get_or outputs n read → read ≡ output → slice_get outputs n ≡ Some output
here_at outputs n output lt read is e = slice_get-get_or outputs n read lt ∙ ap Some (sym is ∙ e)
