-- A ring of jobs from another of its jobs on.
use Rattle.std.proofs.Common.{◌≡◌, ℕ, ◌+◌, ◌-◌, ◌<◌, ◌≤◌, List, [], ◌∷◌, ◌++◌, length, get_or, take, drop, refl, ap, sym, ◌∙◌, subst}
use Rattle.std.proofs.Common.{inl, inr, ⊎_elim, arith}
use Rattle.std.specs.Prelude.{◌⊎◌, All}
use Rattle.std.proofs.lemmas.Bool.{cases_lt}
use Rattle.std.proofs.lemmas.List.{append-nil, length-append, get_or_append_left, get_or-append-add, get_or-append_right}
use Rattle.std.proofs.lemmas.List.{take-append-drop, drop_more}
use Rattle.std.proofs.lemmas.List.Elements.{All-append, All-take, All-drop}
use Rattle.job_graph.specs.Cycles.{Links, IsRing, AreDistinct, IsCycle}
use Rattle.job_graph.specs.Steps.{IsRingOf}

links_split : (needs : List (List ℕ)) (xs : List ℕ) (first y : ℕ) (ys : List ℕ) (end : ℕ) → Links needs first (xs ++ y ∷ ys) end
    → Links needs first xs y × Links needs y ys end
links_split needs [] first y ys end h = (h.0, h.1)
links_split needs (x ∷ xs) first y ys end h = let p = links_split needs xs x y ys end h.1 in ((h.0, p.0), p.1)

links_join : (needs : List (List ℕ)) (xs : List ℕ) (first y : ℕ) (ys : List ℕ) (end : ℕ) → Links needs first xs y → Links needs y ys end
    → Links needs first (xs ++ y ∷ ys) end
links_join needs [] first y ys end h k = (h, k)
links_join needs (x ∷ xs) first y ys end h k = (h.0, links_join needs xs x y ys end h.1 k)

ring_swap : (needs : List (List ℕ)) (a b : List ℕ) → IsRing needs (a ++ b) → IsRing needs (b ++ a)
ring_swap needs [] b h = subst (IsRing needs) (sym (append-nil b)) h
ring_swap needs (x ∷ xs) [] h = subst (IsRing needs) (append-nil (x ∷ xs)) h
ring_swap needs (x ∷ xs) (y ∷ ys) h = let p = links_split needs xs x y ys x h in links_join needs ys y x xs y p.1 p.0

-- where a place of b ++ a stands in a ++ b
record Moved (a b : List ℕ) (i : ℕ) : Type 0 where
  to : ℕ
  within : to < length (a ++ b)
  same : get_or (b ++ a) i 0 ≡ get_or (a ++ b) to 0
  by : ((i < length b) × (to ≡ length a + i)) ⊎ ((length b ≤ i) × (to + length b ≡ i) × (to < length a))

moved : (a b : List ℕ) (i : ℕ) → i < length (b ++ a) → Moved a b i
moved a b i within = ⊎_elim
    (λ (low : i < length b). record {
      to = length a + i;
      within = omega (arith, length-append a b);
      same = get_or_append_left b a 0 i low ∙ sym (get_or-append-add a b i 0);
      by = inl (low, refl);
    })
    (λ (high : length b ≤ i).
    let sum : i - length b + length b ≡ i = omega arith in
    let short : i - length b < length a = omega (arith, length-append b a) in
    record {
      to = i - length b;
      within = omega (arith, length-append a b);
      same = get_or-append_right b a (length b) i 0 refl high ∙ sym (get_or_append_left a b 0 (i - length b) short);
      by = inr (high, sum, short);
    })
    (cases_lt i (length b))

same_place : (m n i j k l : ℕ) → k ≡ l → ((i < n) × (k ≡ m + i)) ⊎ ((n ≤ i) × (k + n ≡ i) × (k < m))
    → ((j < n) × (l ≡ m + j)) ⊎ ((n ≤ j) × (l + n ≡ j) × (l < m)) → i ≡ j
same_place m n i j k l e (inl p) (inl q) = omega arith
same_place m n i j k l e (inl p) (inr q) = absurd (omega arith)
same_place m n i j k l e (inr p) (inl q) = absurd (omega arith)
same_place m n i j k l e (inr p) (inr q) = omega arith

distinct_swap : (a b : List ℕ) → AreDistinct (a ++ b) → AreDistinct (b ++ a)
distinct_swap a b h i j li lj e =
    let p = moved a b i li in
    let q = moved a b j lj in
    same_place (length a) (length b) i j p.to q.to (h p.to q.to p.within q.within (sym p.same ∙ e ∙ q.same)) p.by q.by

pub ring_rotated : (needs : List (List ℕ)) (jobs : List ℕ) (at : ℕ) → IsRingOf needs jobs → IsRingOf needs (drop at jobs ++ take at jobs)
ring_rotated needs jobs at h =
    let e : take at jobs ++ drop at jobs ≡ jobs = take-append-drop at jobs in
    record {
      ring = ring_swap needs (take at jobs) (drop at jobs) (subst (IsRing needs) (sym e) h.ring);
      distinct = distinct_swap (take at jobs) (drop at jobs) (subst AreDistinct (sym e) h.distinct);
    }

pub cycle_from : (jobs : List ℕ) (at : ℕ) → at < length jobs → All (λ job. get_or jobs at 0 ≤ job) jobs → (needs : List (List ℕ))
    → IsRingOf needs jobs → IsCycle needs (drop at jobs ++ take at jobs)
cycle_from jobs at lt least needs h =
    let r = ring_rotated needs jobs at h in
    let head : drop at jobs ++ take at jobs ≡ get_or jobs at 0 ∷ (drop (at + 1) jobs ++ take at jobs) =
    ap (λ t. t ++ take at jobs) (drop_more jobs at 0 lt) in
    let first : get_or jobs at 0 ≡ get_or (drop at jobs ++ take at jobs) 0 0 = sym (ap (λ t. get_or t 0 0) head) in
    let P : ℕ → Type 0 = λ job. get_or jobs at 0 ≤ job in
    let all : All P (drop at jobs ++ take at jobs) = All-append P (drop at jobs) (take at jobs) (All-drop P at jobs least)
    (All-take P at jobs least) in
    record {
      ring = r.ring;
      distinct = r.distinct;
      least = λ k d l. subst (λ x. x ≤ get_or (drop at jobs ++ take at jobs) k d) first (all k d l);
    }

pub ring_some : (needs : List (List ℕ)) (jobs : List ℕ) → IsRingOf needs jobs → 1 ≤ length jobs
ring_some needs [] h = absurd h.ring
ring_some needs (x ∷ xs) h = omega arith
