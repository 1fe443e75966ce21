-- Places sorted by the second byte and then by the spelling, and where a byte's span starts.
use Rattle.std.proofs.Common.{◌≡◌, ℕ, ◌+◌, ◌-◌, ◌<◌, ◌≤◌, Bool, true, false, ltb, nat_eq, List, ◌∷◌, length, take, drop, get_or}
use Rattle.std.proofs.Common.{slice_index, slice_set, refl, sym, subst, ◌∙◌, ap, arith}
use Rattle.std.specs.declared.cmp.Ordering.{Ordering}
use Rattle.std.specs.declared.cmp.Ordering.TheVariants.{Less}
use Rattle.std.specs.Cmp.{IsStrictWeakOrder}
use Rattle.std.specs.Fn.{Called, ComparesAs}
use Rattle.std.proofs.lemmas.Fn.{always_returns_same}
use denote.Ref.{Bor}
use denote.Param.Members.{Mut}
use Rattle.std.specs.Ordering.{nat_cmp, is_lt, ordering_then}
use Rattle.std.specs.Cmp.Lexicographic.{slice_cmp}
use Rattle.std.specs.List.{list_any, Contains}
use Rattle.std.specs.List.Sorted.{IsPermutation, IsSortedBy, IsPartitionPoint}
use Rattle.std.proofs.lemmas.Cmp.{nat_list_cmp_total}
use Rattle.std.proofs.lemmas.Bool.{false≢true}
use Rattle.std.proofs.lemmas.Bool.Decides.{Decides-eqb, nat_tests}
use Rattle.std.proofs.lemmas.Grind.{common_steps, get_or-set_at}
use Rattle.std.proofs.lemmas.List.{get_or_default, length-set, get_or-set_other}
use Rattle.std.proofs.lemmas.List.Folds.{list_any_at}
use Rattle.std.proofs.lemmas.Map.Views.{Contains-from_any}
use Rattle.std.proofs.lemmas.List.Sorted.{sorted_far, ranks_by, Contains-permutation}
use Rattle.option_table.specs.declared.row.OptionRow.{OptionRow}
use Rattle.option_table.specs.Spans.{letter_at, spelling_at, sort_key, IsStart, AreAllPlaces, AreSorted, IsIndexed, IsSpan}

abbrev pub comes_before : List OptionRow → ℕ → ℕ → Bool
comes_before rows one other = is_lt (slice_cmp nat_cmp (sort_key rows one) (sort_key rows other))

first_less : (a b : ℕ) (xs ys : List ℕ) → a < b → is_lt (slice_cmp nat_cmp (a ∷ xs) (b ∷ ys)) ≡ true
first_less a b xs ys h = ap (λ o. is_lt (ordering_then o (slice_cmp nat_cmp xs ys))) (less a b h)
  where
    less : (a b : ℕ) → a < b → nat_cmp a b ≡ Less
    less a b h = grind (arith, nat_tests)

not_above : (a b : ℕ) → (a < b → ⊥) → b ≤ a
not_above a b h = by_test (ltb a b) refl
  where
    by_test : (t : Bool) → ltb a b ≡ t → b ≤ a
    by_test true is = absurd (h (grind (arith, nat_tests)))
    by_test false is = grind (arith, nat_tests)

-- what is sorted by the key has second bytes that never fall
sorted_letters : (rows : List OptionRow) (places : List ℕ) → IsSortedBy (comes_before rows) places → AreSorted rows places
sorted_letters rows places up = λ i j d before within.
    not_above (letter_at rows (get_or places j d)) (letter_at rows (get_or places i d))
    (λ less. false≢true (sym (sorted_far (comes_before rows) (ranks_by nat_list_cmp_total (sort_key rows)) places up i j d before
    within) ∙ first_less _ _ (spelling_at rows (get_or places j d)) (spelling_at rows (get_or places i d)) less))

-- the same of a sort by a closure that compares the keys
pub sorted_by_keys : (rows : List OptionRow) {F : Type 0} {g : Mut F (Bor ℕ × (Bor ℕ × Unit {0})) Ordering} {f : F}
    (places : List ℕ) → ((lt : ℕ → ℕ → Bool) → IsStrictWeakOrder lt → ComparesAs g lt f → IsSortedBy lt places)
    → ((a : Bor ℕ × (Bor ℕ × Unit {0})) (r : Ordering) (f' : F) → Called g f a r f'
    → (r ≡ slice_cmp nat_cmp (sort_key rows a.0.now) (sort_key rows a.1.0.now)) × (f' ≡ f)) → AreSorted rows places
sorted_by_keys rows {g = g} {f = f} places up h =
    sorted_letters rows places
    (up (comes_before rows) (ranks_by nat_list_cmp_total (sort_key rows))
    (always_returns_same g (λ a r. is_lt r ≡ comes_before rows a.0.now a.1.0.now) f
    (λ a r f' k. (ap is_lt (h a r f' k).0, (h a r f' k).1))))

-- each place is among the places that were listed, in whatever order
pub all_places : (rows : List OptionRow) (listed places : List ℕ) → length listed ≡ length rows
    → ((k : ℕ) → k < length rows → slice_index listed k ≡ k) → IsPermutation listed places → AreAllPlaces rows places
all_places rows listed places same each moved = λ place within.
    contained places place (Contains-permutation listed places place moved
    (place, omega arith, get_or_default listed place place 0 (omega arith) ∙ each place within))
  where
    contained : (xs : List ℕ) (x : ℕ) → Contains xs x → list_any (nat_eq x) xs ≡ true
    contained xs x h = list_any_at (nat_eq x) xs h.0 x h.1 ((Decides-eqb x _).1 (sym h.2))

-- the point between the lesser second bytes and the others
pub starts_at : (rows : List OptionRow) (places : List ℕ) (letter start : ℕ) → start ≤ length places
    → IsPartitionPoint (λ place. ltb (letter_at rows place) letter ≡ true) (λ place. ltb (letter_at rows place) letter ≡ false)
    places start → IsStart rows places letter start
starts_at rows places letter start within parted = record {
  within = within;
  before = λ k h. is_below _ _ (parted.0 k 0 (omega arith) h);
  after = λ k from h. is_above _ _ (parted.1 k 0 from h);
}
  where
    is_below : (a b : ℕ) → ltb a b ≡ true → a < b
    is_below a b h = grind (arith, nat_tests)

    is_above : (a b : ℕ) → ltb a b ≡ false → b ≤ a
    is_above a b h = grind (arith, nat_tests)

-- one start more
pub more_starts : (rows : List OptionRow) (places starts : List ℕ) (letter start : ℕ) → letter < 257
    → (length starts ≡ 257) × ((k : ℕ) → k < letter → IsStart rows places k (slice_index starts k))
    → IsStart rows places letter start → (length (slice_set starts letter start) ≡ 257)
    × ((k : ℕ) → k < letter + 1 → IsStart rows places k (slice_index (slice_set starts letter start) k))
more_starts rows places starts letter start within (len, before) here =
    (length-set starts letter start ∙ len, λ k below. by_place k below (ltb k letter) refl)
  where
    by_place : (k : ℕ) → k < letter + 1 → (t : Bool) → ltb k letter ≡ t
        → IsStart rows places k (slice_index (slice_set starts letter start) k)
    by_place k below true is =
        let lower : k < letter = grind (arith, nat_tests) in
        subst (λ n. IsStart rows places k n) (sym (get_or-set_other starts letter k start 0 (omega arith))) (before k lower)
    by_place k below false is =
        let same : k ≡ letter = grind (arith, nat_tests) in
        subst (λ n. IsStart rows places k n) (sym (get_or-set_at starts letter k start 0 same (omega arith)))
        (subst (λ n. IsStart rows places n start) (sym same) here)

part_at : (xs : List ℕ) (s e k : ℕ) → s ≤ k → k < e → slice_index (take (e - s) (drop s xs)) (k - s) ≡ slice_index xs k
part_at xs s e k from below = grind (arith, common_steps)

-- the places from one start to the next are those of that second byte
pub span_covers : (rows : List OptionRow) (places starts : List ℕ) (letter : ℕ) → letter < 256 → IsIndexed rows places starts
    → IsSpan rows letter (take (slice_index starts (letter + 1) - slice_index starts letter) (drop (slice_index starts letter) places))
span_covers rows places starts letter byte indexed = λ place within same.
    let h = Contains-from_any {eq = nat_eq} (λ x y e. (Decides-eqb x y).0 e) place places (indexed.all place within) in
    let read : slice_index places h.0 ≡ place = get_or_default places h.0 0 place h.1 ∙ h.2 in
    let lower = indexed.spans letter (omega arith) in
    let upper = indexed.spans (letter + 1) (omega arith) in
    let from : slice_index starts letter ≤ h.0 =
    not_above h.0 (slice_index starts letter) (λ less. omega (arith, lower.before h.0 less, ap (letter_at rows) read ∙ same)) in
    let below : h.0 < slice_index starts (letter + 1) =
    not_from h.0 (slice_index starts (letter + 1))
    (λ after. omega (arith, upper.after h.0 after h.1, ap (letter_at rows) read ∙ same)) in
    in_part places place (slice_index starts letter) (slice_index starts (letter + 1)) h.0 from below h.1 read
  where
    not_from : (a b : ℕ) → (b ≤ a → ⊥) → a < b
    not_from a b h = by_test (ltb a b) refl
      where
        by_test : (t : Bool) → ltb a b ≡ t → a < b
        by_test true is = grind (arith, nat_tests)
        by_test false is = absurd (h (grind (arith, nat_tests)))

    in_part : (xs : List ℕ) (x s e k : ℕ) → s ≤ k → k < e → k < length xs → slice_index xs k ≡ x
        → list_any (nat_eq x) (take (e - s) (drop s xs)) ≡ true
    in_part xs x s e k from below within is =
        let part = take (e - s) (drop s xs) in
        let inside : k - s < length part = grind (arith, common_steps) in
        let reads : slice_index part (k - s) ≡ slice_index xs k = part_at xs s e k from below in
        list_any_at (nat_eq x) part (k - s) 0 inside ((Decides-eqb x _).1 (sym (reads ∙ is)))
