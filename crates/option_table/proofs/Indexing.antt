-- An index of rows, tested by computation.
use Rattle.std.proofs.Common.{◌≡◌, ℕ, zero, suc, ◌<◌, ◌≤◌, Bool, true, false, ◌&&◌, ltb, leb, nat_eq, List, [], ◌∷◌, length, map, get_or}
use Rattle.std.proofs.Common.{slice_index, refl, subst, ap, arith}
use Rattle.std.specs.Prelude.{◌^◌}
use Rattle.std.specs.List.{list_any}
use Rattle.std.proofs.lemmas.Bool.{false≢true, and_parts, agree_below, agree_below_at}
use Rattle.std.proofs.lemmas.Bool.Decides.{nat_tests}
use Rattle.option_table.specs.declared.row.OptionRow.{OptionRow}
use Rattle.option_table.specs.Rows.{is_table}
use Rattle.option_table.specs.Spans.{letter_at, IsStart, IsIndexed}

-- the letters are less up to this one, and from there on they aren't
abbrev splits : ℕ → List ℕ → ℕ → Bool
splits zero [] letter = true
splits zero (l ∷ ls) letter = leb letter l && splits zero ls letter
splits (suc start) [] letter = false
splits (suc start) (l ∷ ls) letter = ltb l letter && splits start ls letter

abbrev are_starts : List ℕ → List ℕ → Bool
are_starts letters starts = agree_below (λ letter. splits (slice_index starts letter) letters letter) (λ letter. true) 257

abbrev are_all : List ℕ → ℕ → Bool
are_all places count = agree_below (λ place. list_any (nat_eq place) places) (λ place. true) count

abbrev pub is_index : List OptionRow → List ℕ → List ℕ → Bool
is_index rows places starts =
    is_table rows && (are_all places (length rows) && are_starts (map (letter_at rows) places) starts)

start_within : (start : ℕ) (letters : List ℕ) (letter : ℕ) → splits start letters letter ≡ true → start ≤ length letters
start_within zero letters letter h = omega arith
start_within (suc start) [] letter h = absurd (false≢true h)
start_within (suc start) (l ∷ ls) letter h = omega (arith, start_within start ls letter (and_parts _ _ h).1)

before : (start : ℕ) (letters : List ℕ) (letter k : ℕ) → splits start letters letter ≡ true → k < start → get_or letters k 0 < letter
before zero letters letter k h below = absurd (omega arith)
before (suc start) [] letter k h below = absurd (false≢true h)
before (suc start) (l ∷ ls) letter zero h below = less (and_parts _ _ h).0
  where
    less : ltb l letter ≡ true → l < letter
    less h = grind (arith, nat_tests)
before (suc start) (l ∷ ls) letter (suc k) h below = before start ls letter k (and_parts _ _ h).1 (omega arith)

after : (start : ℕ) (letters : List ℕ) (letter k : ℕ) → splits start letters letter ≡ true → start ≤ k → k < length letters
    → letter ≤ get_or letters k 0
after start [] letter k h from within = absurd (omega arith)
after zero (l ∷ ls) letter zero h from within = least (and_parts _ _ h).0
  where
    least : leb letter l ≡ true → letter ≤ l
    least h = grind (arith, nat_tests)
after zero (l ∷ ls) letter (suc k) h from within = after zero ls letter k (and_parts _ _ h).1 (omega arith) (omega arith)
after (suc start) (l ∷ ls) letter zero h from within = absurd (omega arith)
after (suc start) (l ∷ ls) letter (suc k) h from within =
    after start ls letter k (and_parts _ _ h).1 (omega arith) (omega arith)

mapped : (f : ℕ → ℕ) (xs : List ℕ) (k : ℕ) → k < length xs → get_or (map f xs) k 0 ≡ f (get_or xs k 0)
mapped f [] k h = absurd (omega arith)
mapped f (x ∷ xs) zero h = refl
mapped f (x ∷ xs) (suc k) h = mapped f xs k (omega arith)

same_length : (f : ℕ → ℕ) (xs : List ℕ) → length (map f xs) ≡ length xs
same_length f [] = refl
same_length f (x ∷ xs) = ap suc (same_length f xs)

start_from : (rows : List OptionRow) (places : List ℕ) (letter start : ℕ)
    → splits start (map (letter_at rows) places) letter ≡ true → IsStart rows places letter start
start_from rows places letter start h =
    let same = same_length (letter_at rows) places in
    let within = start_within start (map (letter_at rows) places) letter h in
    record {
      within = subst (λ n. start ≤ n) same within;
      before = λ k below.
          subst (λ n. n < letter) (mapped (letter_at rows) places k (omega arith))
          (before start (map (letter_at rows) places) letter k h below);
      after = λ k from below.
          subst (λ n. letter ≤ n) (mapped (letter_at rows) places k below)
          (after start (map (letter_at rows) places) letter k h from (omega arith));
    }

-- rows with an index that passes the test are indexed
pub indexed_by_test : (rows : List OptionRow) (places starts : List ℕ) → length rows < 2 ^ 32 → is_index rows places starts ≡ true
    → IsIndexed rows places starts
indexed_by_test rows places starts few h =
    let parts = and_parts _ _ h in
    let rest = and_parts _ _ parts.1 in
    record {
      few = few;
      table = parts.0;
      all = λ place within. agree_below_at (λ place. list_any (nat_eq place) places) (λ place. true) (length rows) place rest.0 within;
      spans = λ letter within.
          start_from rows places letter (slice_index starts letter)
          (agree_below_at (λ letter. splits (slice_index starts letter) (map (letter_at rows) places) letter) (λ letter. true) 257
          letter rest.1 within);
    }
