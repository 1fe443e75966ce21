-- A search in the span of the word's second byte finds the row that fits.
use Rattle.std.proofs.Common.{◌≡◌, ℕ, ◌<◌, ◌≤◌, Bool, true, false, ◌&&◌, ◌||◌, not, leb, ltb, nat_eq, List, [], ◌++◌, length, slice_index}
use Rattle.std.proofs.Common.{Option, Some, None, IsNone, IfSome, sym, ◌∙◌, ap, subst, inl, inr, arith}
use Rattle.std.specs.List.{list_all}
use Rattle.std.proofs.lemmas.Bool.{false≢true, and_parts, and_from}
use Rattle.std.proofs.lemmas.Bool.Decides.{Decides-eqb, nat_tests}
use Rattle.std.proofs.lemmas.Grind.{common_steps}
use Rattle.std.proofs.lemmas.List.{get_or_default}
use Rattle.std.proofs.lemmas.List.Elements.{All-get_or, All-from_get_or}
use Rattle.std.proofs.lemmas.List.Sums.{list_all-from_AllPass, AllPass-from_list_all}
use Rattle.std.proofs.lemmas.Map.Views.{Contains-from_any}
use Rattle.option_table.specs.declared.row.Form.TheVariants as form
use Rattle.option_table.specs.declared.row.Effect.TheVariants as effect
use Rattle.option_table.specs.declared.row.OptionRow.{OptionRow}
use Rattle.option_table.specs.Rows.{row, row_at, fits_equal, fits_begin, fits_longest, fits_not, place_of, is_long, is_table}
use Rattle.option_table.specs.Spans.{letter_at, IsSpan}
use Rattle.option_table.specs.Searches.{equal_at, begin_at, length_at, IsLongestIn}
use Rattle.option_table.proofs.Positions.{fails_by}
use Rattle.option_table.proofs.Distinct.{equal_spelt, begin_spelt, place_found, none_found, none_fit, equal_fits, longest_fits, fits_either}

abbrev nowhere : OptionRow
nowhere = row [] form.None effect.Keep

-- each spelling of a table has two bytes or more
pub long_at : (rows : List OptionRow) (at : ℕ) → is_table rows ≡ true → at < length rows → 2 ≤ length (row_at rows at).spelling
long_at rows at table within =
    is_le _ (All-get_or (λ r. is_long r ≡ true) rows at nowhere within (AllPass-from_list_all _ rows (and_parts _ _ table).1))
  where
    is_le : (n : ℕ) → leb 2 n ≡ true → 2 ≤ n
    is_le n h = grind (arith, nat_tests)

-- the second byte of a beginning of two bytes or more
second_of : (front rest : List ℕ) → 2 ≤ length front → slice_index (front ++ rest) 1 ≡ slice_index front 1
second_of front rest long = grind (arith, common_steps)

equal_letter : (rows : List OptionRow) (word : List ℕ) (at : ℕ) → fits_equal word (row_at rows at) ≡ true
    → letter_at rows at ≡ slice_index word 1
equal_letter rows word at h = ap (λ w. slice_index w 1) (equal_spelt word (row_at rows at) h)

begin_letter : (rows : List OptionRow) (word : List ℕ) (at : ℕ) → 2 ≤ length (row_at rows at).spelling
    → fits_begin word (row_at rows at) ≡ true → letter_at rows at ≡ slice_index word 1
begin_letter rows word at long h =
    sym (ap (λ w. slice_index w 1) (begin_spelt word (row_at rows at) h) ∙ second_of (row_at rows at).spelling _ long)

-- where a place stands in its span
in_span : (rows : List OptionRow) (letter : ℕ) (places : List ℕ) (at : ℕ) → IsSpan rows letter places → at < length rows
    → letter_at rows at ≡ letter → (k : ℕ) × (k < length places) × (slice_index places k ≡ at)
in_span rows letter places at span within same =
    let h = Contains-from_any {eq = nat_eq} (λ x y e. (Decides-eqb x y).0 e) at places (span at within same) in
    (h.0, h.1, get_or_default places h.0 0 at h.1 ∙ h.2)

there : (rows : List OptionRow) (at : ℕ) (test : Bool) → at < length rows → test ≡ true → (ltb at (length rows) && test) ≡ true
there rows at test within h = grind (arith, nat_tests)

parts_of : (rows : List OptionRow) (at : ℕ) (test : Bool) → (ltb at (length rows) && test) ≡ true → (at < length rows) × (test ≡ true)
parts_of rows at test h = (below _ _ (and_parts _ _ h).0, (and_parts _ _ h).1)
  where
    below : (a b : ℕ) → ltb a b ≡ true → a < b
    below a b h = grind (arith, nat_tests)

-- a place whose row the word equals is the one that fits
pub found_equal : (rows : List OptionRow) (word : List ℕ) (at : ℕ) → is_table rows ≡ true → equal_at rows word at ≡ true
    → (Some at ≡ place_of rows word) × (at < length rows)
found_equal rows word at table h =
    let parts = parts_of rows at (fits_equal word (row_at rows at)) h in
    (sym (place_found rows word at (and_parts _ _ table).0 (equal_fits rows word at parts.0 parts.1)), parts.0)

-- where no place of the span has a row that the word equals, no row equals it
pub none_equal : (rows : List OptionRow) (word places : List ℕ) → IsSpan rows (slice_index word 1) places
    → ((k : ℕ) → k < length places → equal_at rows word (slice_index places k) ≡ false) → (at : ℕ) → at < length rows
    → fits_equal word (row_at rows at) ≡ false
none_equal rows word places span none at within =
    fails_by _ (λ h.
    let k = in_span rows (slice_index word 1) places at span within (equal_letter rows word at h) in
    false≢true (sym (none k.0 k.1) ∙ ap (equal_at rows word) k.2 ∙ there rows at _ within h))

-- where no place of the span has a row that the word begins with, it begins with none
none_begun : (rows : List OptionRow) (word places : List ℕ) → is_table rows ≡ true → IsSpan rows (slice_index word 1) places
    → IsLongestIn rows word places (length places) None → (at : ℕ) → at < length rows → fits_begin word (row_at rows at) ≡ false
none_begun rows word places table span none at within =
    fails_by _ (λ h.
    let k = in_span rows (slice_index word 1) places at span within (begin_letter rows word at (long_at rows at table within) h) in
    false≢true (sym (none k.0 k.1) ∙ ap (begin_at rows word) k.2 ∙ there rows at _ within h))

-- no row that the word begins with is longer than the longest of the span
begun_shorter : (rows : List OptionRow) (word places : List ℕ) (best : ℕ) → is_table rows ≡ true
    → IsSpan rows (slice_index word 1) places → IsLongestIn rows word places (length places) (Some best) → (at : ℕ)
    → at < length rows → fits_begin word (row_at rows at) ≡ true → length_at rows at ≤ length_at rows best
begun_shorter rows word places best table span longest at within h =
    let k = in_span rows (slice_index word 1) places at span within (begin_letter rows word at (long_at rows at table within) h) in
    subst (λ n. length_at rows n ≤ length_at rows best) k.2
    (longest.1 k.0 k.1 (ap (begin_at rows word) k.2 ∙ there rows at _ within h))

is_longest : (rows : List OptionRow) (word : List ℕ) (best : ℕ) → fits_begin word (row_at rows best) ≡ true
    → ((at : ℕ) → at < length rows → fits_begin word (row_at rows at) ≡ true → length_at rows at ≤ length_at rows best)
    → fits_longest rows word (row_at rows best) ≡ true
is_longest rows word best begins shorter =
    and_from _ _ begins
    (list_all-from_AllPass _ rows
    (All-from_get_or (λ other. (not (fits_begin word other) || leb (length other.spelling) (length_at rows best)) ≡ true) rows
    nowhere (λ k within. not_or (fits_begin word (row_at rows k)) (length_at rows k) (length_at rows best) (shorter k within))))
  where
    not_or : (a : Bool) (x y : ℕ) → (a ≡ true → x ≤ y) → (not a || leb x y) ≡ true
    not_or a x y h = grind (arith, nat_tests)

-- what a search for the longest row of the span finds, where no row equals the word
pub found_longest : (rows : List OptionRow) (word places : List ℕ) (best : Option ℕ) → is_table rows ≡ true
    → IsSpan rows (slice_index word 1) places → ((at : ℕ) → at < length rows → fits_equal word (row_at rows at) ≡ false)
    → IsLongestIn rows word places (length places) best → (best ≡ place_of rows word) × IfSome best (λ at. at < length rows)
    × (IsNone best → list_all (fits_not word) rows ≡ true)
found_longest rows word places (Some best) table span none longest =
    let parts = parts_of rows best (fits_begin word (row_at rows best)) longest.0 in (
      sym (place_found rows word best (and_parts _ _ table).0
          (longest_fits rows word best parts.0 none
          (is_longest rows word best parts.1 (begun_shorter rows word places best table span longest)))),
      parts.0,
      λ e. absurd (false≢true (sym e)),
    )
found_longest rows word places None table span none longest =
    let begun = none_begun rows word places table span longest in (
      sym (none_found rows word
          (λ at fits. elim (fits_either rows word at fits) [
            | inl x ↦ false≢true (sym (none at fits.within) ∙ x)
            | inr x ↦
                false≢true (sym (begun at fits.within) ∙ x)
          ])),
      tt,
      λ _. none_fit rows word (λ k within. (none k within, begun k within)),
    )
