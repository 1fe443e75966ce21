-- Rows with one spelling are one row, so that at most one row fits a word.
use Rattle.std.proofs.Common.{◌≡◌, ℕ, zero, suc, ◌<◌, ◌≤◌, Bool, true, false, ◌&&◌, ◌||◌, not, leb, List, [], ◌∷◌, ◌++◌, length, take}
use Rattle.std.proofs.Common.{drop, get_or, Option, Some, None, refl, sym, ◌∙◌, ap, ◌⊎◌, inl, inr, arith}
use Rattle.std.specs.Option.{option_or}
use Rattle.std.proofs.lemmas.Grind.{common_steps}
use Rattle.std.specs.Prelude.{bytes_eq, IsNone}
use Rattle.std.specs.List.{list_all, list_any, position}
use Rattle.std.proofs.lemmas.Bool.{false≢true, and_parts, and_from}
use Rattle.std.proofs.lemmas.Bool.Decides.{Decides-eqb, leb_tells}
use Rattle.std.proofs.lemmas.List.Folds.{list_any_at, list_any_none, list_all_at}
use Rattle.std.proofs.lemmas.List.Elements.{All-from_get_or}
use Rattle.std.proofs.lemmas.List.Sums.{list_all-from_AllPass}
use Rattle.std.proofs.lemmas.Slice.Eq.{bytes_eq-Decides, starts_is}
use Rattle.option_table.specs.declared.row.Form.TheVariants as form
use Rattle.option_table.specs.declared.row.Effect.TheVariants as effect
use Rattle.option_table.specs.declared.row.OptionRow.{OptionRow}
use Rattle.option_table.specs.Rows.{row, row_at, fits_equal, fits_begin, fits_longest, fits_not, place_of, are_distinct, FitsAt}
use Rattle.option_table.specs.Faults.{AreApart}
use Rattle.option_table.proofs.Positions.{fails_by, position_passes, position_fails}

abbrev nowhere : OptionRow
nowhere = row [] form.None effect.Keep

later_differs : (r : OptionRow) (rows : List OptionRow) (j : ℕ) → not (list_any (λ other. bytes_eq r.spelling other.spelling) rows)
    ≡ true → j < length rows → bytes_eq r.spelling (get_or rows j nowhere).spelling ≡ true → ⊥
later_differs r rows j apart within same =
    false≢true (sym (ap not (list_any_at (λ other. bytes_eq r.spelling other.spelling) rows j nowhere within same)) ∙ apart)

-- two places whose rows have one spelling are one place
pub same_place : (rows : List OptionRow) (i j : ℕ) → are_distinct rows ≡ true → i < length rows → j < length rows
    → (row_at rows i).spelling ≡ (row_at rows j).spelling → i ≡ j
same_place [] i j distinct a b same = absurd (omega arith)
same_place (r ∷ rows) zero zero distinct a b same = refl
same_place (r ∷ rows) zero (suc j) distinct a b same =
    absurd (later_differs r rows j (and_parts _ _ distinct).0 (omega arith) ((bytes_eq-Decides _ _).1 same))
same_place (r ∷ rows) (suc i) zero distinct a b same =
    absurd (later_differs r rows i (and_parts _ _ distinct).0 (omega arith) ((bytes_eq-Decides _ _).1 (sym same)))
same_place (r ∷ rows) (suc i) (suc j) distinct a b same =
    ap suc (same_place rows i j (and_parts _ _ distinct).1 (omega arith) (omega arith) same)

-- rows of which no two have one spelling are distinct
pub distinct_from : (rows : List OptionRow) → AreApart rows → are_distinct rows ≡ true
distinct_from [] apart = refl
distinct_from (r ∷ rows) apart =
    and_from _ _
    (ap not (list_any_none _ rows
    (All-from_get_or (λ other. bytes_eq r.spelling other.spelling ≡ false) rows nowhere
    (λ k within. fails_by _ (λ same. apart zero (suc k) record {
      before = omega arith;
      within = omega arith;
      alike = (bytes_eq-Decides _ _).0 same;
    })))))
    (distinct_from rows (λ i j alike. apart (suc i) (suc j) record {
      before = omega (arith, alike.before);
      within = omega (arith, alike.within);
      alike = alike.alike;
    }))

-- the spelling of a row that equals the word
pub equal_spelt : (word : List ℕ) (r : OptionRow) → fits_equal word r ≡ true → r.spelling ≡ word
equal_spelt word r h = (bytes_eq-Decides _ _).0 (and_parts _ _ h).1

-- the spelling of a row that the word begins with
pub begin_spelt : (word : List ℕ) (r : OptionRow) → fits_begin word r ≡ true → word ≡ r.spelling ++ drop (length r.spelling) word
begin_spelt word r h = (starts_is Decides-eqb word r.spelling _ refl).0 (and_parts _ _ h).1

-- places of rows that equal the word
equals_once : (rows : List OptionRow) (word : List ℕ) (i j : ℕ) → are_distinct rows ≡ true → i < length rows → j < length rows
    → fits_equal word (row_at rows i) ≡ true → fits_equal word (row_at rows j) ≡ true → i ≡ j
equals_once rows word i j distinct a b at_i at_j =
    same_place rows i j distinct a b (equal_spelt word (row_at rows i) at_i ∙ sym (equal_spelt word (row_at rows j) at_j))

-- two beginnings of one length are one
same_begin : (word a b rest more : List ℕ) → word ≡ a ++ rest → word ≡ b ++ more → length a ≡ length b → a ≡ b
same_begin word a b rest more is also same =
    sym (take_front a rest) ∙ ap (take (length a)) (sym is ∙ also) ∙ ap (λ n. take n (b ++ more)) same ∙ take_front b more
  where
    take_front : (x y : List ℕ) → take (length x) (x ++ y) ≡ x
    take_front x y = grind (arith, common_steps)

longest_le : (rows : List OptionRow) (word : List ℕ) (i j : ℕ) → i < length rows → fits_begin word (row_at rows i) ≡ true
    → fits_longest rows word (row_at rows j) ≡ true → length (row_at rows i).spelling ≤ length (row_at rows j).spelling
longest_le rows word i j within begins longest =
    elim (leb_tells (length (row_at rows i).spelling) (length (row_at rows j).spelling)) [
      | inl h ↦ h.1
      | inr h ↦ absurd (false≢true
          (sym (list_all_at (λ other. not (fits_begin word other) || leb (length other.spelling) (length (row_at rows j).spelling))
          rows i nowhere within (neither _ _ begins h.0)) ∙ (and_parts _ _ longest).1))
    ]
  where
    neither : (a b : Bool) → a ≡ true → b ≡ false → (not a || b) ≡ false
    neither a b h k = cc

-- places of rows with the longest spelling that the word begins with
longest_once : (rows : List OptionRow) (word : List ℕ) (i j : ℕ) → are_distinct rows ≡ true → i < length rows → j < length rows
    → fits_longest rows word (row_at rows i) ≡ true → fits_longest rows word (row_at rows j) ≡ true → i ≡ j
longest_once rows word i j distinct a b at_i at_j =
    let begins_i = (and_parts _ _ at_i).0 in
    let begins_j = (and_parts _ _ at_j).0 in
    let x = begin_spelt word (row_at rows i) begins_i in
    let y = begin_spelt word (row_at rows j) begins_j in
    let up = longest_le rows word i j a begins_i at_j in
    let down = longest_le rows word j i b begins_j at_i in
    same_place rows i j distinct a b (same_begin word _ _ _ _ x y (omega arith))

either : (equal any longest : Bool) → (equal || (not any && longest)) ≡ true → (equal ≡ true) ⊎ ((any ≡ false) × (longest ≡ true))
either true any longest h = inl refl
either false true longest h = cc
either false false longest h = inr (refl, h)

either_at : (rows : List OptionRow) (word : List ℕ) (at : ℕ) → FitsAt rows word at → (fits_equal word (row_at rows at) ≡ true)
    ⊎ ((list_any (fits_equal word) rows ≡ false) × (fits_longest rows word (row_at rows at) ≡ true))
either_at rows word at h = either _ _ _ h.fits

first : (equal rest : Bool) → equal ≡ true → (equal || rest) ≡ true
first equal rest h = cc

second : (equal any longest : Bool) → any ≡ false → longest ≡ true → (equal || (not any && longest)) ≡ true
second true any longest a l = refl
second false any longest a l = cc

not_left : (a b : Bool) → a ≡ true → not (a || b) ≡ false
not_left a b h = cc

not_right : (a b : Bool) → b ≡ true → not (a || b) ≡ false
not_right true b h = refl
not_right false b h = cc

any_equals : (rows : List OptionRow) (word : List ℕ) (i : ℕ) → i < length rows → fits_equal word (row_at rows i) ≡ true
    → list_any (fits_equal word) rows ≡ false → ⊥
any_equals rows word i within equal none = false≢true (sym none ∙ list_any_at _ rows i nowhere within equal)

-- at most one row fits
pub fits_once : (rows : List OptionRow) (word : List ℕ) (i j : ℕ) → are_distinct rows ≡ true → FitsAt rows word i
    → FitsAt rows word j → i ≡ j
fits_once rows word i j distinct at_i at_j =
    elim (either_at rows word i at_i) [
      | inl x ↦ elim (either_at rows word j at_j) [
        | inl y ↦ equals_once rows word i j distinct at_i.within at_j.within x y
        | inr y ↦ absurd (any_equals rows word i at_i.within x y.0)
      ]
      | inr x ↦ elim (either_at rows word j at_j) [
        | inl y ↦ absurd (any_equals rows word j at_j.within y x.0)
        | inr y ↦ longest_once rows word i j distinct at_i.within at_j.within x.1 y.1
      ]
    ]

-- the place that `place_of` answers fits
pub place_fits : (rows : List OptionRow) (word : List ℕ) (at : ℕ) → place_of rows word ≡ Some at → FitsAt rows word at
place_fits rows word at h = by_equal (position (fits_equal word) rows) refl h
  where
    by_longest : position (fits_equal word) rows ≡ None → position (fits_longest rows word) rows ≡ Some at → FitsAt rows word at
    by_longest none some =
        let passes = position_passes (fits_longest rows word) rows at nowhere some in
        record {
          within = passes.0;
          fits = second _ _ _ (list_any_none _ rows
              (All-from_get_or (λ r. fits_equal word r ≡ false) rows nowhere
              (λ k within. position_fails _ rows k nowhere none within))) passes.1;
        }

    by_equal : (equal : Option ℕ) → position (fits_equal word) rows ≡ equal
        → option_or equal (position (fits_longest rows word) rows) ≡ Some at → FitsAt rows word at
    by_equal None is some = by_longest is some
    by_equal (Some k) is some =
        let passes = position_passes (fits_equal word) rows at nowhere (is ∙ some) in
        record { within = passes.0; fits = first _ _ passes.1 }

-- where no row fits, no place does
pub none_fits : (rows : List OptionRow) (word : List ℕ) (at : ℕ) → place_of rows word ≡ None → FitsAt rows word at → ⊥
none_fits rows word at h fits = by_equal (position (fits_equal word) rows) refl h
  where
    by_equal : (equal : Option ℕ) → position (fits_equal word) rows ≡ equal
        → option_or equal (position (fits_longest rows word) rows) ≡ None → ⊥
    by_equal (Some k) is none = cc
    by_equal None is none =
        elim (either_at rows word at fits) [
          | inl x ↦ false≢true (sym (position_fails _ rows at nowhere is fits.within) ∙ x)
          | inr x ↦ false≢true (sym (position_fails _ rows at nowhere none fits.within) ∙ x.1)
        ]

equal_is_in : (word : List ℕ) (r : OptionRow) → fits_equal word r ≡ true → fits_not word r ≡ false
equal_is_in word r h = not_left _ _ h

begin_is_in : (word : List ℕ) (r : OptionRow) → fits_begin word r ≡ true → fits_not word r ≡ false
begin_is_in word r h = not_right _ _ h

-- a row that fits the word is not among those that don't
pub fits_some : (rows : List OptionRow) (word : List ℕ) (at : ℕ) → FitsAt rows word at → list_all (fits_not word) rows ≡ false
fits_some rows word at fits =
    list_all_at (fits_not word) rows at nowhere fits.within
    (elim (either_at rows word at fits) [
      | inl x ↦ equal_is_in word (row_at rows at) x
      | inr x ↦
          begin_is_in word (row_at rows at) (and_parts _ _ x.1).0
    ])

-- the place that fits is the one that `place_of` answers
pub place_found : (rows : List OptionRow) (word : List ℕ) (at : ℕ) → are_distinct rows ≡ true → FitsAt rows word at
    → place_of rows word ≡ Some at
place_found rows word at distinct fits = by_place (place_of rows word) refl
  where
    by_place : (place : Option ℕ) → place_of rows word ≡ place → place ≡ Some at
    by_place None is = absurd (none_fits rows word at is fits)
    by_place (Some k) is = ap Some (fits_once rows word k at distinct (place_fits rows word k is) fits)

-- where no place fits, `place_of` answers none
pub none_found : (rows : List OptionRow) (word : List ℕ) → ((at : ℕ) → FitsAt rows word at → ⊥) → place_of rows word ≡ None
none_found rows word fails = by_place (place_of rows word) refl
  where
    by_place : (place : Option ℕ) → place_of rows word ≡ place → place ≡ None
    by_place None is = refl
    by_place (Some k) is = absurd (fails k (place_fits rows word k is))

-- a row that equals the word fits it
pub equal_fits : (rows : List OptionRow) (word : List ℕ) (at : ℕ) → at < length rows → fits_equal word (row_at rows at) ≡ true
    → FitsAt rows word at
equal_fits rows word at within equal = record { within = within; fits = first _ _ equal }

-- the longest row that the word begins with fits it, where none equals it
pub longest_fits : (rows : List OptionRow) (word : List ℕ) (at : ℕ) → at < length rows
    → ((k : ℕ) → k < length rows → fits_equal word (row_at rows k) ≡ false) → fits_longest rows word (row_at rows at) ≡ true
    → FitsAt rows word at
longest_fits rows word at within none longest = record {
  within = within;
  fits = second _ _ _ (list_any_none _ rows (All-from_get_or (λ r. fits_equal word r ≡ false) rows nowhere none)) longest;
}

-- a row that fits equals the word, or the word begins with it
pub fits_either : (rows : List OptionRow) (word : List ℕ) (at : ℕ) → FitsAt rows word at → (fits_equal word (row_at rows at) ≡ true)
    ⊎ (fits_begin word (row_at rows at) ≡ true)
fits_either rows word at fits =
    elim (either_at rows word at fits) [ inl x ↦ inl x | inr x ↦ inr (and_parts _ _ x.1).0 ]

-- rows that neither equal the word nor begin it don't fit it
pub none_fit : (rows : List OptionRow) (word : List ℕ)
    → ((k : ℕ) → k < length rows → (fits_equal word (row_at rows k) ≡ false) × (fits_begin word (row_at rows k) ≡ false))
    → list_all (fits_not word) rows ≡ true
none_fit rows word none =
    list_all-from_AllPass _ rows
    (All-from_get_or (λ r. fits_not word r ≡ true) rows nowhere (λ k within. neither _ _ (none k within).0 (none k within).1))
  where
    neither : (a b : Bool) → a ≡ false → b ≡ false → not (a || b) ≡ true
    neither a b h k = cc

-- whether a place was found tells whether a row fits
pub none_iff : (rows : List OptionRow) (word : List ℕ) (place : Option ℕ) → place ≡ place_of rows word
    → (IsNone place → list_all (fits_not word) rows ≡ true) → (IsNone place → list_all (fits_not word) rows ≡ true)
    × (list_all (fits_not word) rows ≡ true → IsNone place)
none_iff rows word (Some k) h none =
    (none, λ all. absurd (false≢true (sym (fits_some rows word k (place_fits rows word k (sym h))) ∙ all)))
none_iff rows word None h none = (none, λ _. refl)

-- the place that was found is the only one that fits
pub only_place : (rows : List OptionRow) (word : List ℕ) (at i : ℕ) → are_distinct rows ≡ true → Some at ≡ place_of rows word
    → FitsAt rows word i → at ≡ i
only_place rows word at i distinct h fits = fits_once rows word at i distinct (place_fits rows word at (sym h)) fits
