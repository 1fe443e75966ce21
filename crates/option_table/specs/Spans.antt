-- The places of a table's rows, sorted, and the span of each second byte.
use Rattle.std.specs.Prelude.{◌≡◌, ℕ, ◌+◌, ◌-◌, ◌<◌, ◌≤◌, ◌^◌, true, nat_eq, List, ◌∷◌, length, take, drop, IsTrue}
use Rattle.std.specs.List.{list_any, slice_index}
use Rattle.std.specs.List.Sorted.{IsNonDecreasingBy}
use Rattle.option_table.specs.declared.row.OptionRow.{OptionRow}
use Rattle.option_table.specs.Rows.{row_at, is_table}

abbrev pub spelling_at : List OptionRow → ℕ → List ℕ
spelling_at rows place = (row_at rows place).spelling

-- the second byte of the spelling at a place; 0 if there is none
abbrev pub letter_at : List OptionRow → ℕ → ℕ
letter_at rows place = slice_index (spelling_at rows place) 1

-- what the places are sorted by: the second byte, and then the spelling
abbrev pub sort_key : List OptionRow → ℕ → List ℕ
sort_key rows place = letter_at rows place ∷ spelling_at rows place

-- from here on the second byte is at least this one, and before it is less
pub record IsStart (rows : List OptionRow) (places : List ℕ) (letter start : ℕ) : Type 0 where
  pub within : start ≤ length places
  pub before : (k : ℕ) → k < start → letter_at rows (slice_index places k) < letter
  pub after : (k : ℕ) → start ≤ k → k < length places → letter ≤ letter_at rows (slice_index places k)

-- every place of the rows is among the places
abbrev pub AreAllPlaces : List OptionRow → List ℕ → Type 0
AreAllPlaces rows places = (place : ℕ) → place < length rows → list_any (nat_eq place) places ≡ true

-- the second bytes never fall
abbrev pub AreSorted : List OptionRow → List ℕ → Type 0
AreSorted rows places = IsNonDecreasingBy (letter_at rows) places

-- the places at which the spans of the second bytes start
abbrev pub AreStarts : List OptionRow → List ℕ → List ℕ → Type 0
AreStarts rows places starts = (letter : ℕ) → letter < 257 → IsStart rows places letter (slice_index starts letter)

-- the spans cover exactly their rows, and the rows make a table
pub record IsIndexed (rows : List OptionRow) (places starts : List ℕ) : Type 0 where
  pub few : length rows < 2 ^ 32
  pub table : IsTrue (is_table rows)
  pub all : AreAllPlaces rows places
  pub spans : AreStarts rows places starts

-- the places from the start of a letter to that of the next one
abbrev pub span_of : List ℕ → List ℕ → ℕ → List ℕ
span_of places starts letter =
    take (slice_index starts (letter + 1) - slice_index starts letter) (drop (slice_index starts letter) places)

-- every place of a row with this second byte is among the places
abbrev pub IsSpan : List OptionRow → ℕ → List ℕ → Type 0
IsSpan rows letter places = (place : ℕ) → place < length rows → letter_at rows place ≡ letter → list_any (nat_eq place) places ≡ true
