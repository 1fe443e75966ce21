-- What a search among some places finds.
use Rattle.std.specs.Prelude.{◌≡◌, ℕ, ◌<◌, ◌≤◌, Bool, true, false, ◌&&◌, nat_lt, List, length, Option, Some, None}
use Rattle.std.specs.List.{slice_index}
use Rattle.option_table.specs.declared.row.OptionRow.{OptionRow}
use Rattle.option_table.specs.Rows.{row_at, fits_equal, fits_begin}

abbrev pub length_at : List OptionRow → ℕ → ℕ
length_at rows place = length (row_at rows place).spelling

-- there is a row at this place, and the word equals it
abbrev pub equal_at : List OptionRow → List ℕ → ℕ → Bool
equal_at rows word place = nat_lt place (length rows) && fits_equal word (row_at rows place)

-- there is a row at this place, and the word begins with it
abbrev pub begin_at : List OptionRow → List ℕ → ℕ → Bool
begin_at rows word place = nat_lt place (length rows) && fits_begin word (row_at rows place)

abbrev pub is_longer : List OptionRow → ℕ → Option ℕ → Bool
is_longer rows place None = true
is_longer rows place (Some best) = nat_lt (length_at rows best) (length_at rows place)

-- the word begins with the row at the best place, and with no longer one among the first `count` places. If there is no best
-- place, the word begins with none of them
abbrev pub IsLongestIn : List OptionRow → List ℕ → List ℕ → ℕ → Option ℕ → Type 0
IsLongestIn rows word places count None = (k : ℕ) → k < count → begin_at rows word (slice_index places k) ≡ false
IsLongestIn rows word places count (Some best) =
    (begin_at rows word best ≡ true)
    × ((k : ℕ) → k < count → begin_at rows word (slice_index places k) ≡ true → length_at rows (slice_index places k) ≤ length_at rows best)
