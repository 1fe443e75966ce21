-- Which row of a table of options fits a word.
use Rattle.std.specs.Prelude.{ℕ, ◌<◌, Bool, true, false, ◌&&◌, ◌||◌, not, nat_le, nat_eq, List, [], ◌∷◌, length, Option, bytes_eq, IsTrue}
use Rattle.std.specs.List.{list_all, list_any, starts_with, position, slice_index_or}
use Rattle.std.specs.Option.{option_map, option_or}
use Rattle.option_table.specs.declared.row.Form.{Form}
use Rattle.option_table.specs.declared.row.Form.TheVariants as form
use Rattle.option_table.specs.declared.row.Effect.{Effect}
use Rattle.option_table.specs.declared.row.Effect.TheVariants as effect
use Rattle.option_table.specs.declared.row.OptionRow.{OptionRow}
use Rattle.option_table.specs.declared.table.Found.{Found}

abbrev pub row : List ℕ → Form → Effect → OptionRow
row spelling form effect = record { spelling = spelling; form = form; effect = effect }

-- the row at a place
abbrev pub row_at : List OptionRow → ℕ → OptionRow
row_at rows at = slice_index_or rows at (row [] form.None effect.Keep)

-- whether the form lets a word fit that equals the spelling
abbrev pub takes_equal : Form → Bool
takes_equal form.None = true
takes_equal form.Next = true
takes_equal form.Joined = false
takes_equal form.Either = true

-- whether the form lets a word fit that begins with the spelling
abbrev pub takes_rest : Form → Bool
takes_rest form.None = false
takes_rest form.Next = false
takes_rest form.Joined = true
takes_rest form.Either = true

-- the word is the row's spelling, of a form that lets such a word fit
abbrev pub fits_equal : List ℕ → OptionRow → Bool
fits_equal word row = takes_equal row.form && bytes_eq row.spelling word

-- the word begins with the row's spelling, of a form that lets such a word fit
abbrev pub fits_begin : List ℕ → OptionRow → Bool
fits_begin word row = takes_rest row.form && starts_with nat_eq word row.spelling

-- the word begins with the row's spelling, and with no longer one of such a form
abbrev pub fits_longest : List OptionRow → List ℕ → OptionRow → Bool
fits_longest rows word row =
    fits_begin word row
    && list_all (λ other. not (fits_begin word other) || nat_le (length other.spelling) (length row.spelling)) rows

-- the row doesn't fit the word
abbrev pub fits_not : List ℕ → OptionRow → Bool
fits_not word row = not (fits_equal word row || fits_begin word row)

-- the place of the row that fits the word: a row that the word equals; else the row of the longest spelling that the word
-- begins with; else none
abbrev pub place_of : List OptionRow → List ℕ → Option ℕ
place_of rows word = option_or (position (fits_equal word) rows) (position (fits_longest rows word) rows)

-- the row that fits the word, by its place, and the byte at which its attached operand begins
abbrev pub found : List OptionRow → List ℕ → Option Found
found rows word = option_map (λ at. record { row = at; joined = length (row_at rows at).spelling }) (place_of rows word)

-- the row at this place fits the word: it equals the word, or no row does and it is the longest that the word begins with
pub record FitsAt (rows : List OptionRow) (word : List ℕ) (at : ℕ) : Type 0 where
  pub within : at < length rows
  pub fits :
      IsTrue (fits_equal word (row_at rows at)
      || (not (list_any (fits_equal word) rows) && fits_longest rows word (row_at rows at)))

-- no two rows have one spelling
abbrev pub are_distinct : List OptionRow → Bool
are_distinct [] = true
are_distinct (row ∷ rows) = not (list_any (λ other. bytes_eq row.spelling other.spelling) rows) && are_distinct rows

-- the spelling has two bytes or more
abbrev pub is_long : OptionRow → Bool
is_long row = nat_le 2 (length row.spelling)

-- rows that make a table
abbrev pub is_table : List OptionRow → Bool
is_table rows = are_distinct rows && list_all is_long rows
