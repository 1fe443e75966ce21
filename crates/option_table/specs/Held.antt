-- The rows and the index that a table has.
use Rattle.std.specs.Prelude.{◌≡◌, ℕ, ◌<◌, Bool, true, nat_le, List, length, map, IsTrue}
use Rattle.std.specs.List.{list_all}
use Rattle.option_table.specs.declared.row.ConstantRow.{ConstantRow}
use Rattle.option_table.specs.declared.row.OptionRow.{OptionRow}
use Rattle.option_table.specs.declared.held.Held.{Held}
use Rattle.option_table.specs.declared.held.Held.TheVariants.{Own, Constant}
use Rattle.option_table.specs.declared.held.Entry.{Entry}
use Rattle.option_table.specs.declared.spelling.TheConstants.{SPELLING_MAX}
use Rattle.option_table.specs.Rows.{row, row_at}
use Rattle.option_table.specs.Spans.{IsIndexed}

abbrev pub constant_row : ConstantRow → OptionRow
constant_row r = row r.spelling.now r.form r.effect

abbrev pub held_rows : {N : ℕ} → Held N → List OptionRow
held_rows (Own rows places starts) = rows
held_rows (Constant rows places starts) = map constant_row rows.now

abbrev pub held_places : {N : ℕ} → Held N → List ℕ
held_places (Own rows places starts) = places
held_places (Constant rows places starts) = places.now

abbrev pub held_starts : {N : ℕ} → Held N → List ℕ
held_starts (Own rows places starts) = starts
held_starts (Constant rows places starts) = starts.now

-- the spellings of constant rows are no longer than any spelling may be
abbrev pub constants_fit : {N : ℕ} → Held N → Bool
constants_fit (Own rows places starts) = true
constants_fit (Constant rows places starts) = list_all (λ r. nat_le (length r.spelling.now) SPELLING_MAX) rows.now

-- N rows, with their index
pub record IsHeld (N : ℕ) (held : Held N) : Type 0 where
  pub count : length (held_rows held) ≡ N
  pub indexed : IsIndexed (held_rows held) (held_places held) (held_starts held)
  pub letters : length (held_starts held) ≡ 257
  pub fit : IsTrue (constants_fit held)

-- the row of an entry
abbrev pub entry_row : Entry → OptionRow
entry_row entry = row entry.spelling.now entry.form entry.effect

-- the entry is that of the row at this place
pub record IsEntry (rows : List OptionRow) (place : ℕ) (entry : Entry) : Type 0 where
  pub within : place < length rows
  pub value : entry_row entry ≡ row_at rows place
