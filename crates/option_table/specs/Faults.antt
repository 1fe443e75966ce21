-- What makes rows unfit for a table, and at which place.
use Rattle.std.specs.Prelude.{◌≡◌, ℕ, ◌<◌, ◌≤◌, List, length}
use Rattle.option_table.specs.declared.row.OptionRow.{OptionRow}
use Rattle.option_table.specs.declared.fault.TableFault.{TableFault}
use Rattle.option_table.specs.declared.fault.TableFault.TheVariants.{Doubled, Short}
use Rattle.option_table.specs.Rows.{row_at}

-- the rows at these places have one spelling
pub record AreAlike (rows : List OptionRow) (first second : ℕ) : Type 0 where
  pub before : first < second
  pub within : second < length rows
  pub alike : (row_at rows first).spelling ≡ (row_at rows second).spelling

-- no two rows have one spelling
abbrev pub AreApart : List OptionRow → Type 0
AreApart rows = (first second : ℕ) → AreAlike rows first second → ⊥

-- the rows at these places have one spelling, and no second place is less
pub record AreFirstAlike (rows : List OptionRow) (first second : ℕ) : Type 0 where
  pub alike : AreAlike rows first second
  pub least : (i j : ℕ) → AreAlike rows i j → second ≤ j

-- the first spelling with fewer than two bytes is at this place, and no spelling is doubled
pub record IsFirstShort (rows : List OptionRow) (at : ℕ) : Type 0 where
  pub apart : AreApart rows
  pub within : at < length rows
  pub short : length (row_at rows at).spelling < 2
  pub least : (k : ℕ) → k < at → 2 ≤ length (row_at rows k).spelling

abbrev pub TableFaultStands : List OptionRow → TableFault → Type 0
TableFaultStands rows (Doubled first second) = AreFirstAlike rows first second
TableFaultStands rows (Short row) = IsFirstShort rows row
