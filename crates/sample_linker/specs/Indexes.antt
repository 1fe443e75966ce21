-- The places of names in a table.
use Rattle.std.specs.Prelude.{ℕ, ◌≡◌, List, map}
use Rattle.std.specs.List.{position_from}
use Rattle.std.specs.Str.{bytes_eq}
use Rattle.sample_lang.specs.declared.program.Item.{Item}
use Rattle.sample_lang.specs.Names.{name_of}
use Rattle.sample_linker.specs.declared.name_table.NameTable.{NameTable}
use Rattle.sample_linker.specs.Tables.{place_in}

-- the table has the place of each of these names, its first, and no other name
abbrev pub Indexes : NameTable → List (List ℕ) → Type 0
Indexes table names = (name : List ℕ) → place_in table name ≡ position_from (bytes_eq name) 0 names

abbrev pub names_of : List Item → List (List ℕ)
names_of items = map name_of items
