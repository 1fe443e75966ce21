-- The ways along the definitions that are left.
use Rattle.std.specs.Prelude.{ℕ, ◌≡◌, List, true, false, length, drop, get_or, ◌<◌, ◌≤◌}
use Rattle.std.specs.List.{Contains, IsDistinct, list_all, list_any}
use Rattle.std.specs.Str.{bytes_eq}
use Rattle.std.specs.Option.{is_some}
use Rattle.sample_lang.specs.declared.program.Part.TheVariants.{Name}
use Rattle.sample_lang.specs.declared.program.Item.{Item}
use Rattle.sample_lang.specs.Names.{is_named, name_of, code_of}
use Rattle.sample_linker.specs.declared.name_table.NameTable.{NameTable}
use Rattle.sample_linker.specs.declared.circle.Walk.{Walk}
use Rattle.sample_linker.specs.declared.faults.LinkFault.TheVariants.{BadObject, Doubled, Unresolved, Circular}
use Rattle.sample_linker.specs.declared.faults.LinkStop.{LinkStop}
use Rattle.sample_linker.specs.declared.faults.LinkStop.TheVariants.{Fault, Memory}
use Rattle.sample_linker.specs.Files.{is_known}
use Rattle.sample_linker.specs.Indexes.{names_of}
use Rattle.sample_linker.specs.Orders.{GoRound, IsCircle}
use Rattle.sample_linker.specs.Reads.{Lists}
use Rattle.sample_linker.specs.Runs.{number_in}
use Rattle.sample_linker.specs.Tables.{place_in}
use Rattle.sample_linker.specs.Waits.{At}

-- the table has a place for each name in a code
abbrev pub AllUsed : NameTable → List Item → Type 0
AllUsed table defined =
    (item : Item) (name : List ℕ) → Contains defined item → Contains (code_of item) (Name name) → is_some (place_in table name) ≡ true

-- no definition that is left has a code all of whose names are placed
abbrev pub AreStuck : List Item → List Item → Type 0
AreStuck placed defined =
    (at : ℕ) (item : Item) → At defined at item → is_named placed (name_of item) ≡ false → list_all (is_known placed) (code_of item) ≡ true
    → ⊥

-- no definition can be placed, and the name is that of one that is left
pub record IsLeft (table placed : NameTable) (defined : List Item) (name : List ℕ) : Type 0 where
  pub before : List Item
  pub lists : Lists placed before
  pub stuck : AreStuck before defined
  pub left : is_named before name ≡ false
  pub found : is_some (place_in table name) ≡ true

-- these names go round, and all of them are defined
pub record IsRound (defined : List Item) (names : List (List ℕ)) : Type 0 where
  pub round : GoRound defined names
  pub distinct : IsDistinct bytes_eq names
  pub among : (name : List ℕ) → list_any (bytes_eq name) names ≡ true → list_any (bytes_eq name) (names_of defined) ≡ true

-- the names on a way go round from this place on
abbrev pub EndsRound : List Item → Walk → Type 0
EndsRound defined walk = (walk.from ≤ length walk.path) × IsRound defined (drop walk.from walk.path)

-- no name has a lower number than the one at this place
abbrev pub IsLowest : NameTable → List (List ℕ) → ℕ → Type 0
IsLowest table names at = (at < length names)
    × ((k : ℕ) (d e : List ℕ) → k < length names → number_in table (get_or names at d) ≤ number_in table (get_or names k e))

-- the names are a circle, or memory ran out
abbrev pub IsCircularStop : List Item → LinkStop → Type 0
IsCircularStop defined (Fault (Circular names)) = IsCircle defined names
IsCircularStop defined (Fault (BadObject file line)) = ⊥
IsCircularStop defined (Fault (Doubled name)) = ⊥
IsCircularStop defined (Fault (Unresolved name)) = ⊥
IsCircularStop defined Memory = Unit {0}
