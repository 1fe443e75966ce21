-- Who waits for whom, while definitions are placed.
use Rattle.std.specs.Global.{Global}
use Rattle.std.specs.Prelude.{ℕ, ◌≡◌, ◌<◌, ◌⊎◌, List, [], ◌∷◌, ◌++◌, length, get_or, true, false, Some, Vec}
use Rattle.std.specs.List.{Contains}
use Rattle.sample_lang.specs.declared.program.Part.TheVariants.{Name}
use Rattle.sample_lang.specs.declared.program.Item.{Item}
use Rattle.sample_lang.specs.Names.{is_named, name_of, code_of}
use Rattle.sample_linker.specs.declared.name_table.NameTable.{NameTable}
use Rattle.sample_linker.specs.Tables.{place_in}
use Rattle.sample_linker.specs.Reads.{Lists}
use Rattle.sample_linker.specs.Orders.{IsImageOrder}
use Rattle.sample_linker.specs.Links.{image_of}

-- the number is in the list
abbrev pub Has : List ℕ → ℕ → Type 0
Has [] n = ⊥
Has (m ∷ ms) n = (m ≡ n) ⊎ Has ms n

-- the number is in the list at the place
abbrev pub Awaits : List (Vec ℕ Global) → ℕ → ℕ → Type 0
Awaits lists place n = (place < length lists) × ((other : Vec ℕ Global) → Has (get_or lists place other).items n)

-- what waited at the place is in the set
pub record Wakes (old new : List (Vec ℕ Global)) (seen more : List ℕ) (place : ℕ) : Type 0 where
  pub taken : (n : ℕ) → Awaits old place n → Has more n
  pub kept : (other n : ℕ) → Awaits old other n → Has more n ⊎ Awaits new other n
  pub seen_kept : (n : ℕ) → Has seen n → Has more n

-- the definition is at the place
abbrev pub At : List Item → ℕ → Item → Type 0
At defined place item = (place < length defined) × (get_or defined place item ≡ item)

-- the definition isn't ready: its code has a name that isn't placed, and it is in the list of that name's place
pub record Waits (table : NameTable) (lists : List (Vec ℕ Global)) (placed : List Item) (at : ℕ) (item : Item) : Type 0 where
  pub name : List ℕ
  pub place : ℕ
  pub part : Contains (code_of item) (Name name)
  pub left : is_named placed name ≡ false
  pub found : place_in table name ≡ Some place
  pub awaits : Awaits lists place at

-- each definition is placed, to be looked at, or waits
abbrev pub Settled : NameTable → List (Vec ℕ Global) → List ℕ → List Item → List Item → Type 0
Settled table lists seen placed defined =
    (at : ℕ) (item : Item) → At defined at item → (is_named placed (name_of item) ≡ true) ⊎ (Has seen at ⊎ Waits table lists placed at item)

-- these were placed so far, and this is their image
pub record PlacedSo (table : NameTable) (text : List ℕ) (placed defined : List Item) : Type 0 where
  pub lists : Lists table placed
  pub says : text ≡ image_of placed
  pub whole : (more : List Item) → IsImageOrder defined placed more → IsImageOrder defined [] (placed ++ more)
