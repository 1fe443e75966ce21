-- The options that a command may have.
use Rattle.std.specs.Prelude.{◌≡◌, ℕ, Bool, true, false, not, ◌||◌, List, [], ◌∷◌, ◌++◌, length, Option, Some, None, is_some}
use Rattle.option_reader.specs.declared.table.Row.{Row}
use Rattle.option_reader.specs.Items.{Item, items_words, value_words, stands_in}

-- What is known of the option that a word names, if it names one; and whether a word may be the value of the option of this name,
-- after these words.
pub record Table : Type 1 where
  pub known : List ℕ → Option Row
  pub Fits : List (List ℕ) → List ℕ → List ℕ → Type 0

-- a word is the option's value
abbrev pub has_value : Option Row → Bool
has_value None = false
has_value (Some row) = row.takes_value

-- whether the option may come next, by whether one of its name is before it
abbrev pub may_stand : Option Row → Bool → Bool
may_stand None stood = false
may_stand (Some row) stood = row.repeats || not stood

-- a word names an option that may come after these
abbrev pub follows : Table → List Item → List ℕ → Bool
follows table before name = may_stand (table.known name) (stands_in name before)

-- an option has a value that fits, or needs none
abbrev pub HasValue : Table → List Item → List ℕ → Option (List ℕ) → Type 0
HasValue table before name None = has_value (table.known name) ≡ false
HasValue table before name (Some value) = (has_value (table.known name) ≡ true) × table.Fits (items_words before) name value

-- an option may come after these, and has a value that fits or needs none
pub record MayStand (table : Table) (before : List Item) (item : Item) : Type 0 where
  pub follows_on : follows table before item.name ≡ true
  pub value : HasValue table before item.name item.value

-- these may come after those, one after another
abbrev pub StandBehind : Table → List Item → List Item → Type 0
StandBehind table before [] = Unit {0}
StandBehind table before (item ∷ items) = MayStand table before item × StandBehind table (before ++ item ∷ []) items

-- options that the command may have, in any order, whose values fit
abbrev pub AreItems : Table → List Item → Type 0
AreItems table items = StandBehind table [] items

-- each has a value exactly if its name takes one
abbrev pub AreShaped : Table → List Item → Type 0
AreShaped table [] = Unit {0}
AreShaped table (item ∷ items) = (has_value (table.known item.name) ≡ is_some item.value) × AreShaped table items

-- after these options the words go on with one more, which is n words
pub record Goes (table : Table) (before : List Item) (words : List (List ℕ)) (n : ℕ) : Type 0 where
  pub item : Item
  pub more : List (List ℕ)
  pub stands : MayStand table before item
  pub are : words ≡ item.name ∷ value_words item.value more
  pub long : n ≡ length (items_words (item ∷ []))
