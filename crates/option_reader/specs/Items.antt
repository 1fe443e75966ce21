-- Options, and the words that they are.
use Rattle.std.specs.Prelude.{ℕ, Bool, true, false, List, [], ◌∷◌, Option, Some, None, bytes_eq, if◌then◌else◌}

-- an option: its name, and the word after it if that is its value
pub record Item : Type 0 where
  pub name : List ℕ
  pub value : Option (List ℕ)

-- a value, if there is one, and these words
abbrev pub value_words : Option (List ℕ) → List (List ℕ) → List (List ℕ)
value_words None words = words
value_words (Some value) words = value ∷ words

-- the words that options are
abbrev pub items_words : List Item → List (List ℕ)
items_words [] = []
items_words (item ∷ items) = item.name ∷ value_words item.value (items_words items)

-- these options from the first of this name on
abbrev pub from_name : List ℕ → List Item → List Item
from_name name [] = []
from_name name (item ∷ items) = if bytes_eq item.name name then item ∷ items else from_name name items

abbrev pub is_one : List Item → Bool
is_one [] = false
is_one (item ∷ items) = true

abbrev pub first_value : List Item → Option (List ℕ)
first_value [] = None
first_value (item ∷ items) = item.value

-- an option of this name is among these
abbrev pub stands_in : List ℕ → List Item → Bool
stands_in name items = is_one (from_name name items)

-- the value of the first option of this name, if it has one
abbrev pub value_in : List ℕ → List Item → Option (List ℕ)
value_in name items = first_value (from_name name items)
