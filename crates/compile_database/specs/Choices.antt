-- Which entries of a compile database are taken.
use Rattle.std.specs.Prelude.{◌≡◌, ℕ, ◌+◌, List, [], ◌∷◌, take, drop, Bool, true, false, not, bytes_eq, if◌then◌else◌, Option, Some, None}
use Rattle.std.specs.List.{slice_get}
use Rattle.serde_json.specs.Data.{Data}
use Rattle.compile_database.specs.Entries.{folder_of}

-- the places of the values that pass a test, if the first value has this place
abbrev pub places_from : ℕ → (Data → Bool) → List Data → List ℕ
places_from at passes [] = []
places_from at passes (d ∷ ds) = if passes d then at ∷ places_from (at + 1) passes ds else places_from (at + 1) passes ds

-- the places of the values that pass a test, from 0
abbrev pub places : (Data → Bool) → List Data → List ℕ
places passes ds = places_from 0 passes ds

-- the least of these places
abbrev pub IsFirst : (Data → Bool) → List Data → ℕ → Type 0
IsFirst passes ds at = slice_get (places passes ds) 0 ≡ Some at

-- no value passes the test
abbrev pub NoneIs : (Data → Bool) → List Data → Type 0
NoneIs passes ds = places passes ds ≡ []

-- ---- folders

abbrev pub is_folder : List ℕ → Option (List ℕ) → Bool
is_folder folder (Some other) = bytes_eq other folder
is_folder folder None = false

-- an entry of this folder
abbrev pub is_in : List ℕ → Data → Bool
is_in folder entry = is_folder folder (folder_of entry)

abbrev pub is_out : List ℕ → Data → Bool
is_out folder entry = not (is_in folder entry)

abbrev pub is_none : Option (List ℕ) → Bool
is_none (Some folder) = false
is_none None = true

-- an entry without a folder
abbrev pub is_placeless : Data → Bool
is_placeless entry = is_none (folder_of entry)

-- ---- the selection

-- the folder whose entries are taken, if one is named; how many of these are passed over first; and how many are taken at most, if
-- that is said
pub record Choice : Type 0 where
  pub folder : Option (List ℕ)
  pub from : ℕ
  pub count : Option ℕ

-- the folder that is named, or else that of the first entry
abbrev pub chosen_folder : Option (List ℕ) → List Data → Option (List ℕ)
chosen_folder (Some folder) entries = Some folder
chosen_folder None [] = None
chosen_folder None (d ∷ ds) = folder_of d

abbrev pub at_most : Option ℕ → List ℕ → List ℕ
at_most (Some count) places = take count places
at_most None places = places

-- the places of the entries that are taken, if this is their folder
abbrev pub taken : Choice → List ℕ → List Data → List ℕ
taken choice folder entries = at_most choice.count (drop choice.from (places (is_in folder) entries))
