-- Files that are fetched to be linked or run.
use Rattle.std.specs.Prelude.{ℕ, ◌≡◌, ◌⊎◌, ◌≤◌, ◌-◌, true, List, [], ◌∷◌, ◌++◌, length, nat_le, if◌then◌else◌, Option, None, Some, Result}
use Rattle.std.specs.Prelude.{Ok, Err, IsTrue}
use Rattle.std.specs.List.{flat_map}
use Rattle.std.specs.FinMap.{get}
use Rattle.farm_types.specs.Limits.{object_max}
use Rattle.edge_traits.specs.declared.entries.Fetch.{Fetch}
use Rattle.edge_traits.specs.Told.{Grew}
use Rattle.edge_traits.specs.Causes.{Rose, Still}
use Rattle.edge_traits.specs.Keepers.{KeeperView, KeeperStill}
use Rattle.file_map.specs.FileMaps.{Files}
use Rattle.arg_scan.specs.Names.{is_reserved}
use Rattle.sample_program.specs.declared.fetching.FetchStop.{FetchStop}
use Rattle.sample_program.specs.declared.fetching.FetchStop.TheVariants.{Missing, TooLarge, File, Memory}

-- the most bytes of all files together
abbrev pub files_max : ℕ
files_max = object_max

-- ---- what comes of fetching, if the files are told

abbrev pub found_of : ℕ → List ℕ → Option (List ℕ) → Result (List ℕ) FetchStop
found_of left name None = Err (Missing name)
found_of left name (Some content) = if nat_le (length content) left then Ok content else Err TooLarge

-- the file of this name, with at most that many bytes; a name that ends in `.farm~` is no file
abbrev pub outcome_of : Files → ℕ → List ℕ → Result (List ℕ) FetchStop
outcome_of files left name = if is_reserved name then Err (Missing name) else found_of left name (get files name)

abbrev pub then_object : Result (List ℕ) FetchStop → (List ℕ → Result (List (List ℕ)) FetchStop) → Result (List (List ℕ)) FetchStop
then_object (Err stop) more = Err stop
then_object (Ok content) more = more content

-- the files of these names after others, with at most that many bytes together; or the first that is missing or goes beyond
abbrev pub objects_from : Files → List (List ℕ) → ℕ → List (List ℕ) → Result (List (List ℕ)) FetchStop
objects_from files done left [] = Ok done
objects_from files done left (name ∷ names) =
    then_object (outcome_of files left name) (λ content. objects_from files (done ++ content ∷ []) (left - length content) names)

abbrev pub objects_of : Files → List (List ℕ) → Result (List (List ℕ)) FetchStop
objects_of files names = objects_from files [] files_max names

-- ---- what a fetch does

-- the files of these names were fetched, in order, and had these contents
abbrev pub entries_with : List (List ℕ) → List (List ℕ) → List Fetch
entries_with [] contents = []
entries_with (name ∷ names) [] = []
entries_with (name ∷ names) (content ∷ contents) = record { path = name; bytes = content } ∷ entries_with names contents

-- a file was fetched
pub record Took (name : List ℕ) (left : ℕ) (old new : KeeperView) (content : List ℕ) : Type 0 where
  pub told : IsTrue new.files.known → outcome_of old.files.value left name ≡ Ok content
  pub within : length content ≤ left
  pub fetched : Grew old.fetches new.fetches (record { path = name; bytes = content } ∷ [])
  pub calm : KeeperStill old new

-- all files were fetched, each once and in order
pub record TookAll (names : List (List ℕ)) (old new : KeeperView) (contents : List (List ℕ)) : Type 0 where
  pub told : IsTrue new.files.known → objects_of old.files.value names ≡ Ok contents
  pub count : length contents ≡ length names
  pub within : length (flat_map (λ content. content) contents) ≤ files_max
  pub fetched : Grew old.fetches new.fetches (entries_with names contents)
  pub calm : KeeperStill old new

-- The first file that is missing has this name, which ends in `.farm~` or is no file; or the files go beyond the bound. Neither
-- comes of a fault. The keeper's faults rose; or memory ran out, and they stay.
abbrev pub FetchCause : KeeperView → KeeperView → FetchStop → Type 0
FetchCause old new (Missing name) = Still old.faults new.faults × (Rose old.overruns new.overruns ⊎ (is_reserved name ≡ true))
FetchCause old new TooLarge = Still old.faults new.faults × Rose old.overruns new.overruns
FetchCause old new File = Rose old.faults new.faults
FetchCause old new Memory = Still old.faults new.faults

-- if the files are told, the stop is what comes of fetching them; a fault and out of memory aren't told by files
abbrev pub StopsSo : {T : Type 0} → Result T FetchStop → FetchStop → Type 0
StopsSo outcome (Missing name) = outcome ≡ Err (Missing name)
StopsSo outcome TooLarge = outcome ≡ Err TooLarge
StopsSo outcome File = Unit {0}
StopsSo outcome Memory = Unit {0}

-- a file wasn't fetched
pub record Missed (name : List ℕ) (left : ℕ) (old new : KeeperView) (stop : FetchStop) : Type 0 where
  pub told : IsTrue new.files.known → StopsSo (outcome_of old.files.value left name) stop
  pub fetched : Grew old.fetches new.fetches []
  pub cause : FetchCause old new stop

-- the first of the files were fetched, with these contents, and then one wasn't
pub record MissedOne (names : List (List ℕ)) (old new : KeeperView) (stop : FetchStop) : Type 0 where
  pub contents : List (List ℕ)
  pub few : length contents ≤ length names
  pub told : IsTrue new.files.known → StopsSo (objects_of old.files.value names) stop
  pub fetched : Grew old.fetches new.fetches (entries_with names contents)
  pub cause : FetchCause old new stop
