-- What a keeper's calls do to its files.
use Rattle.std.specs.Prelude.{◌≡◌, List, ℕ, [], ◌∷◌, ◌++◌, Result, Ok, Err}
use Rattle.std.specs.FinMap.{insert}
use Rattle.file_map.specs.FileMaps.{Files}

-- the files after a put: with this content at this path at `Ok`, as before at `Err`
abbrev pub files_after : {T E : Type 0} → Files → List ℕ → List ℕ → Result T E → Files
files_after files path bytes (Ok done) = insert files path bytes
files_after files path bytes (Err fault) = files

-- the path ends in `.farm~`, as the names of files that are still being written do
abbrev pub IsStaged : List ℕ → Type 0
IsStaged path = (name : List ℕ) × (path ≡ name ++ (46 ∷ 102 ∷ 97 ∷ 114 ∷ 109 ∷ 126 ∷ []))
