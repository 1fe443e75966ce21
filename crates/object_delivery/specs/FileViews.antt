-- What files show, and what the calls on them do.
use Rattle.std.specs.Prelude.{◌≡◌, ℕ, ◌<◌, ◌≤◌, ◌++◌, ◌⊎◌, List, [], length, take, Option, Some, None, Result, Ok, Err, IfOk, IsErrOf}
use Rattle.std.specs.Prelude.{unwrap_or}
use Rattle.std.specs.FinMap.{get, insert, remove}
use Rattle.edge_traits.specs.declared.faults.EdgeFault.{EdgeFault}
use Rattle.edge_traits.specs.declared.faults.EdgeFault.TheVariants.{Failed, Memory}
use Rattle.edge_traits.specs.Causes.{Rose, Still}
use Rattle.edge_traits.specs.Told.{Told, Became, untold}
use Rattle.file_map.specs.FileMaps.{Files}
use Rattle.edge_traits.specs.Keepers.{KeeperView}

-- what files show: names with their contents, and how many calls failed and went past a bound
pub record FilesView : Type 0 where
  pub files : Told Files
  pub faults : ℕ
  pub overruns : ℕ

-- a keeper of these files whose puts and fetches aren't told
abbrev pub as_keeper : FilesView → KeeperView
as_keeper view = record {
  files = view.files;
  puts = untold [];
  fetches = untold [];
  pending = None;
  faults = view.faults;
  overruns = view.overruns;
}

-- the content of a file, which is nothing if it isn't there
abbrev pub content_of : Files → List ℕ → List ℕ
content_of files name = unwrap_or (get files name) []

-- the files with bytes added at the end of one, which is made if it isn't there
abbrev pub appended : Files → List ℕ → List ℕ → Files
appended files name bytes = insert files name (content_of files name ++ bytes)

-- a front of the piece was added, or nothing was done
pub record FrontAppended (old new : Told Files) (name piece : List ℕ) : Type 0 where
  pub count : ℕ
  pub within : count ≤ length piece
  pub files : Became old new (appended old.value name (take count piece))

-- what an append does: at `Ok` the bytes that were taken are added, at `Err` a front of the piece may be
abbrev pub Appends : Told Files → Told Files → List ℕ → List ℕ → Result ℕ EdgeFault → Type 0
Appends old new name piece (Ok count) = Became old new (appended old.value name (take count piece))
Appends old new name piece (Err fault) = Became old new old.value ⊎ FrontAppended old new name piece

-- Why an append may return what it does. It fails, or takes nothing of a piece with bytes, only if the count rose. It takes
-- bytes, or runs out of memory, only if the count stays the same.
pub record HasAppendCause (before now : ℕ) (piece : List ℕ) (result : Result ℕ EdgeFault) : Type 0 where
  pub later : before ≤ now
  pub failed : IsErrOf result Failed → Rose before now
  pub taken : IfOk result (λ count. 0 < count → Still before now)
  pub none : IfOk result (λ count. count ≡ 0 → 0 < length piece → Rose before now)
  pub memory : IsErrOf result Memory → Still before now

-- the files with the content of one, if it is there, moved to another name
abbrev pub with_moved : Files → List ℕ → List ℕ → Option (List ℕ) → Files
with_moved files from to None = files
with_moved files from to (Some content) = insert (remove files from) to content

-- the files with one under another name, in place of what had that name. If it isn't there, they stay as they are.
abbrev pub moved_file : Files → List ℕ → List ℕ → Files
moved_file files from to = with_moved files from to (get files from)

-- the files after a rename: as before at `Err`
abbrev pub files_renamed : {T E : Type 0} → Files → List ℕ → List ℕ → Result T E → Files
files_renamed files from to (Ok done) = moved_file files from to
files_renamed files from to (Err fault) = files

-- the files after a removal: as before at `Err`
abbrev pub files_without : {T E : Type 0} → Files → List ℕ → Result T E → Files
files_without files name (Ok done) = remove files name
files_without files name (Err fault) = files
