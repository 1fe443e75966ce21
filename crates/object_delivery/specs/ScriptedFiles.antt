-- What files in memory are in, and what their calls return and do.
use Rattle.std.specs.Prelude.{◌≡◌, ℕ, ◌<◌, ◌≤◌, List, [], length, take, true, false, Result, Ok, Err, Some, None}
use Rattle.std.specs.FinMap.{get}
use Rattle.edge_traits.specs.declared.faults.EdgeFault.{EdgeFault}
use Rattle.edge_traits.specs.declared.faults.FetchFault.{FetchFault}
use Rattle.edge_traits.specs.declared.faults.FetchFault.TheVariants.{Failed, Absent, TooMuch, Memory}
use Rattle.edge_traits.specs.Told.{told}
use Rattle.edge_traits.specs.Calls.{names_next, one_more, failed_calls}
use Rattle.file_map.specs.FileMaps.{Files}
use Rattle.edge_traits.specs.FileMaps.{files_after}
use Rattle.edge_traits.specs.Keepers.{HasLength, overruns_after_fetch}
use Rattle.object_delivery.specs.declared.mem_files.MemFiles.{MemFiles}
use Rattle.object_delivery.specs.FileViews.{FilesView, appended, files_renamed, files_without}

-- the files, which calls fail, the most bytes that an append adds, and how many calls and overruns there were, both counted up to
-- the greatest u64
pub record FilesState : Type 0 where
  pub files : Files
  pub fails : List ℕ
  pub most : ℕ
  pub made : ℕ
  pub overruns : ℕ

abbrev pub files_state : MemFiles → FilesState
files_state files = record {
  files = files.files;
  fails = files.calls.fails;
  most = files.most;
  made = files.calls.made;
  overruns = files.overruns;
}

-- what they show
abbrev pub files_shows : FilesState → FilesView
files_shows files = record { files = told files.files; faults = failed_calls files.fails files.made; overruns = files.overruns }

abbrev pub after_create : {T : Type 0} → FilesState → List ℕ → Result T EdgeFault → FilesState
after_create files name result = record files { made = one_more files.made; files = files_after files.files name [] result }

-- the files after an append: with the bytes that were taken at `Ok`, as before at `Err`
abbrev pub files_appended : Files → List ℕ → List ℕ → Result ℕ EdgeFault → Files
files_appended files name piece (Ok taken) = appended files name (take taken piece)
files_appended files name piece (Err fault) = files

abbrev pub after_append : FilesState → List ℕ → List ℕ → Result ℕ EdgeFault → FilesState
after_append files name piece result = record files { made = one_more files.made; files = files_appended files.files name piece result }

abbrev pub after_rename : {T : Type 0} → FilesState → List ℕ → List ℕ → Result T EdgeFault → FilesState
after_rename files from to result = record files { made = one_more files.made; files = files_renamed files.files from to result }

abbrev pub after_remove : {T : Type 0} → FilesState → List ℕ → Result T EdgeFault → FilesState
after_remove files name result = record files { made = one_more files.made; files = files_without files.files name result }

-- the file of this name has this content, within the bound
pub record IsHeld (files : FilesState) (name : List ℕ) (bound : ℕ) (bytes : List ℕ) : Type 0 where
  pub there : get files.files name ≡ Some bytes
  pub within : length bytes ≤ bound

-- The next load may return this. Only the script decides which loads fail. Of the others only one that has a file to give may run out of memory.
abbrev pub IsLoadAnswer : FilesState → List ℕ → ℕ → Result (List ℕ) FetchFault → Type 0
IsLoadAnswer files name bound (Ok bytes) = (names_next files.fails files.made ≡ false) × IsHeld files name bound bytes
IsLoadAnswer files name bound (Err Failed) = names_next files.fails files.made ≡ true
IsLoadAnswer files name bound (Err Absent) = (names_next files.fails files.made ≡ false) × (get files.files name ≡ None)
IsLoadAnswer files name bound (Err (TooMuch bytes)) = (names_next files.fails files.made ≡ false) × HasLength files.files name bytes
    × (bound < bytes)
IsLoadAnswer files name bound (Err Memory) = (names_next files.fails files.made ≡ false) × (bytes : List ℕ) × IsHeld files name bound bytes

abbrev pub after_load : FilesState → Result (List ℕ) FetchFault → FilesState
after_load files result = record files { made = one_more files.made; overruns = overruns_after_fetch files.overruns result }
