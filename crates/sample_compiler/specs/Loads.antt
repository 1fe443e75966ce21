-- What a load of files leaves, and when it may fail.
use Rattle.std.specs.Prelude.{ℕ, ◌≡◌, ◌⊎◌, ◌||◌, ◌<◌, ◌≤◌, not, true, false, List, [], ◌∷◌, ◌++◌, length, Option, Some, None, IsTrue}
use Rattle.std.specs.List.{flat_map}
use Rattle.std.specs.FinMap.{get, retain_keys}
use Rattle.std.specs.Str.{bytes_eq}
use Rattle.farm_types.specs.Limits.{source_max}
use Rattle.farm_types.specs.declared.ran.Ran.{Ran}
use Rattle.edge_traits.specs.Told.{Told, Grew, Became}
use Rattle.edge_traits.specs.declared.entries.Fetch.{Fetch}
use Rattle.edge_traits.specs.Causes.{Rose, Still}
use Rattle.edge_traits.specs.Keepers.{KeeperView, IsIdle, HasLength}
use Rattle.arg_scan.specs.Names.{is_reserved}
use Rattle.file_map.specs.FileMaps.{Files}
use Rattle.sample_compiler.specs.declared.loading.Known.{Known}
use Rattle.sample_compiler.specs.declared.loading.LoadFault.{LoadFault}
use Rattle.sample_compiler.specs.declared.loading.LoadFault.TheVariants.{Failed, TooMuch, Memory}
use Rattle.sample_compiler.specs.Lookups.{is_listed, Agrees}
use Rattle.sample_compiler.specs.Samples.{SampleOf}
use Rattle.sample_compiler.specs.Seeking.{asked_names, firsts_after, is_known}
use Rattle.sample_compiler.specs.Tasks.{task_of}

-- the files whose names don't end in `.farm~`
abbrev pub unstaged : Files → Files
unstaged files = retain_keys files (λ path. not (is_reserved path))

-- each file has at most as many bytes as are fetched
abbrev pub AreShort : Files → Type 0
AreShort files = (path content : List ℕ) → get files path ≡ Some content → length content ≤ source_max

-- the keeper's files are as they were, nothing was put, and the counts haven't fallen
pub record OnlyFetched (old now : KeeperView) : Type 0 where
  pub files : Became old.files now.files old.files.value
  pub puts : Grew old.puts now.puts []
  pub idle : IsIdle now
  pub faults : old.faults ≤ now.faults
  pub overruns : old.overruns ≤ now.overruns

-- a file was above the bound, with this length
pub record WasTooLong (old now : KeeperView) (bytes : ℕ) : Type 0 where
  pub rose : Rose old.overruns now.overruns
  pub above : source_max < bytes
  pub long : IsTrue now.files.known → (path : List ℕ) × HasLength now.files.value path bytes

-- When a load that failed may return this. It is out of memory only if no fetch had failed.
abbrev pub LoadCause : KeeperView → KeeperView → LoadFault → Type 0
LoadCause old now Failed = Rose old.faults now.faults
LoadCause old now (TooMuch bytes) = WasTooLong old now bytes
LoadCause old now Memory = Still old.faults now.faults

-- ---- which files are fetched

-- the entry of a fetch of this name: none if there is no such file
abbrev pub entry_of : List ℕ → Option (List ℕ) → List Fetch
entry_of name None = []
entry_of name (Some content) = record { path = name; bytes = content } ∷ []

abbrev pub entry_at : Files → List ℕ → List Fetch
entry_at files name = entry_of name (get files name)

-- the files of these names, fetched in order
abbrev pub entries_at : Files → List (List ℕ) → List Fetch
entries_at files names = flat_map (entry_at files) names

-- the names that the words have looked up, each at its first place
abbrev pub names_for : Files → List (List ℕ) → List (List ℕ)
names_for files words = firsts_after [] (asked_names files (task_of words))

-- Some first of these names were fetched, in order.
pub record FetchedFront (files : Files) (names : List (List ℕ)) (old new : Told (List Fetch)) : Type 0 where
  pub front : List (List ℕ)
  pub rest : List (List ℕ)
  pub parts : names ≡ front ++ rest
  pub grew : Grew old new (entries_at files front)

-- a file that was too long has one of these names
abbrev pub LongNamed : KeeperView → List (List ℕ) → LoadFault → Type 0
LongNamed now names Failed = Unit {0}
LongNamed now names (TooMuch bytes) = IsTrue now.files.known → (path : List ℕ) × (is_listed names path ≡ true)
    × HasLength now.files.value path bytes
LongNamed now names Memory = Unit {0}

-- one of these names is no file
pub record HasAbsent (files : Files) (names : List (List ℕ)) : Type 0 where
  pub path : List ℕ
  pub listed : is_listed names path ≡ true
  pub absent : get files path ≡ None

-- no overrun rose, unless one of these names is no file
abbrev pub OverrunsStand : KeeperView → KeeperView → List (List ℕ) → Type 0
OverrunsStand old now names = IsTrue now.files.known → Still old.overruns now.overruns ⊎ HasAbsent now.files.value names

-- out of memory hides no file that was too long
abbrev pub HidesNone : KeeperView → KeeperView → List (List ℕ) → LoadFault → Type 0
HidesNone old now names Failed = Unit {0}
HidesNone old now names (TooMuch bytes) = Unit {0}
HidesNone old now names Memory = OverrunsStand old now names

-- ---- how it ends

-- A load of these names that went well: no fault, and no overrun but for a name that is no file.
pub record LoadWent (old now : KeeperView) (names : List (List ℕ)) : Type 0 where
  pub calm : Still old.faults now.faults
  pub missed : OverrunsStand old now names

-- A load of these names that failed may return this.
pub record LoadFailed (old now : KeeperView) (names : List (List ℕ)) (fault : LoadFault) : Type 0 where
  pub cause : LoadCause old now fault
  pub named : LongNamed now names fault
  pub hides : HidesNone old now names fault

-- A file is known after a load, or is known not to be there.
pub record Learned (now : KeeperView) (before after : Known) (path : List ℕ) : Type 0 where
  -- what agreed with the keeper's files agrees with them still
  pub agrees : IsTrue now.files.known → Agrees before.files before.absent false (unstaged now.files.value)
      → Agrees after.files after.absent false (unstaged now.files.value)
  -- exactly this name is known, and those that were
  pub knows : (name : List ℕ) → is_known after.files after.absent name ≡ (is_known before.files before.absent name || bytes_eq path name)
  pub short : AreShort before.files → AreShort after.files

-- ---- what they leave

-- the words leave the same over both
pub record SameRuns (words : List (List ℕ)) (files others : Files) : Type 0 where
  pub there : (ran : Ran) → SampleOf files words ran → SampleOf others words ran
  pub back : (ran : Ran) → SampleOf others words ran → SampleOf files words ran
