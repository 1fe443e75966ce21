-- How a file is put whole or not at all.
use Rattle.std.specs.Prelude.{◌≡◌, ℕ, ◌++◌, ◌⊎◌, Bool, not, IsTrue, List, Option, Some, None, Result, Ok, Err}
use Rattle.std.specs.Prelude.{codes, nat_eq}
use Rattle.std.specs.List.{ends_with}
use Rattle.std.specs.FinMap.{get, insert, remove, retain_keys}
use Rattle.edge_traits.specs.declared.faults.EdgeFault.{EdgeFault}
use Rattle.edge_traits.specs.declared.faults.EdgeFault.TheVariants.{Failed, Memory}
use Rattle.edge_traits.specs.Told.{Told, Became}
use Rattle.edge_traits.specs.Causes.{Rose, RoseBy}
use Rattle.file_map.specs.FileMaps.{Files}
use Rattle.edge_traits.specs.FileMaps.{IsStaged}
use Rattle.edge_traits.specs.Keepers.{PendingPut, KeeperView}
use Rattle.object_delivery.specs.FileViews.{FilesView, as_keeper, content_of}
use Rattle.object_delivery.specs.declared.keeper.Staged.{Staged}

-- what the name of a file that is still being written ends in: `.farm~`
abbrev pub ending : List ℕ
ending = codes ".farm~"

-- the name of a file while it is being written
abbrev pub staged : List ℕ → List ℕ
staged path = path ++ ending

-- a test of that ending
abbrev pub is_staged : List ℕ → Bool
is_staged name = ends_with nat_eq name ending

-- the files but those that are still being written
abbrev pub finished : Files → Files
finished files = retain_keys files (λ name. not (is_staged name))

-- What a keeper over files is: the files, and the path of the put that is pending.
pub record Kept (F : Type 0) : Type 0 where
  pub files : F
  pub pending : Option (List ℕ)

-- the path of what is being written
abbrev pub path_of : Option Staged → Option (List ℕ)
path_of (Some staging) = Some staging.path
path_of None = None

-- the files have one of this name
pub record HasFile (files : Files) (name : List ℕ) : Type 0 where
  pub content : List ℕ
  pub there : get files name ≡ Some content

-- What is being written has the name for its path, which is no such name itself, and its file is there.
pub record IsStaging (view : FilesView) (path name : List ℕ) : Type 0 where
  pub named : name ≡ staged path
  pub other : ¬ (IsStaged path)
  pub there : IsTrue view.files.known → HasFile view.files.value name

abbrev pub IsSound : FilesView → Option Staged → Type 0
IsSound view (Some staging) = IsStaging view staging.path staging.name
IsSound view None = Unit {0}

-- a put that is pending, whose bytes are those of the file that is being written
abbrev pub pending_put : Told Files → Option (List ℕ) → Option PendingPut
pending_put files (Some path) =
    Some (record { path = path; bytes = record { known = files.known; value = content_of files.value (staged path) } })
pending_put files None = None

-- A keeper over files shows those that are finished.
abbrev pub keeper_view : FilesView → Option (List ℕ) → KeeperView
keeper_view view pending =
    record (as_keeper (record view { files = record { known = view.files.known; value = finished view.files.value } }))
    { pending = pending_put view.files pending }

-- what is pending after a `begin` and after an `add`: none at `Err`
abbrev pub begun : {T E : Type 0} → List ℕ → Result T E → Option (List ℕ)
begun path (Ok done) = Some path
begun path (Err fault) = None

abbrev pub still : {T E : Type 0} → Option (List ℕ) → Result T E → Option (List ℕ)
still pending (Ok done) = pending
still pending (Err fault) = None

-- the files with this one put whole, and what was being written of it gone
abbrev pub delivered : Files → List ℕ → List ℕ → Files
delivered files path bytes = insert (remove files (staged path)) path bytes

-- no file but this one is another than before
pub record ChangesOnly (old new : Told Files) (name : List ℕ) : Type 0 where
  pub known : IsTrue new.known → IsTrue old.known
  pub others : IsTrue new.known → remove new.value name ≡ remove old.value name

-- at least this many calls failed, if the removal after a put with this fault failed too
abbrev pub with_removal : EdgeFault → ℕ
with_removal Failed = 2
with_removal Memory = 1

-- Nothing was done, for lack of memory for the name under which the file is written.
pub record IsUntouched (old new : FilesView) (fault : EdgeFault) : Type 0 where
  pub memory : fault ≡ Memory
  pub same : new ≡ old

-- What was being written under this name stays, since its removal failed too. No other file is changed.
pub record IsLeft (old new : FilesView) (name : List ℕ) (fault : EdgeFault) : Type 0 where
  pub files : ChangesOnly old.files new.files name
  pub rose : RoseBy (with_removal fault) old.faults new.faults

-- after this fault what was being written under this name was taken away, or left if that failed
abbrev pub RemovedOrLeft : FilesView → FilesView → List ℕ → EdgeFault → Type 0
RemovedOrLeft old new name fault = Became old.files new.files (remove old.files.value name) ⊎ IsLeft old new name fault

-- what a put that was given up does to the files: what was being written is taken away, or left if that fails
abbrev pub DroppedPut : FilesView → FilesView → List ℕ → EdgeFault → Type 0
DroppedPut old new path fault = RemovedOrLeft old new (staged path) fault

-- the same, if nothing had failed before
abbrev pub AbandonedPut : FilesView → FilesView → List ℕ → Type 0
AbandonedPut old new path = Became old.files new.files (remove old.files.value (staged path))
    ⊎ (Became old.files new.files old.files.value × Rose old.faults new.faults)

-- what a failed put does to the files: it takes away what was being written, or leaves it if that fails; or it changes nothing, for lack of memory
abbrev pub FailedPut : FilesView → FilesView → List ℕ → EdgeFault → Type 0
FailedPut old new path fault = DroppedPut old new path fault ⊎ IsUntouched old new fault
