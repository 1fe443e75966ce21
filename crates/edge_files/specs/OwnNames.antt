-- The names of files that are being written.
use Rattle.std.specs.Prelude.{◌≡◌, ℕ, ◌+◌, ◌%◌, ◌^◌, ◌⊎◌, List, ◌++◌, take, codes, string_bytes}
use Rattle.std.specs.Fmt.{decimal}
use Rattle.edge_files.specs.declared.own_files.OwnNames.{OwnNames}

-- the folder, the number of the process, and the serial of the last name that was made
pub record NamesView : Type 0 where
  pub folder : List ℕ
  pub process : ℕ
  pub serial : ℕ

abbrev pub names_view : OwnNames → NamesView
names_view names = record { folder = string_bytes names.folder; process = names.process; serial = names.serial }

-- before the first name
abbrev pub first_names : List ℕ → ℕ → NamesView
first_names folder process = record { folder = folder; process = process; serial = 0 }

-- after one name more
abbrev pub next_names : NamesView → NamesView
next_names names = record { folder = names.folder; process = names.process; serial = (names.serial + 1) % 2 ^ 64 }

-- `FOLDER/farm-PROCESS-SERIAL.ENDING`, with the serial of the last name
abbrev pub own_name : NamesView → List ℕ → List ℕ
own_name names ending = names.folder ++ (codes "/farm-" ++ decimal names.process ++ codes "-" ++ decimal names.serial ++ codes ".")
    ++ ending

-- the names are of one folder and one process
pub record SameOwner (old new : NamesView) : Type 0 where
  pub folder : new.folder ≡ old.folder
  pub process : new.process ≡ old.process

-- the last part of the name of a file that is being written: `farm-PROCESS-SERIAL.farm~`
abbrev pub numbered : ℕ → ℕ → List ℕ
numbered process serial = codes "farm-" ++ decimal process ++ codes "-" ++ decimal serial ++ codes ".farm~"

abbrev pub staged_text : NamesView → List ℕ
staged_text names = numbered names.process names.serial

-- this name is the text, or some first bytes of the path, a slash and the text
abbrev pub IsBeside : List ℕ → List ℕ → List ℕ → Type 0
IsBeside path text name = (name ≡ text) ⊎ ((count : ℕ) × (name ≡ take count path ++ codes "/" ++ text))
