-- The folder of a run, and the files in it.
use Rattle.std.specs.Prelude.{◌≡◌, ℕ, List, ◌++◌, length, codes, Option, String, string_bytes}
use Rattle.std.specs.Option.{option_map}
use Rattle.hex.specs.Hex.{encode_lower}
use Rattle.edge_runs.specs.declared.run_folder.RunFolder.{RunFolder}

-- `FOLDER/farm-WORD`, with the bytes of the word as hexadecimal digits
abbrev pub folder_name : List ℕ → List ℕ → List ℕ
folder_name folder word = folder ++ codes "/farm-" ++ encode_lower word

-- It is in this folder, under a name with a word of 16 bytes.
pub record IsNamedIn (folder path : List ℕ) : Type 0 where
  pub word : List ℕ
  pub size : length word ≡ 16
  pub named : path ≡ folder_name folder word

-- the path of the folder of a run
abbrev pub place_of : {R F D : Type 0} → RunFolder R F D → List ℕ
place_of folder = string_bytes folder.path

-- the path of a file of this name in a folder
abbrev pub file_in : List ℕ → List ℕ → List ℕ
file_in folder name = folder ++ codes "/" ++ name

-- a text that may be there or not
abbrev pub bytes_if : {A : Type 0} → Option (String A) → Option (List ℕ)
bytes_if text = option_map string_bytes text
