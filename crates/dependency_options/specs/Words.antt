-- The words that are added to a command for its dependency file.
use Rattle.std.specs.Prelude.{ℕ, ◌==◌, Bool, true, false, not, ◌||◌, ◌&&◌, List, [], ◌∷◌, ◌++◌, length, codes, Option, Some, None}
use Rattle.std.specs.Prelude.{is_some, bytes_eq, if◌then◌else◌}
use Rattle.std.specs.List.{list_any}
use Rattle.option_table.specs.declared.table.Found.{Found}
use Rattle.option_table.specs.Rows.{found, row_at}
use Rattle.option_table.specs.Gcc.{gcc_rows}
use Rattle.arg_scan.specs.declared.part.Role.TheVariants as role
use Rattle.arg_scan.specs.declared.part.Part.{Part}
use Rattle.arg_scan.specs.declared.part.Part.TheVariants as part
use Rattle.arg_scan.specs.Roles.{word_at, part_at}
use Rattle.arg_scan.specs.Forces.{any_below}
use Rattle.arg_scan.specs.Class.{plan_of}
use Rattle.arg_strip.specs.Words.{output_of}
use Rattle.dependency_options.specs.declared.asked.Asked.{Asked}
use Rattle.dependency_options.specs.declared.asked.DependencyOption.{DependencyOption}
use Rattle.dependency_options.specs.declared.asked.DependencyOption.TheVariants as says

-- what the option of this spelling says of a dependency file
abbrev pub option_named : List ℕ → Option DependencyOption
option_named spelling =
    if bytes_eq spelling (codes "-MD") || bytes_eq spelling (codes "-MMD") then Some says.List
    else (if bytes_eq spelling (codes "-MF") then Some says.File
    else (if bytes_eq spelling (codes "-MT") || bytes_eq spelling (codes "-MQ") then Some says.Target
    else None))

abbrev pub option_found : Option Found → Option DependencyOption
option_found None = None
option_found (Some at) = option_named (row_at gcc_rows at.row).spelling

-- what a word of this use says: if it is an option, what its row of the table says
abbrev pub option_of : Part → List ℕ → Option DependencyOption
option_of (part.Word (role.Flag effect operand)) word = option_found (found gcc_rows word)
option_of _ word = None

abbrev pub says_list : Option DependencyOption → Bool
says_list (Some says.List) = true
says_list _ = false

abbrev pub says_file : Option DependencyOption → Bool
says_file (Some says.File) = true
says_file _ = false

abbrev pub says_target : Option DependencyOption → Bool
says_target (Some says.Target) = true
says_target _ = false

-- what was said, with what an option says
abbrev pub noted : Option DependencyOption → Asked → Asked
noted option asked = record {
  list = asked.list || says_list option;
  file = asked.file || says_file option;
  target = asked.target || says_target option;
}

abbrev pub option_at : List (List ℕ) → ℕ → Option DependencyOption
option_at words at = option_of (part_at words at) (word_at words at)

-- what the first n words say of a dependency file
abbrev pub asked_below : List (List ℕ) → ℕ → Asked
asked_below words n = record {
  list = any_below (λ at. says_list (option_at words at)) n;
  file = any_below (λ at. says_file (option_at words at)) n;
  target = any_below (λ at. says_target (option_at words at)) n;
}

abbrev pub asked_of : List (List ℕ) → Asked
asked_of words = asked_below words (length words)

-- a dot or a `/`
abbrev pub is_mark : ℕ → Bool
is_mark b = b == 46 || b == 47

-- the name without its ending: without the last dot of its last part, and what is after it
abbrev pub stem : List ℕ → List ℕ
stem [] = []
stem (b ∷ bs) = if b == 46 && not (list_any is_mark bs) then [] else b ∷ stem bs

-- the dependency file of an output
abbrev pub dependency_name : List ℕ → List ℕ
dependency_name output = stem output ++ codes ".d"

-- the words that name the file, and the target, if the command doesn't
abbrev pub file_words : Bool → List ℕ → List (List ℕ)
file_words true output = []
file_words false output = codes "-MF" ∷ dependency_name output ∷ []

abbrev pub target_words : Bool → List ℕ → List (List ℕ)
target_words true output = []
target_words false output = codes "-MQ" ∷ output ∷ []

abbrev pub added_by : Bool → Bool → List ℕ → List (List ℕ)
added_by file target output = file_words file output ++ target_words target output

-- the words that are added: none if no dependency file is asked for, or no output is named
abbrev pub added_words : List (List ℕ) → List (List ℕ)
added_words words =
    if (asked_of words).list && is_some (plan_of words).output
    then added_by (asked_of words).file (asked_of words).target (output_of words)
    else []

-- the words of a command with those of its dependency file
abbrev pub with_dependencies : List (List ℕ) → List (List ℕ)
with_dependencies words = words ++ added_words words
