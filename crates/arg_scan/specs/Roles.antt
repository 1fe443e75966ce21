-- What each word of a command is used as.
use Rattle.std.specs.Prelude.{ℕ, zero, suc, ◌==◌, nat_eq, List, [], length, codes, Option, None, Some, bytes_eq, if◌then◌else◌}
use Rattle.std.specs.List.{slice_index_or, starts_with}
use Rattle.option_table.specs.declared.row.Form.{Form}
use Rattle.option_table.specs.declared.row.Form.TheVariants as form
use Rattle.option_table.specs.declared.row.Effect.{Effect}
use Rattle.option_table.specs.declared.row.Effect.TheVariants as effect
use Rattle.option_table.specs.declared.table.Found.{Found}
use Rattle.option_table.specs.Rows.{found, row_at}
use Rattle.option_table.specs.Gcc.{gcc_rows}
use Rattle.arg_scan.specs.declared.names.Ending.{Ending}
use Rattle.arg_scan.specs.declared.part.Operand.{Operand}
use Rattle.arg_scan.specs.declared.part.Operand.TheVariants as operand
use Rattle.arg_scan.specs.declared.part.Role.{Role}
use Rattle.arg_scan.specs.declared.part.Role.TheVariants as role
use Rattle.arg_scan.specs.declared.part.Part.{Part}
use Rattle.arg_scan.specs.declared.part.Part.TheVariants as part
use Rattle.arg_scan.specs.Names.{last_name, ending_of}

-- the place of the operand of an option, by the row's form, the place after the spelling, and the word
abbrev pub operand_of : Form → ℕ → List ℕ → Operand
operand_of form.None joined word = operand.Absent
operand_of form.Next joined word = operand.Next
operand_of form.Joined joined word = operand.Attached joined
operand_of form.Either joined word = if joined == length word then operand.Next else operand.Attached joined

-- an option of the table, or one that is kept
abbrev pub option_role : Option Found → List ℕ → Role
option_role None word = role.Flag effect.Keep operand.Absent
option_role (Some at) word =
    let row = row_at gcc_rows at.row in role.Flag row.effect (operand_of row.form at.joined word)

abbrev pub source_role : Option Ending → Role
source_role (Some ending) = role.Source ending
source_role None = role.Other

-- what a word is in a place where an option may be
unfoldable pub role_of : List ℕ → Role
role_of word =
    if bytes_eq word (codes "-") then role.Dash
    else (if starts_with nat_eq word (codes "-") then option_role (found gcc_rows word) word
    else (if starts_with nat_eq word (codes "@") then role.Response
    else source_role (ending_of (last_name word))))

-- the option whose operand the next word is
abbrev pub owed : Part → Option Effect
owed (part.Word (role.Flag effect operand.Next)) = Some effect
owed _ = None

-- what a word is used as, by the option whose operand it is, and its place
abbrev pub part_of : Option Effect → ℕ → List ℕ → Part
part_of owner zero word = part.Compiler
part_of (Some effect) (suc i) word = part.Operand effect
part_of None (suc i) word = part.Word (role_of word)

abbrev pub word_at : List (List ℕ) → ℕ → List ℕ
word_at words at = slice_index_or words at []

-- the option whose operand the word at a place is
abbrev pub owner_at : List (List ℕ) → ℕ → Option Effect
owner_at words zero = None
owner_at words (suc i) = owed (part_of (owner_at words i) i (word_at words i))

-- what the word at a place is used as
abbrev pub part_at : List (List ℕ) → ℕ → Part
part_at words at = part_of (owner_at words at) at (word_at words at)
