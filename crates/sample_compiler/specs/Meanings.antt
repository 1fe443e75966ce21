-- What each word of the compiler is used as.
use Rattle.std.specs.Prelude.{ℕ, List, [], ◌∷◌, length, drop, take, codes, nat_eq, nat_lt, not, ◌==◌, if◌then◌else◌, Option, Some, None}
use Rattle.std.specs.List.{prefix_len, starts_with}
use Rattle.option_table.specs.declared.table.Found.{Found}
use Rattle.option_table.specs.Rows.{found}
use Rattle.option_table.specs.Scc.{scc_rows}
use Rattle.arg_scan.specs.declared.verdict.Action.TheVariants.{Compile, Assemble}
use Rattle.sample_compiler.specs.declared.defines.Define.{Define}
use Rattle.sample_compiler.specs.declared.meaning.Command.TheVariants.{Expand, Build}
use Rattle.sample_compiler.specs.declared.meaning.Sign.{Sign}
use Rattle.sample_compiler.specs.declared.meaning.Sign.TheVariants as sign
use Rattle.sample_compiler.specs.declared.meaning.Meaning.{Meaning}
use Rattle.sample_compiler.specs.declared.meaning.Meaning.TheVariants as meaning
use Rattle.sample_compiler.specs.declared.meaning.Reading.{Reading}
use Rattle.sample_compiler.specs.declared.meaning.Reading.TheVariants.{Whole, Awaits}

-- ---- an operand of `-D`: `N=V`, or `N`, which means `N=1`

-- how many bytes are before the first `=`
abbrev pub name_len : List ℕ → ℕ
name_len text = prefix_len (λ c. not (c == 61)) text

abbrev pub defined_value : List ℕ → List ℕ
defined_value [] = codes "1"
defined_value (c ∷ value) = value

abbrev pub flag_definition : List ℕ → Define
flag_definition text = record { name = take (name_len text) text; value = defined_value (drop (name_len text) text) }

-- ---- one word

-- an option with its operand
abbrev pub with_operand : Sign → List ℕ → Meaning
with_operand sign.Folder operand = meaning.Folder operand
with_operand sign.Define operand = meaning.Define (flag_definition operand)
with_operand sign.Output operand = meaning.Output operand

-- the operand is after the spelling, or else is the next word
abbrev pub option_of : Sign → ℕ → List ℕ → Reading
option_of s from word = if nat_lt from (length word) then Whole (with_operand s (drop from word)) else Awaits s

-- an option of the table, by its row there, and the place at which the spelling ends: `-I`, `-D`, `-o`, `-E`, `-c` and `-S`
abbrev pub row_reading : ℕ → ℕ → List ℕ → Reading
row_reading row from word =
    if row == 0 then option_of sign.Folder from word
    else if row == 1 then option_of sign.Define from word
    else if row == 2 then option_of sign.Output from word
    else if row == 3 then Whole (meaning.Command Expand)
    else if row == 4 then Whole (meaning.Command (Build Compile))
    else Whole (meaning.Command (Build Assemble))

-- any other word
abbrev pub other_reading : List ℕ → Reading
other_reading word = if starts_with nat_eq word (codes "-") then Whole meaning.Ignored else Whole (meaning.Input word)

abbrev pub found_reading : Option Found → List ℕ → Reading
found_reading (Some at) word = row_reading at.row at.joined word
found_reading None word = other_reading word

-- what a word is by itself
unfoldable pub reading_of : List ℕ → Reading
reading_of word = found_reading (found scc_rows word) word

-- ---- all words

-- the last word: no operand is after it
abbrev pub last_meaning : Reading → Meaning
last_meaning (Whole m) = m
last_meaning (Awaits s) = meaning.Lacking

-- a word before another one, by what that one and those after it mean: an option may take it as its operand
abbrev pub in_front : Reading → List ℕ → List Meaning → List Meaning → List Meaning
in_front (Whole m) next with_next behind_next = m ∷ with_next
in_front (Awaits s) next with_next behind_next = with_operand s next ∷ behind_next

-- what the words are used as, in order
abbrev pub meanings : List (List ℕ) → List Meaning
meanings [] = []
meanings (word ∷ []) = last_meaning (reading_of word) ∷ []
meanings (word ∷ next ∷ words) = in_front (reading_of word) next (meanings (next ∷ words)) (meanings words)
