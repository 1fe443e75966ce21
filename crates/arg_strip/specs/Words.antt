-- The words that are sent, the words that preprocess, and the words that compile what was sent.
use Rattle.std.specs.Prelude.{ℕ, ◌≡◌, zero, suc, Bool, true, false, List, [], ◌∷◌, ◌++◌, length, codes, Option, Some, None, if◌then◌else◌}
use Rattle.std.specs.Option.{option_to_list}
use Rattle.option_table.specs.declared.row.Effect.{Effect}
use Rattle.option_table.specs.declared.row.Effect.TheVariants as effect
use Rattle.farm_types.specs.declared.placed.Word.{Word}
use Rattle.farm_types.specs.declared.placed.Word.TheVariants.{Text, Input, Output}
use Rattle.arg_scan.specs.declared.names.Ending.{Ending}
use Rattle.arg_scan.specs.declared.part.Role.{Role}
use Rattle.arg_scan.specs.declared.part.Role.TheVariants as role
use Rattle.arg_scan.specs.declared.part.Part.{Part}
use Rattle.arg_scan.specs.declared.part.Part.TheVariants as part
use Rattle.arg_scan.specs.declared.class.Scan.{Scan}
use Rattle.arg_scan.specs.declared.class.Scan.TheVariants as scan
use Rattle.arg_scan.specs.Names.{ext_of}
use Rattle.arg_scan.specs.Roles.{word_at, part_at}
use Rattle.arg_scan.specs.Forces.{source_of}
use Rattle.arg_scan.specs.Class.{class_of, output_text, plan_of}

-- what f gives of the places below n, in order, without the places for which it gives nothing
abbrev pub gather : {A : Type 0} → (ℕ → Option A) → ℕ → List A
gather f zero = []
gather f (suc n) = gather f n ++ option_to_list (f n)

abbrev pub effect_is_sent : Effect → Bool
effect_is_sent effect.Keep = true
effect_is_sent effect.Strip = false
effect_is_sent effect.Action = true
effect_is_sent effect.Output = false
effect_is_sent (effect.Local number) = true
effect_is_sent effect.Listing = true

-- whether a word of this use is sent: not an option of the preprocessor or the linker, not the output option, and not the
-- operand of such an option
abbrev pub is_sent : Part → Bool
is_sent part.Compiler = true
is_sent (part.Operand effect) = effect_is_sent effect
is_sent (part.Word role.Dash) = true
is_sent (part.Word (role.Flag effect operand)) = effect_is_sent effect
is_sent (part.Word role.Response) = true
is_sent (part.Word (role.Source ending)) = true
is_sent (part.Word role.Other) = true

abbrev pub sent_word : Part → List ℕ → Option (List ℕ)
sent_word part word = if is_sent part then Some word else None

-- the name of the output of a command that may be sent
abbrev pub output_of : List (List ℕ) → List ℕ
output_of words = output_text words (plan_of words) (plan_of words).output

-- the words that are sent: those that the compile uses, then `-o` and the name of the output
abbrev pub stripped : List (List ℕ) → List (List ℕ)
stripped words =
    gather (λ at. sent_word (part_at words at) (word_at words at)) (length words) ++ codes "-o" ∷ output_of words ∷ []

-- a word of the preprocessor's command: the output option and its operand are left out, and `-E` replaces the action
abbrev pub preprocessing_word : Part → List ℕ → Option (List ℕ)
preprocessing_word (part.Operand effect.Output) word = None
preprocessing_word (part.Word (role.Flag effect.Output operand)) word = None
preprocessing_word (part.Word (role.Flag effect.Action operand)) word = Some (codes "-E")
preprocessing_word _ word = Some word

-- the words that preprocess the source here
abbrev pub preprocessing_words : List (List ℕ) → List (List ℕ)
preprocessing_words words = gather (λ at. preprocessing_word (part_at words at) (word_at words at)) (length words)

-- a word of the compile's command: a name of the station's own replaces the source
abbrev pub placed_text : Option Ending → List ℕ → Word
placed_text (Some ending) word = Input (ext_of ending)
placed_text None word = Text word

abbrev pub placed_word : Part → List ℕ → Option Word
placed_word part word = if is_sent part then Some (placed_text (source_of part) word) else None

-- the words that compile what was sent: those that are sent, with names of the station's own for the source and the output
abbrev pub placed_words : List (List ℕ) → List Word
placed_words words =
    gather (λ at. placed_word (part_at words at) (word_at words at)) (length words) ++ Text (codes "-o") ∷ Output ∷ []

-- both commands may be sent, with one action, one source, one output and one kind of source
abbrev pub SameRemote : List (List ℕ) → Scan → List (List ℕ) → Scan → Type 0
SameRemote words (scan.Remote action input output preprocessed ext) sent (scan.Remote action' input' output' preprocessed' ext') =
    (action' ≡ action)
    × (word_at sent input' ≡ word_at words input)
    × (output' ≡ output)
    × (preprocessed' ≡ preprocessed)
    × (ext' ≡ ext)
SameRemote words _ sent _ = ⊥

abbrev pub AsksTheSame : List (List ℕ) → List (List ℕ) → Type 0
AsksTheSame words sent = SameRemote words (class_of words) sent (class_of sent)
