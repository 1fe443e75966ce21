-- The class of a command: it stays on this machine, and why, or it may be sent, and how.
use Rattle.std.specs.Prelude.{ℕ, zero, suc, ◌≡◌, ◌<◌, ◌⊎◌, Bool, true, false, IsTrue, List, [], ◌∷◌, length, drop, Option, None, Some}
use Rattle.std.specs.Prelude.{unwrap_or, if◌then◌else◌}
use Rattle.std.specs.List.{slice_get}
use Rattle.std.specs.Option.{option_map, option_or}
use Rattle.arg_scan.specs.declared.why.Why.{Why}
use Rattle.arg_scan.specs.declared.names.Ending.TheVariants.{C}
use Rattle.arg_scan.specs.declared.part.Operand.{Operand}
use Rattle.arg_scan.specs.declared.part.Operand.TheVariants as operand
use Rattle.arg_scan.specs.declared.part.Role.TheVariants as role
use Rattle.arg_scan.specs.declared.part.Part.{Part}
use Rattle.arg_scan.specs.declared.part.Part.TheVariants as part
use Rattle.arg_scan.specs.declared.verdict.Action.TheVariants.{Compile, Assemble}
use Rattle.arg_scan.specs.declared.verdict.OutputPlace.{OutputPlace}
use Rattle.arg_scan.specs.declared.verdict.Plan.{Plan}
use Rattle.arg_scan.specs.declared.verdict.Verdict.{Verdict}
use Rattle.arg_scan.specs.declared.verdict.Verdict.TheVariants as verdict
use Rattle.arg_scan.specs.declared.class.Scan.{Scan}
use Rattle.arg_scan.specs.declared.class.Scan.TheVariants as scan
use Rattle.arg_scan.specs.Names.{derived_output, ext_of, is_preprocessed}
use Rattle.arg_scan.specs.Roles.{word_at, part_at}
use Rattle.arg_scan.specs.Forces.{Forces, NothingForces, first_below, any_below, source_of, is_source, is_output_option, assembles}
use Rattle.arg_scan.specs.Forces.{reasons_at, end_reasons}

-- the first reason of the word at a place
abbrev pub reason_at : List (List ℕ) → ℕ → Option Why
reason_at words at = slice_get (reasons_at words at) 0

-- the least place below n that gives a reason, and its first reason
abbrev pub first_forced : List (List ℕ) → ℕ → Option (Why × ℕ)
first_forced words zero = None
first_forced words (suc n) = option_or (first_forced words n) (option_map (λ why. (why, n)) (reason_at words n))

-- the place of the operand of an option at this place: in its word, or in the next
abbrev pub operand_place : Operand → ℕ → OutputPlace
operand_place (operand.Attached from) at = record { at = at; from = from }
operand_place _ at = record { at = suc at; from = 0 }

-- the place of the name of an output, by its option's part and place
abbrev pub output_place : Part → ℕ → OutputPlace
output_place (part.Word (role.Flag effect operand)) at = operand_place operand at
output_place _ at = operand_place operand.Next at

-- the place of the source
abbrev pub input_place : List (List ℕ) → ℕ
input_place words = unwrap_or (first_below (is_source words) (length words)) 0

-- how the command may be sent, if nothing keeps it here
abbrev pub plan_of : List (List ℕ) → Plan
plan_of words = record {
  action = if any_below (assembles words) (length words) then Assemble else Compile;
  input = input_place words;
  ending = unwrap_or (source_of (part_at words (input_place words))) C;
  output = option_map (λ at. output_place (part_at words at) at) (first_below (is_output_option words) (length words));
}

abbrev pub by_place : Option (Why × ℕ) → Verdict → Verdict
by_place (Some forced) later = verdict.Local forced.0 forced.1
by_place None later = later

abbrev pub by_end : Option Why → ℕ → Verdict → Verdict
by_end (Some why) at later = verdict.Local why at
by_end None at later = later

-- the class by places: the least place that gives a reason; else the first reason that the whole command gives; else how it
-- may be sent
abbrev pub verdict_of : List (List ℕ) → Verdict
verdict_of [] = verdict.Empty
verdict_of (word ∷ more) =
    let words = word ∷ more in
    by_place (first_forced words (length words))
    (by_end (slice_get (end_reasons words) 0) (length words) (verdict.Remote (plan_of words)))

-- this place is the least that gives a reason, and this is the first reason that it gives
pub record IsFirstReason (words : List (List ℕ)) (at : ℕ) (why : Why) : Type 0 where
  pub within : at < length words
  pub first : reason_at words at ≡ Some why
  pub before : (k : ℕ) → k < at → (other : Why) → ¬ Forces words k other

-- no place gives a reason, and this is the first that the whole command gives; its place is after the last word
pub record IsEndReason (words : List (List ℕ)) (at : ℕ) (why : Why) : Type 0 where
  pub behind : at ≡ length words
  pub places : NothingForces words
  pub first : slice_get (end_reasons words) 0 ≡ Some why

-- neither a place nor the whole command gives a reason
pub record IsUnforced (words : List (List ℕ)) : Type 0 where
  pub places : NothingForces words
  pub whole : end_reasons words ≡ []

-- the cause of each class
abbrev pub HasCause : List (List ℕ) → Verdict → Type 0
HasCause words verdict.Empty = words ≡ []
HasCause words (verdict.Local why at) = IsFirstReason words at why ⊎ IsEndReason words at why
HasCause words (verdict.Remote plan) = IsUnforced words

-- the name of the output
abbrev pub output_text : List (List ℕ) → Plan → Option OutputPlace → List ℕ
output_text words plan (Some place) = drop place.from (word_at words place.at)
output_text words plan None = derived_output plan.action (word_at words plan.input) plan.ending

abbrev pub scan_of : List (List ℕ) → Verdict → Scan
scan_of words verdict.Empty = scan.Empty
scan_of words (verdict.Local why at) = scan.Local why at
scan_of words (verdict.Remote plan) =
    scan.Remote plan.action plan.input (output_text words plan plan.output) (is_preprocessed plan.ending) (ext_of plan.ending)

-- the class of a command
abbrev pub class_of : List (List ℕ) → Scan
class_of words = scan_of words (verdict_of words)

-- this is the class of the command
abbrev pub ClassOf : List (List ℕ) → Scan → Type 0
ClassOf words scan = scan ≡ class_of words

abbrev pub is_remote_verdict : Verdict → Bool
is_remote_verdict (verdict.Remote plan) = true
is_remote_verdict _ = false

-- the command may be sent
abbrev pub IsRemote : List (List ℕ) → Type 0
IsRemote words = IsTrue (is_remote_verdict (verdict_of words))
