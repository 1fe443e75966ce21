-- What makes a command stay on this machine: each place by itself.
use Rattle.std.specs.Prelude.{ℕ, zero, suc, ◌+◌, ◌<◌, Bool, true, false, not, ◌&&◌, ◌||◌, ◌==◌, List, [], ◌∷◌, ◌++◌, length, drop, codes}
use Rattle.std.specs.Prelude.{Option, None, Some, is_some, bytes_eq, if◌then◌else◌, Contains}
use Rattle.std.specs.Option.{option_or, option_to_list}
use Rattle.option_table.specs.declared.row.Effect.{Effect}
use Rattle.option_table.specs.declared.row.Effect.TheVariants as effect
use Rattle.option_table.specs.Listing.{is_listing}
use Rattle.option_table.specs.Reasons as reason
use Rattle.arg_scan.specs.declared.why.Why.{Why}
use Rattle.arg_scan.specs.declared.why.Why.TheVariants as why
use Rattle.arg_scan.specs.declared.names.Ending.{Ending}
use Rattle.arg_scan.specs.declared.part.Operand.{Operand}
use Rattle.arg_scan.specs.declared.part.Operand.TheVariants as operand
use Rattle.arg_scan.specs.declared.part.Role.TheVariants as role
use Rattle.arg_scan.specs.declared.part.Part.{Part}
use Rattle.arg_scan.specs.declared.part.Part.TheVariants as part
use Rattle.arg_scan.specs.declared.verdict.Action.{Action}
use Rattle.arg_scan.specs.declared.verdict.Action.TheVariants.{Compile, Assemble}
use Rattle.arg_scan.specs.Names.{is_conftest, is_reserved}
use Rattle.arg_scan.specs.Roles.{word_at, part_at}

-- the least place below n that passes the test
abbrev pub first_below : (ℕ → Bool) → ℕ → Option ℕ
first_below test zero = None
first_below test (suc n) = option_or (first_below test n) (if test n then Some n else None)

-- whether some place below n passes the test
abbrev pub any_below : (ℕ → Bool) → ℕ → Bool
any_below test n = is_some (first_below test n)

-- the reasons by their numbers
abbrev pub why_of : ℕ → Option Why
why_of number =
    if number == reason.no_action then Some why.NoAction
    else (if number == reason.both_actions then Some why.BothActions
    else (if number == reason.preprocess then Some why.Preprocess
    else (if number == reason.depend then Some why.Depend
    else (if number == reason.no_input then Some why.NoInput
    else (if number == reason.many_inputs then Some why.ManyInputs
    else (if number == reason.native then Some why.Native
    else (if number == reason.profile then Some why.Profile
    else (if number == reason.repo then Some why.Repo
    else (if number == reason.specs then Some why.Specs
    else (if number == reason.language then Some why.Language
    else (if number == reason.save_temps then Some why.SaveTemps
    else (if number == reason.dump then Some why.Dump
    else (if number == reason.asm_listing then Some why.AsmListing
    else (if number == reason.response_file then Some why.ResponseFile
    else (if number == reason.conftest then Some why.Conftest
    else (if number == reason.standard_stream then Some why.StandardStream
    else (if number == reason.missing_operand then Some why.MissingOperand
    else (if number == reason.many_outputs then Some why.ManyOutputs
    else (if number == reason.other_word then Some why.OtherWord
    else (if number == reason.side_file then Some why.SideFile
    else (if number == reason.reserved_name then Some why.ReservedName
    else None)))))))))))))))))))))

-- the number of a reason
abbrev pub reason_number : Why → ℕ
reason_number why.NoAction = reason.no_action
reason_number why.BothActions = reason.both_actions
reason_number why.Preprocess = reason.preprocess
reason_number why.Depend = reason.depend
reason_number why.NoInput = reason.no_input
reason_number why.ManyInputs = reason.many_inputs
reason_number why.Native = reason.native
reason_number why.Profile = reason.profile
reason_number why.Repo = reason.repo
reason_number why.Specs = reason.specs
reason_number why.Language = reason.language
reason_number why.SaveTemps = reason.save_temps
reason_number why.Dump = reason.dump
reason_number why.AsmListing = reason.asm_listing
reason_number why.ResponseFile = reason.response_file
reason_number why.Conftest = reason.conftest
reason_number why.StandardStream = reason.standard_stream
reason_number why.MissingOperand = reason.missing_operand
reason_number why.ManyOutputs = reason.many_outputs
reason_number why.OtherWord = reason.other_word
reason_number why.SideFile = reason.side_file
reason_number why.ReservedName = reason.reserved_name

-- the words that are sources, output options, and options that ask for each action
abbrev pub source_of : Part → Option Ending
source_of (part.Word (role.Source ending)) = Some ending
source_of _ = None

abbrev pub is_source : List (List ℕ) → ℕ → Bool
is_source words at = is_some (source_of (part_at words at))

abbrev pub names_output : Part → Bool
names_output (part.Word (role.Flag effect.Output operand)) = true
names_output _ = false

abbrev pub is_output_option : List (List ℕ) → ℕ → Bool
is_output_option words at = names_output (part_at words at)

abbrev pub action_of : Part → List ℕ → Option Action
action_of (part.Word (role.Flag effect.Action operand)) word =
    Some (if bytes_eq word (codes "-S") then Assemble else Compile)
action_of _ word = None

abbrev pub asks_compile : Option Action → Bool
asks_compile (Some Compile) = true
asks_compile _ = false

abbrev pub asks_assemble : Option Action → Bool
asks_assemble (Some Assemble) = true
asks_assemble _ = false

abbrev pub compiles : List (List ℕ) → ℕ → Bool
compiles words at = asks_compile (action_of (part_at words at) (word_at words at))

abbrev pub assembles : List (List ℕ) → ℕ → Bool
assembles words at = asks_assemble (action_of (part_at words at) (word_at words at))

-- a reason if the test holds
abbrev pub when : Bool → Why → List Why
when true reason = reason ∷ []
when false reason = []

-- the reasons that an output's name gives
abbrev pub output_reasons : List ℕ → List Why
output_reasons name = when (bytes_eq name (codes "-")) why.StandardStream ++ when (is_reserved name) why.ReservedName

-- the reasons that an output's name gives in the option's own word
abbrev pub attached_reasons : Operand → List ℕ → List Why
attached_reasons (operand.Attached from) word = output_reasons (drop from word)
attached_reasons _ word = []

-- the reasons that an option gives. `again`: an output was named before
abbrev pub effect_reasons : Effect → Operand → List ℕ → Bool → List Why
effect_reasons effect.Keep operand word again = []
effect_reasons effect.Strip operand word again = []
effect_reasons effect.Action operand word again = []
effect_reasons effect.Output operand word again = when again why.ManyOutputs ++ attached_reasons operand word
effect_reasons (effect.Local number) operand word again = option_to_list (why_of number)
effect_reasons effect.Listing operand word again = when (is_listing word) why.AsmListing

abbrev pub misses_operand : Operand → Bool → Bool
misses_operand operand.Next last = last
misses_operand _ last = false

-- the reasons that a word gives, in the order in which they count. `last`: no word follows; `source`, `output`: a source,
-- or an output option, is before it
abbrev pub part_reasons : Part → List ℕ → Bool → Bool → Bool → List Why
part_reasons part.Compiler word last source output = []
part_reasons (part.Operand effect.Output) word last source output = output_reasons word
part_reasons (part.Operand _) word last source output = []
part_reasons (part.Word role.Dash) word last source output = why.StandardStream ∷ []
part_reasons (part.Word (role.Flag effect operand)) word last source output =
    when (misses_operand operand last) why.MissingOperand ++ effect_reasons effect operand word output
part_reasons (part.Word role.Response) word last source output = why.ResponseFile ∷ []
part_reasons (part.Word (role.Source _)) word last source output =
    when source why.ManyInputs ++ when (is_conftest word) why.Conftest
part_reasons (part.Word role.Other) word last source output = why.OtherWord ∷ []

-- the reasons that the word at a place gives, in the order in which they count
abbrev pub reasons_at : List (List ℕ) → ℕ → List Why
reasons_at words at =
    part_reasons (part_at words at) (word_at words at) (at + 1 == length words)
    (any_below (is_source words) at) (any_below (is_output_option words) at)

-- the word at a place gives this reason
abbrev pub Forces : List (List ℕ) → ℕ → Why → Type 0
Forces words at why = Contains (reasons_at words at) why

-- no word gives a reason
abbrev pub NothingForces : List (List ℕ) → Type 0
NothingForces words = (k : ℕ) → k < length words → (why : Why) → ¬ Forces words k why

-- the reasons that the whole command gives, in their order
abbrev pub end_reasons : List (List ℕ) → List Why
end_reasons words =
    let compile = any_below (compiles words) (length words) in
    let assemble = any_below (assembles words) (length words) in
    when (not (compile || assemble)) why.NoAction
    ++ when (compile && assemble) why.BothActions
    ++ when (not (any_below (is_source words) (length words))) why.NoInput
