-- What is reported or refused of a command before it is done.
use Rattle.std.specs.Prelude.{ℕ, Bool, true, false, List, length, Option, Some, None, is_some, if◌then◌else◌}
use Rattle.arg_scan.specs.declared.part.Role.TheVariants as role
use Rattle.arg_scan.specs.declared.part.Part.{Part}
use Rattle.arg_scan.specs.declared.part.Part.TheVariants as part
use Rattle.arg_scan.specs.Roles.{word_at, part_at}
use Rattle.arg_scan.specs.Forces.{any_below}
use Rattle.arg_scan.specs.Class.{plan_of}
use Rattle.arg_strip.specs.Words.{output_of}
use Rattle.arg_strip.specs.declared.overwriting.Names.{Names}

-- the word `-` in a place where an option may be
abbrev pub is_dash : Part → Bool
is_dash (part.Word role.Dash) = true
is_dash _ = false

-- some word names the standard input as a file
abbrev pub reads_input : List (List ℕ) → Bool
reads_input words = any_below (λ at. is_dash (part_at words at)) (length words)

-- the word of the source and the name of the output, if one is named
abbrev pub names_of : List (List ℕ) → Option Names
names_of words =
    if is_some (plan_of words).output
    then Some (record { source = word_at words (plan_of words).input; output = output_of words })
    else None
