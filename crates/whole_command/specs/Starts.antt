-- The program and the arguments that run a command as it is.
use Rattle.std.specs.Prelude.{ℕ, List, [], ◌∷◌, ◌++◌, codes, map, string_bytes}
use Rattle.std.specs.Fmt.{decimal}
use Rattle.std.specs.List.{flat_map}
use Rattle.whole_command.specs.declared.words.Descriptor.{Descriptor}
use Rattle.whole_command.specs.declared.words.Given.{Given}
use Rattle.whole_command.specs.declared.words.Given.TheVariants.{Words, OwnLine}
use Rattle.whole_command.specs.declared.words.Mode.{Mode}
use Rattle.whole_command.specs.declared.words.Mode.TheVariants.{Read, Write, Both}
use Rattle.whole_command.specs.declared.words.Whole.{Whole}

abbrev pub sign : Mode → List ℕ
sign Read = codes "<"
sign Write = codes ">>"
sign Both = codes "<>"

-- Opens a descriptor of this process again under its number. Without `command` a shell of POSIX's manner would end if that is refused.
abbrev pub opening_text : ℕ → ℕ → Mode → List ℕ
opening_text process number mode = codes "{ command exec " ++ decimal number ++ sign mode ++ codes "/proc/" ++ decimal process
    ++ codes "/fd/" ++ decimal number ++ codes "; } 2>/dev/null\n"

abbrev pub opening_texts : ℕ → List Descriptor → List ℕ
opening_texts process descriptors = flat_map (λ descriptor. opening_text process descriptor.number descriptor.mode) descriptors

-- Takes the words from the command line of this process, after its first two, if they aren't known.
abbrev pub taking_text : Given → ℕ → List ℕ
taking_text (Words words) process = []
taking_text OwnLine process = codes "mapfile -d '' -t words </proc/" ++ decimal process ++ codes "/cmdline; set -- \"${words[@]:2}\"\n"

-- Becomes the command, whose first word may look like an option.
abbrev pub becoming_text : List ℕ
becoming_text = codes "exec -- \"$@\"\n"

-- What the shell does.
abbrev pub start_text : Whole → List ℕ
start_text whole = opening_texts whole.process whole.descriptors.now ++ taking_text whole.given whole.process ++ becoming_text

-- By `-p` the shell takes nothing from the environment that would change what it does: no file, function or option.
abbrev pub shell_words : Whole → List (List ℕ) → List (List ℕ)
shell_words whole words = codes "bash" ∷ codes "-p" ∷ codes "-c" ∷ start_text whole ∷ codes "farm" ∷ words

-- A command with known words and nothing to hand on is started by its own words, any other by the shell.
abbrev pub words_by : Whole → List (List ℕ) → List Descriptor → List (List ℕ)
words_by whole (program ∷ arguments) [] = program ∷ arguments
words_by whole (program ∷ arguments) (first ∷ others) = shell_words whole (program ∷ arguments)
words_by whole [] descriptors = shell_words whole []

abbrev pub words_given : Whole → Given → List (List ℕ)
words_given whole (Words words) = words_by whole (map string_bytes words.now) whole.descriptors.now
words_given whole OwnLine = shell_words whole []

abbrev pub start_words : Whole → List (List ℕ)
start_words whole = words_given whole whole.given
