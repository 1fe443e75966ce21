-- The commands of `farm`, by their words.
use Rattle.std.specs.Prelude.{◌≡◌, ℕ, ◌+◌, ◌==◌, nat_le, Bool, false, ◌&&◌, ◌||◌, not, List, [], ◌∷◌, length, map, string_bytes, codes}
use Rattle.std.specs.Prelude.{bytes_eq, Option, Some, None, Result, Ok, Err, MatchBool, if◌then◌else◌}
use Rattle.std.specs.Option.{option_copied}
use Rattle.farm_options.specs.declared.name.CommandName.{CommandName}
use Rattle.farm_options.specs.declared.name.CommandName.TheVariants as name
use Rattle.farm_options.specs.declared.name.FirstWord.{FirstWord}
use Rattle.farm_options.specs.declared.name.FirstWord.TheVariants as first
use Rattle.farm_options.specs.declared.command.Command.{Command}
use Rattle.farm_options.specs.declared.command.Command.TheVariants as command
use Rattle.farm_options.specs.Names.{first_word_named, takes_any_words}
use Rattle.farm_options.specs.Numbers.{jobs_number}
use Rattle.farm_options.specs.Options.{Given, given_in, OptionsRead}

-- what a command is to do
pub data Meaning : Type 0 where
  Build : Given → Meaning
  Watch : Given → Meaning
  Graph : Given → Meaning
  Cc : List (List ℕ) → Meaning
  Hosts : Option (List ℕ) → Meaning
  Scan : List (List ℕ) → Meaning
  Rehearse : ℕ → Meaning
  Help : Option CommandName → Meaning
  Version : Meaning

abbrev pub meaning : Command → Meaning
meaning (command.Build options) = Build (given_in options)
meaning (command.Watch options) = Watch (given_in options)
meaning (command.Graph options) = Graph (given_in options)
meaning (command.Cc words) = Cc (map string_bytes words.now)
meaning (command.Hosts hosts) = Hosts (option_copied hosts)
meaning (command.Scan words) = Scan (map string_bytes words.now)
meaning (command.Rehearse jobs) = Rehearse jobs
meaning (command.Help name) = Help name
meaning command.Version = Version

abbrev pub command_meant : Result Command ℕ → Result Meaning ℕ
command_meant (Ok found) = Ok (meaning found)
command_meant (Err place) = Err place

-- the meaning, if at most this many words follow the first of the command line; else the place of the first word too many
abbrev pub at_most : ℕ → Meaning → List (List ℕ) → Result Meaning ℕ
at_most most meant words = if nat_le (length words) most then Ok meant else Err (1 + most)

-- the meaning, if at least one word follows the command's name; else place 1
abbrev pub at_least_one : Meaning → List (List ℕ) → Result Meaning ℕ
at_least_one meant words = if length words == 0 then Err 1 else Ok meant

-- a number of jobs, and no word after it
abbrev pub counted : Option ℕ → List (List ℕ) → Result Meaning ℕ
counted None words = Err 1
counted (Some jobs) words = at_most 1 (Rehearse jobs) words

abbrev pub rehearse_words : List (List ℕ) → Result Meaning ℕ
rehearse_words [] = Err 1
rehearse_words (word ∷ words) = counted (jobs_number word) (word ∷ words)

abbrev pub with_options : (Given → Meaning) → Result Given ℕ → Result Meaning ℕ
with_options meant (Ok options) = Ok (meant options)
with_options meant (Err place) = Err place

-- a command with the options that the words after its name are
abbrev pub OptionCommand : CommandName → (Given → Meaning) → List (List ℕ) → Result Meaning ℕ → Type 0
OptionCommand name meant words answer = (read : Result Given ℕ) × OptionsRead name words read × (answer ≡ with_options meant read)

-- a command by the words after its name
abbrev pub NamedCommand : CommandName → List (List ℕ) → Result Meaning ℕ → Type 0
NamedCommand name.Build words answer = OptionCommand name.Build Build words answer
NamedCommand name.Watch words answer = OptionCommand name.Watch Watch words answer
NamedCommand name.Graph words answer = OptionCommand name.Graph Graph words answer
NamedCommand name.Cc words answer = answer ≡ at_least_one (Cc words) words
NamedCommand name.Hosts words answer = OptionCommand name.Hosts (λ options. Hosts options.hosts) words answer
NamedCommand name.Scan words answer = answer ≡ at_least_one (Scan words) words
NamedCommand name.Rehearse words answer = answer ≡ rehearse_words words

-- the word after a command's name is `--help`; if any words may follow the name, `--help` is the only one
abbrev pub is_help_first : CommandName → List ℕ → ℕ → Bool
is_help_first name word more = bytes_eq word (codes "--help") && ((more == 0) || not (takes_any_words name))

abbrev pub asks_help : CommandName → List (List ℕ) → Bool
asks_help name [] = false
asks_help name (word ∷ more) = is_help_first name word (length more)

-- what the first word asks for, with the others after it
abbrev pub ByFirstWord : Option FirstWord → List (List ℕ) → Result Meaning ℕ → Type 0
ByFirstWord None words answer = answer ≡ Err 0
ByFirstWord (Some first.Help) words answer = answer ≡ at_most 0 (Help None) words
ByFirstWord (Some first.Version) words answer = answer ≡ at_most 0 Version words
ByFirstWord (Some (first.Name name)) words answer =
    MatchBool (asks_help name words) (answer ≡ at_most 1 (Help (Some name)) words) (NamedCommand name words answer)

-- what the words of `farm` mean, or the place of the first that doesn't fit; that of a missing word is their number
abbrev pub WordsRead : List (List ℕ) → Result Meaning ℕ → Type 0
WordsRead [] answer = answer ≡ Err 0
WordsRead (word ∷ words) answer = ByFirstWord (first_word_named word) words answer

-- the words are this command
abbrev pub IsCommand : List (List ℕ) → Meaning → Type 0
IsCommand words meant = WordsRead words (Ok meant)

-- the words are no command, and this is the place of the first that doesn't fit
abbrev pub BadAt : List (List ℕ) → ℕ → Type 0
BadAt words place = WordsRead words (Err place)
