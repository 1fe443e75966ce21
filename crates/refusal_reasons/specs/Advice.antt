-- What is printed about words that are no command.
use Rattle.std.specs.Prelude.{ℕ, zero, suc, ◌||◌, Bool, List, [], ◌∷◌, length, codes, bytes_eq, nat_lt, if◌then◌else◌}
use Rattle.refusal_reasons.specs.declared.advice.Advice.{Advice}
use Rattle.refusal_reasons.specs.declared.advice.Advice.TheVariants.{NoCommand, HelpByOption, UnknownCommand, BehindOption, MissingWord}
use Rattle.refusal_reasons.specs.declared.advice.Advice.TheVariants.{UnfitWord}

-- other words for `--help`
abbrev pub asks_for_help : List ℕ → Bool
asks_for_help word =
    bytes_eq word (codes "help") || bytes_eq word (codes "-h") || bytes_eq word (codes "-help") || bytes_eq word (codes "-?")

-- words after which no other may be
abbrev pub behind_option : List ℕ → Bool
behind_option word = bytes_eq word (codes "--help") || bytes_eq word (codes "--version")

abbrev pub first_advice : List ℕ → Advice
first_advice word = if asks_for_help word then HelpByOption else UnknownCommand

abbrev pub later_advice : Bool → Bool → Advice
later_advice alone past = if alone then BehindOption else (if past then MissingWord else UnfitWord)

-- by the first word, and whether the place is that of a word
abbrev pub advice_on : List (List ℕ) → ℕ → Advice
advice_on [] place = NoCommand
advice_on (first ∷ more) zero = first_advice first
advice_on (first ∷ more) (suc place) = later_advice (behind_option first) (nat_lt (length more) (suc place))
