-- Words as options.
use Rattle.std.proofs.Common.{◌≡◌, ℕ, ◌+◌, Bool, true, false, List, Result, Ok, Err, refl, ap, ◌∙◌, inl, inr}
use Rattle.std.specs.Prelude.{◌⊎◌}
use Rattle.option_reader.specs.Items.{Item}
use Rattle.option_reader.specs.Readings.{CanTell, OptionsRead as ItemsRead}
use Rattle.option_reader.proofs.Reading.{once, some_reading}
use Rattle.farm_options.specs.declared.name.CommandName.{CommandName}
use Rattle.farm_options.specs.Names.{option_named}
use Rattle.farm_options.specs.Options.{Given, value_fits, options_of, given_by, OptionsRead}

either_way : (b : Bool) → (b ≡ true) ⊎ (b ≡ true → ⊥)
either_way true = inl refl
either_way false = inr (λ is. cc is)

can_tell : (command : CommandName) → CanTell (options_of command)
can_tell command = λ before name value. either_way (value_fits (option_named name) value)

abbrev said : Result (List Item) ℕ → Result Given ℕ
said (Ok items) = Ok (given_by items)
said (Err at) = Err (1 + at)

read_by : (command : CommandName) (words : List (List ℕ)) (found : Result (List Item) ℕ) → ItemsRead (options_of command) words found
    → OptionsRead command words (said found)
read_by command words (Ok items) is = (items, is, refl)
read_by command words (Err at) is = (at, is, refl)

-- what words say as options
pub options_read : CommandName → List (List ℕ) → Result Given ℕ
options_read command words = said (some_reading (options_of command) (can_tell command) words).0

pub all_read : (command : CommandName) (words : List (List ℕ)) → OptionsRead command words (options_read command words)
unfolding options_read
all_read command words = let read = some_reading (options_of command) (can_tell command) words in read_by command words read.0 read.1

pub read_once : (command : CommandName) (words : List (List ℕ)) (read : Result Given ℕ) → OptionsRead command words read
    → read ≡ options_read command words
unfolding options_read
read_once command words (Ok says) is =
    let all = some_reading (options_of command) (can_tell command) words in
    ap Ok is.2 ∙ ap said (once (options_of command) words (Ok is.0) all.0 is.1 all.1)
read_once command words (Err place) is =
    let all = some_reading (options_of command) (can_tell command) words in
    ap Err is.2 ∙ ap said (once (options_of command) words (Err is.0) all.0 is.1 all.1)
