-- The words of `farm_jobs`.
use Rattle.std.specs.Prelude.{◌≡◌, ℕ, List, codes, bytes_eq, Bool, true, false, if◌then◌else◌, Option, Some, None, is_some, unwrap_or}
use Rattle.std.specs.Prelude.{Result, Ok, Err}
use Rattle.std.specs.Option.{option_and_then}
use Rattle.farm_types.specs.Decimals.{plain_decimal_of}
use Rattle.farm_types.specs.Limits.{jobs_max}
use Rattle.option_reader.specs.declared.table.Row.{Row}
use Rattle.option_reader.specs.Items.{Item, value_in}
use Rattle.option_reader.specs.Tables.{Table}
use Rattle.option_reader.specs.Readings.{AreOptions, BadOptionAt}
use Rattle.compile_database.specs.declared.options.OptionName.{OptionName}
use Rattle.compile_database.specs.declared.options.OptionName.TheVariants.{Folder, From, Count}
use Rattle.compile_database.specs.Choices.{Choice}

-- ---- numbers

-- the number that a word spells in 1 to 9 decimal digits, without a leading zero
abbrev pub number_of : List ℕ → Option ℕ
number_of word = plain_decimal_of 9 0 999999999 word

-- how many entries are taken: 1 to 512
abbrev pub count_of : List ℕ → Option ℕ
count_of word = plain_decimal_of 3 1 jobs_max word

-- ---- options

-- what options say
pub record Given : Type 0 where
  pub folder : Option (List ℕ)
  pub from : Option ℕ
  pub count : Option ℕ

-- the option that a word names
abbrev pub option_of : List ℕ → Option OptionName
option_of word =
    if bytes_eq word (codes "--folder") then Some Folder
    else if bytes_eq word (codes "--from") then Some From
    else if bytes_eq word (codes "--count") then Some Count
    else None

-- what is known of an option: each has a value, and is at most once
abbrev pub row_of : Option OptionName → Option Row
row_of None = None
row_of (Some name) = Some (record { takes_value = true; repeats = false })

-- the word may be the value of this option
abbrev pub value_fits : Option OptionName → List ℕ → Bool
value_fits (Some Folder) word = true
value_fits (Some From) word = is_some (number_of word)
value_fits (Some Count) word = is_some (count_of word)
value_fits None word = false

-- the options of `farm_jobs`
abbrev pub options : Table
options = record {
  known = λ word. row_of (option_of word);
  Fits = λ before name value. value_fits (option_of name) value ≡ true;
}

-- what these options say
abbrev pub given_by : List Item → Given
given_by items = record {
  folder = value_in (codes "--folder") items;
  from = option_and_then number_of (value_in (codes "--from") items);
  count = option_and_then count_of (value_in (codes "--count") items);
}

-- the entries that are taken by these options: from the first on, if nothing else is said
abbrev pub choice_by : Given → Choice
choice_by given = record { folder = given.folder; from = unwrap_or given.from 0; count = given.count }

-- the words are options, and say that these entries are taken
abbrev pub Chooses : List (List ℕ) → Choice → Type 0
Chooses words choice = (items : List Item) × AreOptions options words items × (choice ≡ choice_by (given_by items))

-- the words are no options, and this is the place, from 0, of the first that doesn't fit; that of a missing word is after the last
abbrev pub BadWordsAt : List (List ℕ) → ℕ → Type 0
BadWordsAt words place = BadOptionAt options words place

-- the entries that words take, or the place of the first word that doesn't fit
abbrev pub WordsRead : List (List ℕ) → Result Choice ℕ → Type 0
WordsRead words (Ok choice) = Chooses words choice
WordsRead words (Err place) = BadWordsAt words place
