-- The options of a command, by the words that they are.
use Rattle.std.specs.Prelude.{◌≡◌, ℕ, ◌+◌, Bool, true, false, not, List, Option, Some, None, is_some, unwrap_or, Result, Ok, Err}
use Rattle.std.specs.Prelude.{if◌then◌else◌}
use Rattle.std.specs.Option.{option_and_then, option_copied}
use Rattle.farm_types.specs.Limits.{workers_default}
use Rattle.option_reader.specs.declared.table.Row.{Row}
use Rattle.option_reader.specs.Items.{Item, stands_in, value_in}
use Rattle.option_reader.specs.Tables.{Table}
use Rattle.option_reader.specs.Readings.{AreOptions, BadOptionAt}
use Rattle.farm_options.specs.declared.name.CommandName.{CommandName}
use Rattle.farm_options.specs.declared.name.OptionName.{OptionName}
use Rattle.farm_options.specs.declared.name.OptionName.TheVariants as option
use Rattle.farm_options.specs.declared.options.Options.{Options}
use Rattle.farm_options.specs.Limits.{tries_default, lines_default}
use Rattle.farm_options.specs.Names.{option_text, option_named, takes_value, has_option}
use Rattle.farm_options.specs.Numbers.{workers_number, tries_number, lines_number}

-- what options say
pub record Given : Type 0 where
  pub hosts : Option (List ℕ)
  pub workers : Option ℕ
  pub tries : Option ℕ
  pub lines : Option ℕ
  pub fallback : Bool
  pub retry : Bool

-- what is given in these
abbrev pub given_in : Options → Given
given_in options = record {
  hosts = option_copied options.hosts;
  workers = options.workers;
  tries = options.tries;
  lines = options.lines;
  fallback = options.fallback;
  retry = options.retry;
}

-- the number of workers, and of exchanges that a job may make
abbrev pub worker_count : Given → ℕ
worker_count given = unwrap_or given.workers workers_default

abbrev pub try_count : Given → ℕ
try_count given = unwrap_or given.tries tries_default

-- how many lines show a build while it runs
abbrev pub line_count : Given → ℕ
line_count given = unwrap_or given.lines lines_default

-- ---- the options by their words

-- what is known of an option of the command; none may be given twice
abbrev pub row_of : CommandName → Option OptionName → Option Row
row_of command None = None
row_of command (Some name) = if has_option command name then Some (record { takes_value = takes_value name; repeats = false }) else None

-- the word may be the value of this option
abbrev pub value_fits : Option OptionName → List ℕ → Bool
value_fits (Some option.Hosts) word = true
value_fits (Some option.Workers) word = is_some (workers_number word)
value_fits (Some option.Tries) word = is_some (tries_number word)
value_fits (Some option.Lines) word = is_some (lines_number word)
value_fits _ word = false

-- the options of a command
abbrev pub options_of : CommandName → Table
options_of command = record {
  known = λ word. row_of command (option_named word);
  Fits = λ before name value. value_fits (option_named name) value ≡ true;
}

-- what these options say
abbrev pub given_by : List Item → Given
given_by items = record {
  hosts = value_in (option_text option.Hosts) items;
  workers = option_and_then workers_number (value_in (option_text option.Workers) items);
  tries = option_and_then tries_number (value_in (option_text option.Tries) items);
  lines = option_and_then lines_number (value_in (option_text option.Lines) items);
  fallback = not (stands_in (option_text option.NoFallback) items);
  retry = not (stands_in (option_text option.NoRetry) items);
}

-- What words say as options; or the place, on the command line, of the first that doesn't fit. The first of these words is at place 1.
abbrev pub OptionsRead : CommandName → List (List ℕ) → Result Given ℕ → Type 0
OptionsRead command words (Ok says) = (items : List Item) × AreOptions (options_of command) words items × (says ≡ given_by items)
OptionsRead command words (Err place) = (at : ℕ) × BadOptionAt (options_of command) words at × (place ≡ 1 + at)

abbrev pub options_meant : Result Options ℕ → Result Given ℕ
options_meant (Ok options) = Ok (given_in options)
options_meant (Err place) = Err place
