-- The choice that a selection makes.
use Rattle.std.specs.Option.{option_copied}
use Rattle.compile_database.specs.declared.choice.Selection.{Selection}
use Rattle.compile_database.specs.declared.options.Given as declared
use Rattle.compile_database.specs.Choices.{Choice}
use Rattle.compile_database.specs.Words as words

abbrev pub choice_of : Selection → Choice
choice_of selection = record { folder = option_copied selection.folder; from = selection.from; count = selection.count }

-- what options say, by what they point to
abbrev pub given : declared.Given → words.Given
given options = record { folder = option_copied options.folder; from = options.from; count = options.count }
