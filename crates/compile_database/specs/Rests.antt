-- The words of what is left of a command, by what was read of it.
use Rattle.std.specs.Prelude.{ℕ, List, Option}
use Rattle.compile_database.specs.declared.shell.Splitter.{Splitter}
use Rattle.compile_database.specs.Shell.{words_from}

abbrev pub rest_words : Splitter → List ℕ → Option (List (List ℕ))
rest_words splitter rest = words_from splitter.mode splitter.words splitter.word rest
