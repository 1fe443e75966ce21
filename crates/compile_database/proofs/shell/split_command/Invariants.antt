use Rattle.std.proofs.Common.{◌≡◌, drop}
use Rattle.compile_database.specs.Shell.{shell_words}
use Rattle.compile_database.specs.Rests.{rest_words}
use Rattle.compile_database.proofs.shell.split_command.Given as goal

abbrev pub invariant-each : goal.invariant-each
invariant-each l = shell_words l.text ≡ rest_words l.splitter (drop l.byte-index l.text)
