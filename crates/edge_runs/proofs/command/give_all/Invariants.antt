use Rattle.std.proofs.Common.{◌≡◌, ◌++◌, map, take}
use Rattle.std.specs.List.{AllWithin}
use Rattle.std.specs.Process.{command_program, command_args, SameEnv, SameDir}
use Rattle.edge_runs.specs.Commands.{given_word, CanBeGiven}
use Rattle.edge_runs.proofs.command.give_all.Given as goal

abbrev pub invariant-loop-word : goal.invariant-loop-word
invariant-loop-word l = record {
  program : command_program l.command ≡ command_program l.fn.command;
  arguments : command_args l.command ≡ command_args l.fn.command ++ map (given_word l.source l.object) (take l.word-index l.words);
  environment : SameEnv l.fn.command l.command;
  folder : SameDir l.fn.command l.command;
  given : AllWithin CanBeGiven l.words 0 l.word-index;
}
