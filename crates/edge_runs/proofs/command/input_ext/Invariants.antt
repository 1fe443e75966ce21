use Rattle.std.proofs.Common.{◌≡◌, None, take}
use Rattle.edge_runs.specs.Commands.{first_input}
use Rattle.edge_runs.proofs.command.input_ext.Given as goal

abbrev pub invariant-loop-word : goal.invariant-loop-word
invariant-loop-word l = first_input (take l.word-index l.words) ≡ None
