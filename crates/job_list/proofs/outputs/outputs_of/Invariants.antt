use Rattle.std.proofs.Common.{◌≡◌, take}
use Rattle.std.specs.Prelude.{map}
use Rattle.job_list.specs.Outputs.{command_output}
use Rattle.job_list.proofs.outputs.outputs_of.Given as goal

abbrev pub invariant-loop-words : goal.invariant-loop-words
invariant-loop-words l = l.outputs.items ≡ map command_output (take l.words-index l.words-items)
