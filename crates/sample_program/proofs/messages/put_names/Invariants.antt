use Rattle.std.proofs.Common.{◌≡◌, ◌++◌, take}
use Rattle.sample_program.specs.Links.{listed}
use Rattle.sample_program.proofs.messages.put_names.Given as goal

abbrev pub invariant-loop-name : goal.invariant-loop-name
invariant-loop-name l = l.text ≡ l.fn.text ++ listed (take l.name-index l.names)
