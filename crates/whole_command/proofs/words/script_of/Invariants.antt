use Rattle.std.proofs.Common.{◌≡◌, string_bytes, take}
use Rattle.whole_command.specs.Starts.{opening_texts}
use Rattle.whole_command.proofs.words.script_of.Given as goal

abbrev pub invariant-loop-descriptor : goal.invariant-loop-descriptor
invariant-loop-descriptor l = string_bytes l.script ≡ opening_texts l.whole.process (take l.descriptor-index l.whole.descriptors.now)
