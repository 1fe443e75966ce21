use Rattle.std.proofs.Common.{length}
use Rattle.sample_compiler.specs.Meanings.{meanings}
use Rattle.sample_compiler.proofs.GatherLemmas.{Gathers}
use Rattle.sample_compiler.proofs.task.gather.Given as goal

abbrev pub invariant-reading : goal.invariant-reading
invariant-reading l = Gathers l.gathered (meanings l.rest) (meanings l.words)

abbrev pub decreases-reading : goal.decreases-reading
decreases-reading l = length l.rest
