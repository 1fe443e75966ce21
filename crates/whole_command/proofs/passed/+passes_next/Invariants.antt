use Rattle.std.proofs.Common.{length}
use Rattle.whole_command.proofs.passed.+passes_next.Given as goal

abbrev pub decreases-passes_next : goal.decreases-passes_next
decreases-passes_next l = length l.words.now
