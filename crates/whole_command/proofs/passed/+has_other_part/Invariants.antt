use Rattle.std.proofs.Common.{length}
use Rattle.whole_command.proofs.passed.+has_other_part.Given as goal

abbrev pub decreases-has_other_part : goal.decreases-has_other_part
decreases-has_other_part l = length l.word.now
