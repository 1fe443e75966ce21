use Rattle.std.proofs.Common.{length}
use Rattle.whole_command.proofs.gcc.+is_gcc.Given as goal

abbrev pub decreases-is_gcc : goal.decreases-is_gcc
decreases-is_gcc l = length l.name.now
