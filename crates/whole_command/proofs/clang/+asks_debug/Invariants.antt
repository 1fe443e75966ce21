use Rattle.std.proofs.Common.{length}
use Rattle.whole_command.proofs.clang.+asks_debug.Given as goal

abbrev pub decreases-asks_debug : goal.decreases-asks_debug
decreases-asks_debug l = length l.words.now
