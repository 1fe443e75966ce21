use Rattle.std.proofs.Common.{length}
use Rattle.whole_command.proofs.clang.+is_clang.Given as goal

abbrev pub decreases-is_clang : goal.decreases-is_clang
decreases-is_clang l = length l.name.now
