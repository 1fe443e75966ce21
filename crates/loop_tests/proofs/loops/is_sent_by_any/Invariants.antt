use Rattle.std.proofs.Common.{length}
use Rattle.loop_tests.proofs.loops.is_sent_by_any.Given as goal

abbrev pub decreases-looking : goal.decreases-looking
decreases-looking l = length l.kits.items
