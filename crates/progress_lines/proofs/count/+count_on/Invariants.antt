use Rattle.std.proofs.Common.{length}
use Rattle.progress_lines.proofs.count.+count_on.Given as goal

abbrev pub decreases-count_on : goal.decreases-count_on
decreases-count_on l = length l.watchers.now
