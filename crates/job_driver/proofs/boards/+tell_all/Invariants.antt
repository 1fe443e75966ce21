use Rattle.std.proofs.Common.{length}
use Rattle.job_driver.proofs.boards.+tell_all.Given as goal

abbrev pub decreases-tell_all : goal.decreases-tell_all
decreases-tell_all g l = length l.markers.now
