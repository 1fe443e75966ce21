use Rattle.std.proofs.Common.{vec_len}
use Rattle.job_driver.proofs.boards.end_boards.Given as goal

abbrev pub decreases-loop-marker : goal.decreases-loop-marker
decreases-loop-marker g l = vec_len l.markers
