use Rattle.std.proofs.Common.{◌-◌, vec_len}
use Rattle.job_driver.proofs.workers.Reserve.new.Given as goal

abbrev pub decreases-taking : goal.decreases-taking
decreases-taking l = l.jobs - vec_len l.rooms
