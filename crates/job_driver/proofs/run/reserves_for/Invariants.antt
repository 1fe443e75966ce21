use Rattle.std.proofs.Common.{◌-◌, ◌≤◌, length, vec_len}
use Rattle.std.specs.Prelude.{All}
use Rattle.job_driver.specs.Workers.{HasRoom}
use Rattle.job_driver.proofs.run.reserves_for.Given as goal

abbrev pub invariant-filling : goal.invariant-filling
invariant-filling l = record {
  few : length l.reserves.items ≤ l.workers;
  room : All (λ reserve. HasRoom l.jobs reserve) l.reserves.items;
}

abbrev pub decreases-filling : goal.decreases-filling
decreases-filling l = l.workers - vec_len l.reserves
