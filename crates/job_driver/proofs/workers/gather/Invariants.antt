use Rattle.std.proofs.Common.{◌≡◌, ◌+◌, ◌≤◌, ◌++◌, length, reverse, vec_len, vec_capacity}
use Rattle.std.specs.List.{flat_map}
use Rattle.job_driver.specs.Workers.{reports_on}
use Rattle.job_driver.proofs.workers.gather.Given as goal

abbrev pub invariant-loop-reserve : goal.invariant-loop-reserve
invariant-loop-reserve l = record {
  reports : l.reports.items ++ flat_map reports_on (reverse l.reserves.items) ≡ flat_map reports_on (reverse l.fn.reserves.items);
  room : vec_len l.reports + length (flat_map reports_on l.reserves.items) ≤ vec_capacity l.reports;
}

abbrev pub decreases-loop-reserve : goal.decreases-loop-reserve
decreases-loop-reserve l = vec_len l.reserves
