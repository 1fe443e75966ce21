use Rattle.std.proofs.Common.{◌≡◌, ◌+◌, ◌≤◌, ◌++◌, length, vec_len, vec_capacity}
use Rattle.std.specs.List.{flat_map}
use Rattle.daemon_worker.specs.Workers.{log_of}
use Rattle.daemon_worker.proofs.moving.join_logs.Given as goal

abbrev pub invariant-joining : goal.invariant-joining
invariant-joining g l = record {
  items : l.log.items ++ flat_map log_of l.rest ≡ l.fn.log.items ++ flat_map log_of l.fn.workers;
  room : vec_len l.log + length (flat_map log_of l.rest) ≤ vec_capacity l.log;
}

abbrev pub decreases-joining : goal.decreases-joining
decreases-joining g l = length l.rest
