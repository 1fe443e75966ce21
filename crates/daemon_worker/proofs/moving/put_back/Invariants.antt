use Rattle.std.proofs.Common.{◌≡◌, ◌+◌, ◌≤◌, ◌++◌, map, reverse, vec_len, vec_capacity}
use Rattle.daemon_worker.specs.Workers.{kit_of}
use Rattle.daemon_worker.proofs.moving.put_back.Given as goal

abbrev pub invariant-moving : goal.invariant-moving
invariant-moving g l = record {
  kits : l.doors.items ++ reverse (map kit_of l.workers.items) ≡ l.fn.doors.items ++ reverse (map kit_of l.fn.workers.items);
  room : vec_len l.doors + vec_len l.workers ≤ vec_capacity l.doors;
}

abbrev pub decreases-moving : goal.decreases-moving
decreases-moving g l = vec_len l.workers
