use Rattle.std.proofs.Common.{◌≡◌, ◌+◌, ◌≤◌, ◌++◌, map, reverse, vec_len, vec_capacity}
use Rattle.job_driver.specs.Workers.{kit_of, pass_of, reserve_of}
use Rattle.job_driver.proofs.workers.take_down.Given as goal

abbrev pub invariant-loop-worker : goal.invariant-loop-worker
invariant-loop-worker g l = record {
  kits : l.kits.items ++ reverse (map kit_of l.workers.items) ≡ reverse (map kit_of l.fn.workers.items);
  passes : l.passes.items ++ reverse (map pass_of l.workers.items) ≡ reverse (map pass_of l.fn.workers.items);
  reserves : l.reserves.items ++ reverse (map reserve_of l.workers.items) ≡ reverse (map reserve_of l.fn.workers.items);
  kits_room : vec_len l.kits + vec_len l.workers ≤ vec_capacity l.kits;
  passes_room : vec_len l.passes + vec_len l.workers ≤ vec_capacity l.passes;
  desks_room : vec_len l.reserves + vec_len l.workers ≤ vec_capacity l.reserves;
  kept : vec_capacity l.fn.kits ≤ vec_capacity l.kits;
}

abbrev pub decreases-loop-worker : goal.decreases-loop-worker
decreases-loop-worker g l = vec_len l.workers
