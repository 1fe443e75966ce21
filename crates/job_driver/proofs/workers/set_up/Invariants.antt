use Rattle.std.proofs.Common.{◌≡◌, ◌+◌, ◌≤◌, ◌++◌, length, map, reverse, vec_len, vec_capacity}
use Rattle.job_driver.specs.Workers.{kit_of, pass_of, reserve_of}
use Rattle.job_driver.proofs.workers.set_up.Given as goal

abbrev pub invariant-loop-kit : goal.invariant-loop-kit
invariant-loop-kit g l = record {
  kits : l.kits.items ++ map kit_of (reverse l.workers.items) ≡ l.fn.kits.items;
  passes : l.passes.items ++ map pass_of (reverse l.workers.items) ≡ l.fn.passes.items;
  reserves : l.reserves.items ++ map reserve_of (reverse l.workers.items) ≡ l.fn.reserves.items;
  same : length l.passes.items ≡ length l.kits.items;
  same_desks : length l.reserves.items ≡ length l.kits.items;
  room : length l.kits.items + vec_len l.workers ≤ vec_capacity l.workers;
  kits_room : vec_len l.kits + vec_len l.workers ≤ vec_capacity l.kits;
  passes_room : vec_len l.passes + vec_len l.workers ≤ vec_capacity l.passes;
  desks_room : vec_len l.reserves + vec_len l.workers ≤ vec_capacity l.reserves;
  kept : vec_capacity l.kits ≡ vec_capacity l.fn.kits;
}

abbrev pub decreases-loop-kit : goal.decreases-loop-kit
decreases-loop-kit g l = vec_len l.kits
