use Rattle.std.proofs.Common.{◌≡◌, ◌+◌, ◌≤◌, ◌++◌, length, map, reverse, vec_len, vec_capacity}
use Rattle.std.specs.Prelude.{All}
use Rattle.daemon_worker.specs.Workers.{IsReady, IsRoom, kit_of}
use Rattle.daemon_worker.proofs.moving.take_kits.Given as goal

abbrev pub invariant-moving : goal.invariant-moving
invariant-moving g l = record {
  kits : l.doors.items ++ reverse (map kit_of l.workers.items) ≡ reverse l.fn.doors.items;
  left : length l.logs.items ≤ length l.doors.items;
  many : length l.workers.items + length l.logs.items ≡ length l.fn.logs.items;
  rooms : All (λ log. IsRoom l.serve log.items (vec_len log) (vec_capacity log)) l.logs.items;
  ready : All (λ worker. IsReady l.serve worker) l.workers.items;
  space : vec_len l.logs + vec_len l.workers ≤ vec_capacity l.workers;
  back : vec_len l.doors + vec_len l.workers ≤ vec_capacity l.doors;
}

abbrev pub decreases-moving : goal.decreases-moving
decreases-moving g l = vec_len l.logs
