use Rattle.std.proofs.Common.{◌≡◌, length, vec_len, vec_capacity}
use Rattle.std.specs.Prelude.{All}
use Rattle.daemon_worker.specs.Workers.{IsRoom}
use Rattle.daemon_worker.proofs.moving.make_logs.Given as goal

abbrev pub invariant-loop : goal.invariant-loop
invariant-loop l = record {
  count : length l.logs.items ≡ l.counter;
  room : All (λ log. IsRoom l.serve log.items (vec_len log) (vec_capacity log)) l.logs.items;
}
