use Rattle.std.proofs.Common.{◌≡◌, ◌+◌}
use Rattle.crossbeam_utils.specs.Seq.{cell_view, IsSamePass}
use Rattle.edge_gates.proofs.gate.wait_until.Given as goal

abbrev pub invariant-loop-turn : goal.invariant-loop-turn
invariant-loop-turn g l = record {
  cell : IsSamePass l.fn.pass l.pass;
  place : (cell_view l.pass).place ≡ (cell_view l.fn.pass).place;
  seen : (cell_view l.pass).seen ≡ l.seen;
  looks : (cell_view l.pass).looks ≡ (cell_view l.fn.pass).looks + l.turn + 1;
}
