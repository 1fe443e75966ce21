use Rattle.std.proofs.Common.{◌-◌, ◌≤◌, length, vec_len}
use Rattle.std.specs.Prelude.{All}
use Rattle.edge_traits.specs.Keepers.{IsIdle}
use Rattle.edge_memory.specs.Keepers.{keeper_state, keeper_shows}
use Rattle.loop_tests.proofs.loops.loop_kits.Given as goal

abbrev pub invariant-making : goal.invariant-making
invariant-making l = record {
  few : length l.kits.items ≤ l.count;
  idle : All (λ kit. IsIdle (keeper_shows (keeper_state kit.keeper))) l.kits.items;
}

abbrev pub decreases-making : goal.decreases-making
decreases-making l = l.count - vec_len l.kits
