use Rattle.std.proofs.Common.{◌≡◌, ◌≤◌, None, length, sym, subst, arith}
use Rattle.std.specs.Prelude.{All}
use Rattle.std.proofs.lemmas.Grind.{common_steps}
use Rattle.std.proofs.lemmas.List.Elements.{All-push}
use Rattle.edge_traits.specs.declared.kit.Kit.{Kit}
use Rattle.edge_traits.specs.Keepers.{IsIdle}
use Rattle.edge_memory.specs.declared.clock.MemClock.{MemClock}
use Rattle.edge_memory.specs.declared.keeper.MemKeeper.{MemKeeper}
use Rattle.edge_memory.specs.Keepers.{keeper_state, keeper_shows}
use Rattle.loop_link.specs.declared.dialer.LoopDialer.{LoopDialer}
use Rattle.sample_compiler.specs.declared.station.SampleStation.{SampleStation}
use Rattle.loop_tests.proofs.loops.loop_kits.Goals as goal

abbrev Idle : Kit (LoopDialer SampleStation) SampleStation MemKeeper MemClock → Type 0
Idle kit = IsIdle (keeper_shows (keeper_state kit.keeper))

pub making-preserved : goal.making-preserved
making-preserved c = record {
  few = grind (arith, common_steps, c.in_ok-push.ensures.items, c.making-test.true, c.len.ensures, c.making.invariant.few);
  idle = subst (All Idle) (sym c.in_ok-push.ensures.items)
      (All-push Idle c.making.kits.items c.in_ok-loop_kit.field-0 c.making.invariant.idle c.in_ok-loop_kit.ensures);
}
