use Rattle.std.proofs.Common.{◌≡◌, ◌≤◌, [], length, sym, subst, ap, ◌∙◌, arith}
use Rattle.std.specs.Prelude.{All}
use Rattle.std.proofs.lemmas.Grind.{common_steps}
use Rattle.std.proofs.lemmas.List.Elements.{All-push, All-nil, All-same}
use Rattle.edge_traits.specs.declared.kit.Kit.{Kit}
use Rattle.edge_traits.specs.Keepers.{IsIdle}
use Rattle.edge_memory.specs.declared.clock.MemClock.{MemClock}
use Rattle.edge_memory.specs.declared.keeper.MemKeeper.{MemKeeper}
use Rattle.edge_memory.specs.Keepers.{keeper_state, keeper_shows}
use Rattle.rehearsal.specs.Loops.{LoopKit, IsLoop}
use Rattle.farm_calls.proofs.kits.one_kit.Goals as goal

abbrev Loops : LoopKit MemKeeper MemClock → Type 0
Loops kit = IsLoop kit

abbrev Idle : LoopKit MemKeeper MemClock → Type 0
Idle kit = IsIdle (keeper_shows (keeper_state kit.keeper))

pub returns-clause-loops : goal.returns-clause-loops
returns-clause-loops c =
    subst (All Loops) (sym c.in_ok-push.ensures.items)
    (All-push Loops c.new-kits.result.items c.in_ok-loop_kit.field-0
    (All-same Loops c.new-kits.result.items [] (grind (arith, common_steps)) (All-nil Loops)) c.in_ok-loop_kit.ensures.loops)

pub returns-clause-idle : goal.returns-clause-idle
returns-clause-idle c =
    subst (All Idle) (sym c.in_ok-push.ensures.items)
    (All-push Idle c.new-kits.result.items c.in_ok-loop_kit.field-0
    (All-same Idle c.new-kits.result.items [] (grind (arith, common_steps)) (All-nil Idle)) c.in_ok-loop_kit.ensures.idle)
