use Rattle.std.proofs.Common.{◌≡◌, take}
use Rattle.slot_table.specs.History.{state_after}
use Rattle.farm_machine.specs.CheckRuns.{AreSound}
use Rattle.farm_machine.specs.Farm.{wanted}
use Rattle.farm_machine.specs.Reading.{unread}
use Rattle.farm_machine.proofs.checks.check_run.Given as goal

abbrev pub invariant-loop-place : goal.invariant-loop-place
invariant-loop-place l =
    (l.slots.limits ≡ l.limits) × (l.slots.state ≡ state_after l.limits (take l.place l.list))
    × AreSound l.limits (unread l.reports) (wanted l.limits) (take l.place l.list)
