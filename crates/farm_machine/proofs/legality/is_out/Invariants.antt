use Rattle.std.proofs.Common.{◌≡◌, ◌≤◌, take}
use Rattle.slot_table.specs.History.{holding, outstanding}
use Rattle.farm_machine.specs.Farm.{times}
use Rattle.farm_machine.proofs.legality.is_out.Given as goal

abbrev pub invariant-loop-entry : goal.invariant-loop-entry
invariant-loop-entry l = (l.count ≤ l.entry-index)
    × (times (holding l.caller l.job l.host) (outstanding (take l.entry-index l.before)) ≡ l.count)
