use Rattle.std.proofs.Common.{◌≡◌, []}
use Rattle.slot_table.specs.History.{outstanding}
use Rattle.farm_cell.specs.Passes.{mine_of}
use Rattle.farm_cell.specs.Ends.{IsNumbered}
use Rattle.slot_tests.proofs.cell_entries.fail_at_each.Given as goal

abbrev pub invariant-loop-host : goal.invariant-loop-host
invariant-loop-host g l = record { pass : IsNumbered l.cell l.caller l.pass; none : outstanding (mine_of l.pass) ≡ [] }
