use Rattle.std.proofs.Common.{◌≡◌, []}
use Rattle.slot_table.specs.History.{outstanding}
use Rattle.farm_cell.specs.Passes.{mine_of}
use Rattle.farm_cell.specs.Ends.{IsNumbered}
use Rattle.slot_tests.proofs.cell_histories.work.Given as goal

abbrev pub invariant-loop : goal.invariant-loop
invariant-loop g l = record { pass : IsNumbered l.cell l.caller l.pass; none : outstanding (mine_of l.pass) ≡ [] }
