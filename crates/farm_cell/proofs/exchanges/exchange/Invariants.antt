use Rattle.crossbeam_utils.specs.Seq.{cell_view, IsSamePass}
use Rattle.farm_cell.specs.Rule.{Looked}
use Rattle.farm_cell.proofs.exchanges.exchange.Given as goal

abbrev pub ghosts-ask : goal.ghosts-ask
ghosts-ask g a = record { call = a.change.now.call; current = a.change.now.current }

abbrev pub invariant-loop : goal.invariant-loop
invariant-loop g l = record { cell : IsSamePass l.fn.seat l.seat; seen : Looked (cell_view l.fn.seat) l.met (cell_view l.seat) }
