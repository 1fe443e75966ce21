use Rattle.slot_table.proofs.Draws.{draws-in-order}
use Rattle.slot_table.proofs.laws.draws_in_order.Goals as goal

pub returns : goal.returns
returns c = draws-in-order
