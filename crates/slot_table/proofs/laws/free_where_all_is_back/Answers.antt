use Rattle.slot_table.proofs.Frees.{free-where-all-is-back}
use Rattle.slot_table.proofs.laws.free_where_all_is_back.Goals as goal

pub returns : goal.returns
returns c = free-where-all-is-back
