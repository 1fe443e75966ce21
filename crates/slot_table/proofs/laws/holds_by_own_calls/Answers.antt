use Rattle.slot_table.proofs.Callers.{holds-by-own-calls}
use Rattle.slot_table.proofs.laws.holds_by_own_calls.Goals as goal

pub returns : goal.returns
returns c = holds-by-own-calls
