use Rattle.slot_table.proofs.Keeps.{state-agrees}
use Rattle.slot_table.proofs.laws.state_agrees.Goals as goal

pub returns : goal.returns
returns c = state-agrees
