use Rattle.slot_table.proofs.Permits.{permitted-steps}
use Rattle.slot_table.proofs.laws.permitted_steps.Goals as goal

pub returns : goal.returns
returns c = permitted-steps
