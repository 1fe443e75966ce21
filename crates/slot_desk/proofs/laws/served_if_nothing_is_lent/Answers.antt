use Rattle.slot_desk.proofs.Alone.{served-if-none-is-lent}
use Rattle.slot_desk.proofs.laws.served_if_nothing_is_lent.Goals as goal

pub returns : goal.returns
returns c = served-if-none-is-lent
