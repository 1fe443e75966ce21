use Rattle.slot_desk.proofs.Alone.{within-holds-nothing}
use Rattle.slot_desk.proofs.laws.within_holds_nothing.Goals as goal

pub returns : goal.returns
returns c = within-holds-nothing
