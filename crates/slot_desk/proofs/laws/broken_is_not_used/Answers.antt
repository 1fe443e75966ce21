use Rattle.slot_desk.proofs.Alone.{broken-is-not-used}
use Rattle.slot_desk.proofs.laws.broken_is_not_used.Goals as goal

pub returns : goal.returns
returns c = broken-is-not-used
