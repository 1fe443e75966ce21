use Rattle.slot_desk.proofs.Alone.{nobody-waits, nobody-waits-here}
use Rattle.slot_desk.proofs.laws.nobody_waits_beside_a_slot.Goals as goal

pub returns-clause-hosts : goal.returns-clause-hosts
returns-clause-hosts c = nobody-waits

pub returns-clause-local : goal.returns-clause-local
returns-clause-local c = nobody-waits-here
