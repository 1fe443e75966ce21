use Rattle.slot_table.proofs.Takes.{takes-tell}
use Rattle.slot_table.proofs.laws.takes_tell.Goals as goal

pub returns : goal.returns
returns c = takes-tell
