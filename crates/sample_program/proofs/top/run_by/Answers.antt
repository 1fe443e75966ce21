use Rattle.std.proofs.Common.{refl}
use Rattle.sample_program.proofs.top.run_by.Goals as goal

pub returns-in-None : goal.returns-in-None
returns-in-None g c = rw c.in-None.ensures (refl, c.refuse.ensures)
