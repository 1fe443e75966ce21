use Rattle.std.proofs.Common.{refl}
use Rattle.sample_program.proofs.top.scc.Goals as goal

pub returns-in-Some : goal.returns-in-Some
returns-in-Some g c = rw c.in-Some.ensures (refl, c.tell.ensures)

pub returns-in-None : goal.returns-in-None
returns-in-None g c = rw c.in-None.ensures c.do_words.ensures
