use Rattle.rehearsal.proofs.Looping.{loop-law}
use Rattle.rehearsal.proofs.laws.loops_answer_as_the_compiler.Goals as goal

pub returns : goal.returns
returns g c = loop-law g.K.Keeper.shows g.C.Clock.shows
