use Rattle.rehearsal.proofs.Looping.{honest-loop}
use Rattle.rehearsal.proofs.laws.loops_are_fully_honest.Goals as goal

pub returns : goal.returns
returns g c = honest-loop (g.S.Station.ran c.args._station.now)
