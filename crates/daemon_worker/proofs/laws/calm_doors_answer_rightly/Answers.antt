use Rattle.daemon_worker.proofs.Answering.{rightly}
use Rattle.daemon_worker.proofs.laws.calm_doors_answer_rightly.Goals as goal

pub returns : goal.returns
returns g c = λ table rules old new before after cs. rightly table rules (g.S.Station.ran c.args._station.now) old new before after cs
