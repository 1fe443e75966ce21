use Rattle.farm_laws.proofs.Worker.{worker, serves-more}
use Rattle.farm_laws.proofs.workers.worker_law.Goals as goal

pub returns-clause-worker : goal.returns-clause-worker
returns-clause-worker c = worker

pub returns-clause-more : goal.returns-clause-more
returns-clause-more c = serves-more
