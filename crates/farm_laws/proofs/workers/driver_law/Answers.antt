use Rattle.farm_laws.proofs.Drivers.{driver}
use Rattle.farm_laws.proofs.Reported.{workers-run}
use Rattle.farm_laws.proofs.workers.driver_law.Goals as goal

pub returns-clause-agree : goal.returns-clause-agree
returns-clause-agree c = driver

pub returns-clause-run : goal.returns-clause-run
returns-clause-run c = workers-run
