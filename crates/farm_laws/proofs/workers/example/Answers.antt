use Rattle.std.proofs.Common.{refl}
use Rattle.farm_laws.proofs.ExampleCalls.{agrees}
use Rattle.farm_laws.proofs.ExampleCourses.{courses, runs}
use Rattle.farm_laws.proofs.ExampleWorkers.{all-worked, workers-ran}
use Rattle.farm_laws.proofs.workers.example.Goals as goal

pub returns-clause-courses : goal.returns-clause-courses
returns-clause-courses c = courses

pub returns-clause-agrees : goal.returns-clause-agrees
returns-clause-agrees c = agrees

pub returns-clause-woven : goal.returns-clause-woven
returns-clause-woven c = refl

pub returns-clause-run : goal.returns-clause-run
returns-clause-run c = runs

pub returns-clause-worked : goal.returns-clause-worked
returns-clause-worked c = all-worked

pub returns-clause-workers : goal.returns-clause-workers
returns-clause-workers c = workers-ran
