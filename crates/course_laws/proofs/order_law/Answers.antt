use Rattle.farm_machine.specs.Course.{Start}
use Rattle.course_laws.proofs.Courses.{orderly-from}
use Rattle.course_laws.proofs.order_law.Goals as goal

pub returns : goal.returns
returns c = λ j acts end course. orderly-from j acts Start end course
