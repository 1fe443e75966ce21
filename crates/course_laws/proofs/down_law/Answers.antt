use Rattle.course_laws.proofs.Courses.{take-where-down}
use Rattle.course_laws.proofs.down_law.Goals as goal

pub returns : goal.returns
returns c = take-where-down
