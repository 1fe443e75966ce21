use Rattle.course_laws.proofs.Reading.{reading, untimed-course}
use Rattle.course_laws.proofs.numbered_law.Goals as goal

pub returns-clause-numbered : goal.returns-clause-numbered
returns-clause-numbered c = reading

pub returns-clause-untimed : goal.returns-clause-untimed
returns-clause-untimed c = untimed-course
