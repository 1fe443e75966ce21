use Rattle.course_laws.proofs.Lengths.{short}
use Rattle.course_laws.proofs.length_law.Goals as goal

pub returns : goal.returns
returns c = short
