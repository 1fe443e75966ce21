use Rattle.course_laws.proofs.Puts.{puts-last}
use Rattle.course_laws.proofs.put_law.Goals as goal

pub returns : goal.returns
returns c = puts-last
