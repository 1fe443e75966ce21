use Rattle.course_laws.proofs.Staying.{stays-here}
use Rattle.course_laws.proofs.stays_here_law.Goals as goal

pub returns : goal.returns
returns c = stays-here
