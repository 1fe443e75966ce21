use Rattle.course_laws.proofs.Fallbacks.{own}
use Rattle.course_laws.proofs.fallback_law.Goals as goal

pub returns : goal.returns
returns c = own
