use Rattle.farm_laws.proofs.Unread.{unread-law, reading-law}
use Rattle.farm_laws.proofs.laws.unread_law.Goals as goal

pub returns-clause-alike : goal.returns-clause-alike
returns-clause-alike c = unread-law

pub returns-clause-read : goal.returns-clause-read
returns-clause-read c = reading-law
