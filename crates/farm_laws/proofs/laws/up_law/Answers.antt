use Rattle.farm_laws.proofs.Up.{up-law}
use Rattle.farm_laws.proofs.laws.up_law.Goals as goal

pub returns : goal.returns
returns c = up-law
