use Rattle.farm_laws.proofs.Callers.{callers}
use Rattle.farm_laws.proofs.laws.callers_law.Goals as goal

pub returns : goal.returns
returns c = callers
