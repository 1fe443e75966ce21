use Rattle.farm_laws.proofs.Farms.{weave-law, all-back}
use Rattle.farm_laws.proofs.NothingLost.{nothing-lost}
use Rattle.farm_laws.proofs.laws.weave_law.Goals as goal

pub returns-clause-run : goal.returns-clause-run
returns-clause-run c = weave-law

pub returns-clause-back : goal.returns-clause-back
returns-clause-back c = all-back

pub returns-clause-whole : goal.returns-clause-whole
returns-clause-whole c = nothing-lost
