use Rattle.farm_cell.proofs.Later.{made-later}
use Rattle.farm_cell.proofs.held.HeldGrants.draw.Goals as goal

pub returns-clause-later : goal.returns-clause-later
returns-clause-later g c = made-later _ _ _ c.draw.result c.draw.ensures.call
