use Rattle.remote_transfer.proofs.IntoFiles.{land-begun}
use Rattle.remote_transfer.proofs.landing.land.Goals as goal

pub returns-in-Begun-clause-lands : goal.returns-in-Begun-clause-lands
returns-in-Begun-clause-lands g c object before later at =
    land-begun c.args.state c.args.path.now object c.args.bytes.now before (g.K.Keeper.shows c.args.keeper.now)
    (g.K.Keeper.shows c.add_bytes.new.keeper) c.add_bytes.result c.in-Begun.is c.add_bytes.ensures.lands at
