use Rattle.std.proofs.Common.{[]}
use Rattle.remote_transfer.proofs.IntoFiles.{lands-after}
use Rattle.remote_transfer.proofs.landing.begin_with.Goals as goal

pub returns-in-Ok-clause-lands : goal.returns-in-Ok-clause-lands
returns-in-Ok-clause-lands g c =
    lands-after c.add_bytes.result c.args.path.now c.args.bytes.now (g.K.Keeper.shows c.args.keeper.now).faults
    (g.K.Keeper.shows c.begin.new.self).faults (g.K.Keeper.shows c.add_bytes.new.keeper) c.in-Ok.ensures.cause.done
    (c.add_bytes.ensures.lands c.args.path.now [] c.in-Ok.ensures.begun)
