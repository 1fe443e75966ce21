use Rattle.remote_transfer.proofs.IntoFiles.{longer, still-pending}
use Rattle.remote_transfer.proofs.landing.add_bytes.Goals as goal

pub returns-in-Ok-clause-lands : goal.returns-in-Ok-clause-lands
returns-in-Ok-clause-lands g c path object h =
    (c.in-Ok.ensures.added path object h, c.in-Ok.ensures.cause.done, longer object c.args.bytes.now c.requires.some)

pub returns-in-Ok-clause-can : goal.returns-in-Ok-clause-can
returns-in-Ok-clause-can g c = still-pending (g.K.Keeper.shows c.args.keeper.now) (g.K.Keeper.shows c.add.new.self) c.args.bytes.now
    c.requires.pending (λ path bytes h. c.in-Ok.ensures.added path bytes h)
