use Rattle.remote_transfer.proofs.IntoFiles.{rises-then}
use Rattle.remote_transfer.proofs.landing.receive_into.Goals as goal

pub returns-in-Ok-clause-lands : goal.returns-in-Ok-clause-lands
returns-in-Ok-clause-lands g c = let r = c.in-Ok.ensures.received in
    record { object = r.object; given = r.given; lands = r.lands; rises = tt }

pub returns-in-Err-clause-lands : goal.returns-in-Err-clause-lands
returns-in-Err-clause-lands g c =
    let r = c.in-Err.ensures.received in
    record {
      object = r.object;
      given = r.given;
      lands = c.give_up.ensures.idle;
      rises = rises-then c.in-Err.stop r.given.bytes (g.K.Keeper.shows c.args.keeper.now).faults
          (g.K.Keeper.shows c.receive_landing-received.new.keeper) (g.K.Keeper.shows c.give_up.new.keeper) r.lands c.give_up.ensures.still;
    }
