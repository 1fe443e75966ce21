use Rattle.std.proofs.Common.{arith, refl}
use Rattle.loop_link.proofs.Holding.{holds_served}
use Rattle.loop_link.proofs.link.LoopLink.ready.Goals as goal

pub returns-in-Ok-clause-follows : goal.returns-in-Ok-clause-follows
returns-in-Ok-clause-follows g c =
    let link = c.args.self.now in
    let shows = g.S.Station.shows in
    record {
      host = refl;
      port = refl;
      closes = refl;
      table = refl;
      same = c.in-Ok.ensures.same;
      dialed = refl;
      holds = λ holds. record {
        faults = omega (arith, holds.faults, c.in-Ok.ensures.faults);
        overruns = omega (arith, holds.overruns, c.in-Ok.ensures.overruns);
        serves = λ served. holds_served link.held.table.rows (g.S.Station.ran c.serve.new.station) link.sent c.in-Ok.reply
            c.len-self.result (shows link.dialed.value) (shows link.held.station) (shows c.serve.new.station) c.len-self.ensures
            holds.faults holds.overruns c.in-Ok.ensures.faults c.in-Ok.ensures.overruns c.in-Ok.ensures.serves;
      };
    }
