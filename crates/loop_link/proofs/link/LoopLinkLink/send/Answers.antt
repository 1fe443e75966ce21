use Rattle.std.proofs.Common.{ℕ, List, take, refl, sym, subst}
use Rattle.daemon_service.proofs.Runs.{same3_itself}
use Rattle.loop_link.specs.Replies.{Serves}
use Rattle.loop_link.proofs.Holding.{serves_longer}
use Rattle.loop_link.proofs.link.LoopLinkLink.send.Goals as goal

pub returns-clause-follows : goal.returns-clause-follows
returns-clause-follows g c =
    let link = c.args.self.now in
    let rows = link.held.table.rows in
    let ran = g.S.Station.ran link.held.station in
    let dialed = g.S.Station.shows link.dialed.value in
    let now = g.S.Station.shows link.held.station in
    record {
      host = refl;
      port = refl;
      closes = refl;
      table = refl;
      same = same3_itself ran;
      dialed = refl;
      holds = λ holds. record {
        faults = holds.faults;
        overruns = holds.overruns;
        serves = λ served.
            subst (λ (sent : List ℕ). Serves rows ran (take link.seen sent) dialed now link.reply) (sym c.in_ok-try_extend.ensures.ok)
            (serves_longer rows ran link.sent c.args.piece.now link.reply link.seen dialed now link.front (holds.serves served));
      };
    }
