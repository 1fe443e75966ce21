use Rattle.std.proofs.Common.{[], refl}
use Rattle.std.specs.Prelude.{Err}
use Rattle.std.proofs.lemmas.Result.{err_from_is_err_and}
use Rattle.remote_transfer.proofs.Passing.{not_sent, replied}
use Rattle.remote_transfer.specs.Answers.{stop_of}
use Rattle.remote_transfer.specs.Landings.{received_of, PassedInto}
use Rattle.edge_traits.proofs.ToldLemmas.{Grew-join, Grew-still}
use Rattle.remote_transfer.proofs.IntoFiles.{never-asked, maybe-asked, rises-none}
use Rattle.remote_transfer.proofs.exchange.converse_into.Goals as goal

pub returns-clause-passed : goal.returns-clause-passed
returns-clause-passed g c =
    let sent = c.in_ok-send_all.ensures in
    let received = c.receive_into.ensures in
    record {
      object = received.lands.object;
      passed = λ q h is_for. replied q h c.args.text.now _ _ is_for c.requires.new
          (g.met.L.Link.origin_stays _ _ (g.met.L.Link.follows_on _ _ _ sent.follows received.receives.follows))
          _ sent.all received.receives.sent sent.given sent.running received.receives.stopped sent.ended sent.still
          (received_of c.receive_into.result received.lands.object) received.lands.given;
      lands = received.lands.lands;
      unasked = maybe-asked c.receive_into.result received.lands.object _ _ received.lands.given.bytes _ _ received.lands.given.is;
      rises = record {
        sent = c.args.text.now;
        given = received.lands.given.bytes;
        grew_sent = Grew-still sent.all received.receives.sent;
        grew_given = Grew-join sent.given received.lands.given.grew refl;
        is = received.lands.rises;
      };
    }

pub returns-in_err-send_all-clause-passed : goal.returns-in_err-send_all-clause-passed
returns-in_err-send_all-clause-passed g c =
    let p = err_from_is_err_and c.from_residual.result c.from_residual.ensures.1 in
    let s = c.in_err-send_all.ensures in
    let fault = c.in_err-send_all.field-0.0 in
    let into : PassedInto (Err (stop_of fault)) c.args.path.now c.args.text.now (g.L.Link.shows c.args.link.now)
    (g.L.Link.shows c.send_all.new.link) (g.K.Keeper.shows c.args.keeper.now) (g.K.Keeper.shows c.args.keeper.now) = record {
      object = [];
      passed = λ q h is_for. not_sent q h c.args.text.now (g.L.Link.shows c.args.link.now) (g.L.Link.shows c.send_all.new.link)
          is_for c.requires.new (g.met.L.Link.origin_stays _ _ s.follows) fault s.part s.stops s.given s.ended;
      lands = c.requires.idle;
      unasked = never-asked fault (g.K.Keeper.shows c.args.keeper.now);
      rises = record {
        sent = s.part.sent;
        given = [];
        grew_sent = s.part.grew;
        grew_given = s.given;
        is = rises-none (stop_of fault) [] (g.K.Keeper.shows c.args.keeper.now).faults;
      };
    } in
    rw (p.1, p.2) into
