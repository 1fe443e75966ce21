use Rattle.remote_transfer.proofs.Passing.{replied}
use Rattle.remote_transfer.proofs.exchange.converse.Goals as goal

pub returns-clause-passed : goal.returns-clause-passed
returns-clause-passed g c = λ q h is_for.
    let sent = c.in_ok-send_all.ensures in
    let received = c.receive_reply.ensures in
    replied q h c.args.text.now _ _ is_for c.requires.new
    (g.met.L.Link.origin_stays _ _ (g.met.L.Link.follows_on _ _ _ sent.follows received.receives.follows))
    _ sent.all received.receives.sent sent.given sent.running received.receives.stopped sent.ended sent.still c.receive_reply.result received.given
