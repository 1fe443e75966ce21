use Rattle.loop_link.proofs.Holding.{ended_served}
use Rattle.loop_link.specs.Links.{loop_state}
use Rattle.loop_link.proofs.dialer.LoopDialerDialer.hang_up.Goals as goal

pub returns-clause-whole : goal.returns-clause-whole
returns-clause-whole g c =
    let link = c.args.link in
    ended_served link.held.table.rows (g.S.Station.ran link.held.station) (loop_state link) link.served
    (g.S.Station.shows link.dialed.value) (g.S.Station.shows link.held.station)
    c.requires.serves link.empty link.whole
