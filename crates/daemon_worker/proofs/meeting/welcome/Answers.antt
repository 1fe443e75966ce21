use Rattle.std.proofs.Common.{◌∙◌}
use Rattle.daemon_worker.proofs.Connecting.{met_denied, met_served}
use Rattle.daemon_worker.proofs.meeting.welcome.Goals as goal

pub returns-in-Denied-clause-meets : goal.returns-in-Denied-clause-meets
returns-in-Denied-clause-meets g c = λ old came none still.
    let left = c.leave.ensures in
    met_denied c.args.config.now.table.rows c.args.config.now.access.rules (g.S.Station.ran c.args.kit.now.station) old
    (g.A.Door.shows c.args.kit.now.door) (g.A.Door.shows c.leave.new.self) c.args.addr (g.A.Link.Link.shows c.args.link)
    came left.peers none left.visit left.told c.requires.new (left.faults ∙ still) c.in-Denied.rule
    (g.S.Station.shows c.args.kit.now.station) c.in-Denied.ensures.decides

pub returns-in-Admitted-clause-meets : goal.returns-in-Admitted-clause-meets
returns-in-Admitted-clause-meets g c = λ old came none still.
    let left = c.leave-in-Admitted.ensures in
    let served = c.serve_connection-served.ensures in
    met_served c.args.config.now.table.rows c.args.config.now.access.rules (g.S.Station.ran c.serve_connection-served.new.station)
    old (g.A.Door.shows c.args.kit.now.door) (g.A.Door.shows c.leave-in-Admitted.new.self) c.args.addr
    (g.A.Link.Link.shows c.args.link) (g.A.Link.Link.shows c.serve_connection-served.new.link)
    came left.peers none left.visit left.told c.requires.new (left.faults ∙ still) c.in-Admitted.rule
    (g.S.Station.shows c.args.kit.now.station) (g.S.Station.shows c.serve_connection-served.new.station)
    c.serve_connection-served.result c.in-Admitted.ensures.decides served.service served.cause served.station_cause
