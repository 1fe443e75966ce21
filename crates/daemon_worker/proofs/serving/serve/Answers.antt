use Rattle.std.proofs.Common.{◌≡◌, length, arith}
use Rattle.daemon_worker.proofs.Working.{each_served, each_went}
use Rattle.daemon_worker.proofs.serving.serve.Goals as goal

pub returns-clause-served : goal.returns-clause-served
returns-clause-served g c =
    let many : c.len-count.result ≡ length c.args.doors.now.items = omega (arith, c.len-count.ensures) in
    each_served c.args.config.now.table.rows c.args.config.now.access.rules c.args.config.now.serve g.A.Door.shows g.S.Station.shows
    g.S.Station.ran
    c.len-count.result c.args.doors.now.items c.serve_first.new.doors.items c.serve_first.result many c.serve_first.ensures.served
    c.serve_first.ensures.others

pub returns-clause-paths : goal.returns-clause-paths
returns-clause-paths g c =
    let many : c.len-count.result ≡ length c.args.doors.now.items = omega (arith, c.len-count.ensures) in
    each_went c.args.config.now.table.rows c.args.config.now.access.rules c.args.config.now.serve g.A.Door.shows g.S.Station.shows
    g.S.Station.ran g.S.Station.goes
    c.len-count.result c.args.doors.now.items c.serve_first.new.doors.items c.serve_first.result many c.serve_first.ensures.paths
    c.serve_first.ensures.others
