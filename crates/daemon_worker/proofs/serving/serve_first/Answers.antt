use Rattle.std.proofs.Common.{◌≡◌, ◌+◌, ◌*◌, ◌≤◌, length, sym, ◌∙◌, subst, arith, vec_len, vec_capacity}
use Rattle.std.specs.List.{flat_map}
use Rattle.daemon_worker.specs.Workers.{log_of}
use Rattle.std.proofs.lemmas.Grind.{common_steps}
use Rattle.daemon_worker.proofs.Working.{all_few, room_for, first_served, first_went}
use Rattle.daemon_worker.proofs.serving.serve_first.Goals as goal

pub join_logs-requires : goal.join_logs-requires
join_logs-requires g c =
    let vs = c.in_ok-workers.workers.items in
    let ws = c.work_all.new.workers.items in
    let few : length (flat_map log_of ws) ≤ length vs * c.args.config.now.serve =
    all_few c.args.config.now.table.rows c.args.config.now.access.rules c.args.config.now.serve g.A.Door.shows g.S.Station.shows
    g.S.Station.ran g.S.Station.goes vs ws c.work_all.ensures.count c.work_all.ensures.each in
    let many : length vs ≡ c.args.count = c.in_ok-workers.ensures.count ∙ c.in_ok-logs.ensures.count in
    let room : c.args.count * c.args.config.now.serve ≤ vec_capacity c.in_ok-log.log = omega (arith, c.in_ok-log.ensures.capacity) in
    let all = room_for (vec_len c.in_ok-log.log) (vec_capacity c.in_ok-log.log) c.args.count (length vs) c.args.config.now.serve _
    (omega (arith, c.in_ok-log.ensures.len)) room many few in
    subst (λ l. vec_len c.in_ok-log.log + length (flat_map log_of l) ≤ vec_capacity c.in_ok-log.log) (sym c.as_slice.ensures.value) all

pub returns-clause-served : goal.returns-clause-served
returns-clause-served g c =
    let vs = c.in_ok-workers.workers.items in
    let ws = c.work_all.new.workers.items in
    let many : length vs ≡ c.args.count = c.in_ok-workers.ensures.count ∙ c.in_ok-logs.ensures.count in
    let joined : c.from_vec.result ≡ flat_map log_of ws =
    grind (arith, common_steps, c.from_vec.ensures, c.join_logs.ensures, c.as_slice.ensures.value, c.in_ok-log.ensures.items) in
    first_served c.args.config.now.table.rows c.args.config.now.access.rules c.args.config.now.serve g.A.Door.shows
    g.S.Station.shows g.S.Station.ran g.S.Station.goes vs ws c.work_all.ensures.count c.work_all.ensures.each
    c.args.count c.args.doors.now.items c.put_back.new.doors.items _ _ c.from_vec.result many c.in_ok-workers.ensures.kits
    c.put_back.ensures joined

pub returns-clause-paths : goal.returns-clause-paths
returns-clause-paths g c =
    let vs = c.in_ok-workers.workers.items in
    let ws = c.work_all.new.workers.items in
    let many : length vs ≡ c.args.count = c.in_ok-workers.ensures.count ∙ c.in_ok-logs.ensures.count in
    let joined : c.from_vec.result ≡ flat_map log_of ws =
    grind (arith, common_steps, c.from_vec.ensures, c.join_logs.ensures, c.as_slice.ensures.value, c.in_ok-log.ensures.items) in
    first_went c.args.config.now.table.rows c.args.config.now.access.rules c.args.config.now.serve g.A.Door.shows g.S.Station.shows
    g.S.Station.ran g.S.Station.goes vs ws c.work_all.ensures.count c.work_all.ensures.each
    c.args.count c.args.doors.now.items c.put_back.new.doors.items _ _ c.from_vec.result many c.in_ok-workers.ensures.kits
    c.put_back.ensures joined
