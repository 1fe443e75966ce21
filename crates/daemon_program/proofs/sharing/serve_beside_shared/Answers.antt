use Rattle.std.proofs.Common.{length, ◌∙◌, ap, arith}
use Rattle.std.proofs.lemmas.Grind.{common_steps}
use Rattle.std.proofs.lemmas.List.{length-map}
use Rattle.daemon_program.specs.Sharing.{counts_of}
use Rattle.daemon_program.proofs.SharesBeside.{count_out, count_ok, served_bare, others_bare, same_bare}
use Rattle.daemon_program.proofs.SharesCounting.{shared_bare}
use Rattle.daemon_program.proofs.sharing.serve_beside_shared.Goals as goal

pub share_out-requires-clause-room : goal.share_out-requires-clause-room
share_out-requires-clause-room g c =
    let same = count_out c.args.config.now.table.rows c.args.config.now.access.rules c.args.config.now.serve g.A.Door.shows
    g.S.Station.shows g.S.Station.ran c.args.count c.share_in.new.shared.items c.serve_first-served.new.doors.items
    c.share_in.ensures.count
    c.serve_first-served.result c.serve_first-served.ensures.served c.serve_first-served.ensures.others
    c.serve_first-served.ensures.untouched in
    grind (arith, common_steps, same, c.share_in.ensures.room, c.share_in.ensures.count)

pub share_out-requires-clause-space : goal.share_out-requires-clause-space
share_out-requires-clause-space g c =
    let same = count_out c.args.config.now.table.rows c.args.config.now.access.rules c.args.config.now.serve g.A.Door.shows
    g.S.Station.shows g.S.Station.ran c.args.count c.share_in.new.shared.items c.serve_first-served.new.doors.items
    c.share_in.ensures.count
    c.serve_first-served.result c.serve_first-served.ensures.served c.serve_first-served.ensures.others
    c.serve_first-served.ensures.untouched in
    grind (arith, common_steps, same, c.in_ok-counts.ensures)

pub returns-in-Ok-served-clause-served : goal.returns-in-Ok-served-clause-served
returns-in-Ok-served-clause-served g c =
    served_bare c.args.config.now.table.rows c.args.config.now.access.rules c.args.config.now.serve g.A.Door.shows
    g.S.Station.shows g.S.Station.ran c.args.count c.share_in.new.shared.items c.serve_first-served.new.doors.items
    c.share_in.ensures.count
    c.share_in.new.doors.items c.args.doors.now.items c.share_out.new.doors.items c.share_in.ensures.kits c.share_out.ensures.kits
    c.in-Ok-served.log c.in-Ok-served.ensures.served c.in-Ok-served.ensures.others

pub returns-in-Ok-served-clause-counts : goal.returns-in-Ok-served-clause-counts
returns-in-Ok-served-clause-counts g c =
    let same = count_ok c.args.config.now.table.rows c.args.config.now.access.rules c.args.config.now.serve g.A.Door.shows
    g.S.Station.shows g.S.Station.ran c.args.count c.share_in.new.shared.items c.serve_first-served.new.doors.items
    c.share_in.ensures.count
    c.in-Ok-served.log c.in-Ok-served.ensures.served c.in-Ok-served.ensures.others in
    ap length c.share_out.ensures.counts ∙ length-map c.serve_first-served.new.doors.items counts_of ∙ same

pub returns-in-Ok-served-clause-others : goal.returns-in-Ok-served-clause-others
returns-in-Ok-served-clause-others g c =
    let same = count_ok c.args.config.now.table.rows c.args.config.now.access.rules c.args.config.now.serve g.A.Door.shows
    g.S.Station.shows g.S.Station.ran c.args.count c.share_in.new.shared.items c.serve_first-served.new.doors.items
    c.share_in.ensures.count
    c.in-Ok-served.log c.in-Ok-served.ensures.served c.in-Ok-served.ensures.others in
    others_bare c.args.config.now.table.rows c.args.config.now.access.rules c.args.config.now.serve g.A.Door.shows
    g.S.Station.shows g.S.Station.ran c.args.count c.share_in.new.shared.items c.serve_first-served.new.doors.items
    c.share_in.ensures.count
    c.share_in.new.doors.items c.args.doors.now.items c.share_out.new.doors.items c.share_in.ensures.kits c.share_out.ensures.kits same

pub returns-in-Err-clause-untouched : goal.returns-in-Err-clause-untouched
returns-in-Err-clause-untouched g c =
    same_bare c.args.config.now.table.rows c.args.config.now.access.rules c.args.config.now.serve g.A.Door.shows g.S.Station.shows
    g.S.Station.ran c.args.count c.share_in.new.shared.items c.serve_first-served.new.doors.items c.share_in.ensures.count
    c.share_in.new.doors.items c.args.doors.now.items c.share_out.new.doors.items c.share_in.ensures.kits c.share_out.ensures.kits
    c.in-Err.ensures.untouched

pub returns-in-Ok-served-clause-shared : goal.returns-in-Ok-served-clause-shared
returns-in-Ok-served-clause-shared g c =
    shared_bare g.S.Station.shows g.S.Station.ran g.S.Station.goes c.args.config.now.table.rows c.args.config.now.access.rules c.args.config.now.serve
    g.A.Door.shows c.args.count c.share_in.new.shared.items c.serve_first-served.new.doors.items
    c.share_in.ensures.count
    c.share_in.new.doors.items c.args.doors.now.items c.share_out.new.doors.items c.share_in.ensures.kits c.share_out.ensures.kits
    c.requires.count.1 c.requires.config.1 c.share_in.ensures.counts c.in-Ok-served.log c.in-Ok-served.ensures.served c.in-Ok-served.ensures.paths
    c.in-Ok-served.ensures.others
    c.share_out.new.counts.items c.share_out.ensures.counts
