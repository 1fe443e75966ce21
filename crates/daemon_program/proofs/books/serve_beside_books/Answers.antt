use Rattle.std.proofs.Common.{length, ◌∙◌, ap, arith}
use Rattle.std.proofs.lemmas.Grind.{common_steps}
use Rattle.std.proofs.lemmas.List.{length-map}
use Rattle.daemon_program.specs.Books.{book_of, stats_of}
use Rattle.daemon_program.proofs.Beside.{count_out, count_ok, served_plain, others_plain, same_plain}
use Rattle.daemon_program.proofs.Counting.{books_kept}
use Rattle.daemon_program.proofs.books.serve_beside_books.Goals as goal

pub move_out-requires-clause-room : goal.move_out-requires-clause-room
move_out-requires-clause-room g c =
    let same = count_out c.args.config.now.table.rows c.args.config.now.access.rules c.args.config.now.serve g.A.Door.shows
    g.S.Station.shows g.S.Station.ran c.args.count c.move_in.new.cached.items c.serve_first-served.new.doors.items
    c.move_in.ensures.count
    c.serve_first-served.result c.serve_first-served.ensures.served c.serve_first-served.ensures.others
    c.serve_first-served.ensures.untouched in
    grind (arith, common_steps, same, c.move_in.ensures.room, c.move_in.ensures.count)

pub move_out-requires-clause-space : goal.move_out-requires-clause-space
move_out-requires-clause-space g c =
    let same = count_out c.args.config.now.table.rows c.args.config.now.access.rules c.args.config.now.serve g.A.Door.shows
    g.S.Station.shows g.S.Station.ran c.args.count c.move_in.new.cached.items c.serve_first-served.new.doors.items
    c.move_in.ensures.count
    c.serve_first-served.result c.serve_first-served.ensures.served c.serve_first-served.ensures.others
    c.serve_first-served.ensures.untouched in
    grind (arith, common_steps, same, c.in_ok-stats.ensures)

pub returns-in-Ok-clause-served : goal.returns-in-Ok-clause-served
returns-in-Ok-clause-served g c =
    served_plain c.args.config.now.table.rows c.args.config.now.access.rules c.args.config.now.serve g.A.Door.shows
    g.S.Station.shows g.S.Station.ran c.args.count c.move_in.new.cached.items c.serve_first-served.new.doors.items
    c.move_in.ensures.count
    c.move_in.new.doors.items c.args.doors.now.items c.move_out.new.doors.items c.move_in.ensures.kits c.move_out.ensures.kits
    c.in-Ok.log c.in-Ok.ensures.served c.in-Ok.ensures.others

pub returns-in-Ok-clause-books : goal.returns-in-Ok-clause-books
returns-in-Ok-clause-books g c =
    let same = count_ok c.args.config.now.table.rows c.args.config.now.access.rules c.args.config.now.serve g.A.Door.shows
    g.S.Station.shows g.S.Station.ran c.args.count c.move_in.new.cached.items c.serve_first-served.new.doors.items
    c.move_in.ensures.count
    c.in-Ok.log c.in-Ok.ensures.served c.in-Ok.ensures.others in
    ap length c.move_out.ensures.stats ∙ length-map c.serve_first-served.new.doors.items (λ kit. stats_of (book_of kit)) ∙ same

pub returns-in-Ok-clause-others : goal.returns-in-Ok-clause-others
returns-in-Ok-clause-others g c =
    let same = count_ok c.args.config.now.table.rows c.args.config.now.access.rules c.args.config.now.serve g.A.Door.shows
    g.S.Station.shows g.S.Station.ran c.args.count c.move_in.new.cached.items c.serve_first-served.new.doors.items
    c.move_in.ensures.count
    c.in-Ok.log c.in-Ok.ensures.served c.in-Ok.ensures.others in
    others_plain c.args.config.now.table.rows c.args.config.now.access.rules c.args.config.now.serve g.A.Door.shows
    g.S.Station.shows g.S.Station.ran c.args.count c.move_in.new.cached.items c.serve_first-served.new.doors.items
    c.move_in.ensures.count
    c.move_in.new.doors.items c.args.doors.now.items c.move_out.new.doors.items c.move_in.ensures.kits c.move_out.ensures.kits same

pub returns-in-Err-clause-untouched : goal.returns-in-Err-clause-untouched
returns-in-Err-clause-untouched g c =
    same_plain c.args.config.now.table.rows c.args.config.now.access.rules c.args.config.now.serve g.A.Door.shows g.S.Station.shows
    g.S.Station.ran c.args.count c.move_in.new.cached.items c.serve_first-served.new.doors.items c.move_in.ensures.count
    c.move_in.new.doors.items c.args.doors.now.items c.move_out.new.doors.items c.move_in.ensures.kits c.move_out.ensures.kits
    c.in-Err.ensures.untouched

pub returns-in-Ok-clause-kept : goal.returns-in-Ok-clause-kept
returns-in-Ok-clause-kept g c =
    books_kept g.S.Station.shows g.S.Station.goes c.args.config.now.table.rows c.args.config.now.access.rules c.args.config.now.serve
    g.A.Door.shows g.S.Station.ran c.args.count c.args.bound c.move_in.new.cached.items c.serve_first-served.new.doors.items
    c.move_in.ensures.count
    c.move_in.new.doors.items c.args.doors.now.items c.move_out.new.doors.items c.move_in.ensures.kits c.move_out.ensures.kits
    c.requires.few c.requires.serve.1 c.move_in.ensures.books c.move_out.ensures.within c.in-Ok.log c.in-Ok.ensures.served c.in-Ok.ensures.paths
    c.in-Ok.ensures.others
    c.move_out.new.stats.items c.move_out.ensures.stats
