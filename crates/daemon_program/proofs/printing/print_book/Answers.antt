use Rattle.std.proofs.Common.{◌≡◌, ◌∙◌}
use Rattle.daemon_program.specs.Texts.{book_line}
use Rattle.daemon_program.proofs.Telling.{print_ended}
use Rattle.daemon_program.proofs.printing.print_book.Goals as goal

pub returns-in-Ok : goal.returns-in-Ok
returns-in-Ok g c =
    let text : c.as_slice.result.now ≡ book_line c.args.door c.args.stats.now = c.as_slice.ensures ∙ c.in-Ok.ensures in
    let print = c.print.ensures in
    print_ended (book_line c.args.door c.args.stats.now) c.as_slice.result.now (g.O.Sink.shows c.args.out.now)
    (g.O.Sink.shows c.print.new.sink) c.print.result text print.all print.part print.stopped print.goes_on print.memory
