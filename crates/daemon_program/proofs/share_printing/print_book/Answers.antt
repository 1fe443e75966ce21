use Rattle.std.proofs.Common.{◌≡◌, ◌∙◌}
use Rattle.daemon_program.specs.Sharing.{shared_line}
use Rattle.daemon_program.proofs.Telling.{print_ended}
use Rattle.daemon_program.proofs.share_printing.print_book.Goals as goal

pub returns-in-Ok : goal.returns-in-Ok
returns-in-Ok g c =
    let text : c.as_slice.result.now ≡ shared_line c.args.stats.now = c.as_slice.ensures ∙ c.in-Ok.ensures in
    let print = c.print.ensures in
    print_ended (shared_line c.args.stats.now) c.as_slice.result.now (g.O.Sink.shows c.args.out.now)
    (g.O.Sink.shows c.print.new.sink) c.print.result text print.all print.part print.stopped print.goes_on print.memory
