use Rattle.std.proofs.Common.{◌≡◌, ◌∙◌}
use Rattle.daemon_program.specs.Texts.{line_text}
use Rattle.daemon_program.proofs.Telling.{print_ended}
use Rattle.daemon_program.proofs.printing.print_line.Goals as goal

pub returns-in-Ok : goal.returns-in-Ok
returns-in-Ok g c =
    let text : c.as_slice.result.now ≡ line_text c.args.entry.now = c.as_slice.ensures ∙ c.in-Ok.ensures in
    let print = c.print.ensures in
    print_ended (line_text c.args.entry.now) c.as_slice.result.now (g.O.Sink.shows c.args.out.now) (g.O.Sink.shows c.print.new.sink)
    c.print.result text print.all print.part print.stopped print.goes_on print.memory
