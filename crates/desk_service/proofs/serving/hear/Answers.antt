use Rattle.std.proofs.Common.{string_bytes}
use Rattle.desk_service.specs.declared.callers.Came.TheVariants.{Line}
use Rattle.desk_service.proofs.Turns.{heard-line}
use Rattle.desk_service.proofs.serving.hear.Goals as goal

pub returns-in-Line-clause-heard : goal.returns-in-Line-clause-heard
returns-in-Line-clause-heard g c =
    let both = heard-line c.args.desk.now.rules (string_bytes c.args.greetings.now.token) c.args.desk.now.state c.hear_line.new.desk.state
    (g.C.Callers.log c.args.callers.now) (g.C.Callers.log c.next.new.self) (g.C.Callers.log c.hear_line.new.callers) c.in-Line.caller
    c.in-Line.line.items c.as_slice.result.now c.in-Line.now c.as_slice.ensures.value c.in-Line.ensures.came c.hear_line.ensures.heard in
    (Line c.in-Line.caller c.in-Line.line c.in-Line.now, record { state = both.0; recorded = both.1 })
