use Rattle.std.proofs.Common.{refl}
use Rattle.daemon_program.specs.Endings.{stopped}
use Rattle.daemon_program.proofs.Telling.{part_of, part_wanted}
use Rattle.daemon_program.proofs.output.tell.Goals as goal

pub returns-in-Err-Stopped : goal.returns-in-Err-Stopped
returns-in-Err-Stopped g c =
    let print = c.in-Err-Stopped.ensures in
    stopped (part_of c.args.text.now print.part.0 (g.O.Sink.shows c.args.out.now) (g.O.Sink.shows c.print.new.sink) print.part.1
    print.part.2) (print.stopped (cc c.in-Err-Stopped.field-0-is)) refl

pub returns-in-Err-Memory : goal.returns-in-Err-Memory
returns-in-Err-Memory g c =
    let print = c.in-Err-Memory.ensures in
    part_wanted c.args.text.now c.args.status (g.O.Sink.shows c.args.out.now) (g.O.Sink.shows c.print.new.sink)
    (g.O.Sink.shows c.want_memory.new.out) c.want_memory.result
    (part_of c.args.text.now print.part.0 (g.O.Sink.shows c.args.out.now) (g.O.Sink.shows c.print.new.sink) print.part.1
    print.part.2) (print.memory (cc c.in-Err-Memory.field-0-is)) c.want_memory.ensures
