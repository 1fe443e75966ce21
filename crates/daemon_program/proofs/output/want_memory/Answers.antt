use Rattle.daemon_program.specs.Texts.{no_memory_text}
use Rattle.daemon_program.proofs.Telling.{part_of, notice_stopped, notice_wanted}
use Rattle.daemon_program.proofs.output.want_memory.Goals as goal

pub returns-in-Err-Stopped : goal.returns-in-Err-Stopped
returns-in-Err-Stopped g c =
    let print = c.in-Err-Stopped.ensures in
    notice_stopped _ _ (part_of no_memory_text print.part.0 (g.O.Sink.shows c.args.out.now) (g.O.Sink.shows c.print.new.sink)
    print.part.1 print.part.2) (print.stopped (cc c.in-Err-Stopped.field-0-is))

pub returns-in-Err-Memory : goal.returns-in-Err-Memory
returns-in-Err-Memory g c =
    let print = c.in-Err-Memory.ensures in
    notice_wanted _ _ (part_of no_memory_text print.part.0 (g.O.Sink.shows c.args.out.now) (g.O.Sink.shows c.print.new.sink)
    print.part.1 print.part.2) (print.memory (cc c.in-Err-Memory.field-0-is))
