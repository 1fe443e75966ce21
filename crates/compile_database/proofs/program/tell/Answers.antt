use Rattle.std.proofs.Common.{subst}
use Rattle.stream_print.specs.Prints.{sinks_view}
use Rattle.stream_print.specs.Printing.{Printing}
use Rattle.compile_database.specs.Programs.{no_memory_text}
use Rattle.compile_database.proofs.program.tell.Goals as goal

pub returns : goal.returns
returns g c =
    let before = sinks_view g.O.Sink.shows g.E.Sink.shows c.args.out.now c.args.err.now in
    let after = sinks_view g.O.Sink.shows g.E.Sink.shows c.finish.new.out c.finish.new.err in
    subst (λ pieces. Printing no_memory_text pieces 0 before after c.finish.result) c.as_slice.ensures c.finish.ensures
