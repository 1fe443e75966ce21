use Rattle.std.proofs.Common.{subst}
use Rattle.farm_types.specs.Exits.{exit_code_of}
use Rattle.stream_print.specs.Prints.{sinks_view}
use Rattle.stream_print.specs.Printing.{Printing}
use Rattle.sample_program.specs.Puts.{no_memory_text}
use Rattle.sample_program.proofs.top.print_run.Goals as goal

pub returns : goal.returns
returns g c =
    let before = sinks_view g.O.Sink.shows g.E.Sink.shows c.args.out.now c.args.err.now in
    let after = sinks_view g.O.Sink.shows g.E.Sink.shows c.finish.new.out c.finish.new.err in
    subst (λ pieces. Printing no_memory_text pieces (exit_code_of c.args.ran.status) before after c.finish.result) c.as_slice.ensures
    (subst (λ status. Printing no_memory_text c.as_slice.result.now status before after c.finish.result) c.exit_code.ensures
    c.finish.ensures)
