use Rattle.std.proofs.Common.{[], ◌∷◌, ap, ◌∙◌, subst, inl}
use Rattle.stream_print.specs.Prints.{sinks_view}
use Rattle.stream_print.specs.Printing.{Printing}
use Rattle.sample_program.specs.Puts.{no_memory_text, output}
use Rattle.sample_program.proofs.top.tell.Goals as goal

pub returns-in-Ok : goal.returns-in-Ok
returns-in-Ok g c =
    let before = sinks_view g.O.Sink.shows g.E.Sink.shows c.args.out.now c.args.err.now in
    let after = sinks_view g.O.Sink.shows g.E.Sink.shows c.finish.new.out c.finish.new.err in
    inl (subst (λ pieces. Printing no_memory_text pieces 0 before after c.finish.result)
    (c.as_slice.ensures ∙ ap (λ bytes. output bytes ∷ []) c.in-Ok.ensures) c.finish.ensures)
