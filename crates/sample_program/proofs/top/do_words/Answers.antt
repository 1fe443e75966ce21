use Rattle.std.proofs.Common.{◌∙◌}
use Rattle.stream_print.specs.Prints.{sinks_view}
use Rattle.sample_program.proofs.LinkLemmas.{does_empty, does_other}
use Rattle.sample_program.proofs.top.do_words.Goals as goal

pub returns-in-empty : goal.returns-in-empty
returns-in-empty g c =
    does_empty c.args.words.now (g.K.Keeper.shows c.args.keeper.now) (g.K.Keeper.shows c.compile_by.new.keeper)
    (sinks_view g.O.Sink.shows g.E.Sink.shows c.args.out.now c.args.err.now)
    (sinks_view g.O.Sink.shows g.E.Sink.shows c.compile_by.new.out c.compile_by.new.err)
    c.compile_by.result c.in-empty.len_below c.compile_by.ensures

pub returns-in_default : goal.returns-in_default
returns-in_default g c =
    does_other c.args.words.now c.first-item.result (g.K.Keeper.shows c.args.keeper.now)
    (g.K.Keeper.shows c.compile_by-in_default.new.keeper)
    (sinks_view g.O.Sink.shows g.E.Sink.shows c.args.out.now c.args.err.now)
    (sinks_view g.O.Sink.shows g.E.Sink.shows c.compile_by-in_default.new.out c.compile_by-in_default.new.err)
    c.compile_by-in_default.result c.in-len1-up.len_at_least c.first-item.is (λ e. c.in_default.not-text (c.as_str.ensures.value ∙ e))
    (λ e. c.in_default.not-text-2 (c.as_str.ensures.value ∙ e)) c.compile_by-in_default.ensures
