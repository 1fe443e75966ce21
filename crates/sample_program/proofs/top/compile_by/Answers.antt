use Rattle.std.proofs.Common.{map, string_bytes, Global}
use Rattle.stream_print.specs.Prints.{sinks_view}
use Rattle.sample_program.proofs.RunLemmas.{compiled_as}
use Rattle.sample_program.proofs.top.compile_by.Goals as goal

pub returns : goal.returns
returns g c =
    compiled_as (map (string_bytes {Z = Global}) c.args.words.now) (g.K.Keeper.shows c.args.keeper.now)
    (g.K.Keeper.shows c.run-ran.new.keeper)
    (sinks_view g.O.Sink.shows g.E.Sink.shows c.args.out.now c.args.err.now)
    (sinks_view g.O.Sink.shows g.E.Sink.shows c.print_ran.new.out c.print_ran.new.err)
    c.print_ran.result c.run-ran.result c.run-ran.ensures.ran c.run-ran.ensures.stop c.print_ran.ensures
