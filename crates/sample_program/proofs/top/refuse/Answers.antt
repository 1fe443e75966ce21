use Rattle.stream_print.specs.Prints.{sinks_view}
use Rattle.sample_program.proofs.LinkLemmas.{refused_so}
use Rattle.sample_program.proofs.top.refuse.Goals as goal

pub returns : goal.returns
returns g c =
    refused_so (sinks_view g.O.Sink.shows g.E.Sink.shows c.args.out.now c.args.err.now)
    (sinks_view g.O.Sink.shows g.E.Sink.shows c.print_ran.new.out c.print_ran.new.err)
    c.print_ran.result c.refuse_words-ran.result c.refuse_words-ran.ensures.ran c.refuse_words-ran.ensures.stop c.print_ran.ensures
