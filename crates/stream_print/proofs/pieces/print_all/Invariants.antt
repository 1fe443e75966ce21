use Rattle.std.proofs.Common.{take}
use Rattle.stream_print.specs.Prints.{sinks_view, Printed, BothGoOn}
use Rattle.stream_print.proofs.pieces.print_all.Given as goal

abbrev pub invariant-loop-piece : goal.invariant-loop-piece
invariant-loop-piece g l =
    let old = sinks_view g.O.Sink.shows g.E.Sink.shows l.fn.out l.fn.err in
    let now = sinks_view g.O.Sink.shows g.E.Sink.shows l.out l.err in
    record {
      printed : Printed old now (take l.piece-index l.pieces);
      goes_on : BothGoOn old now;
    }
