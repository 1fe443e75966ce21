use Rattle.std.proofs.Common.{take, drop, suc, subst}
use Rattle.std.proofs.lemmas.Result.{err_from_is_err_and}
use Rattle.stream_print.specs.Prints.{sinks_view, Printed}
use Rattle.stream_print.proofs.PrintLemmas.{Printed-join, PrintedPart-after, goes-join, around, take_more}
use Rattle.stream_print.proofs.pieces.print_all.Goals as goal

pub returns-in_err-print_piece-clause-part : goal.returns-in_err-print_piece-clause-part
returns-in_err-print_piece-clause-part g c =
    let i = c.loop-piece.piece-index in
    let fault = err_from_is_err_and c.from_residual.result c.from_residual.ensures.1 in
    rw (fault.1, fault.2) (PrintedPart-after (take i c.args.pieces.now) (drop (suc i) c.args.pieces.now) c.args.pieces.now
    (around c.args.pieces.now i c.piece-item.result c.loop-piece-test.true c.piece-item.is)
    c.loop-piece.invariant.printed c.loop-piece.invariant.goes_on c.in_err-print_piece.ensures.part)

pub loop-piece-preserved : goal.loop-piece-preserved
loop-piece-preserved g c =
    let i = c.loop-piece.piece-index in
    record {
      printed = subst (λ ps. Printed (sinks_view g.O.Sink.shows g.E.Sink.shows c.args.out.now c.args.err.now)
          (sinks_view g.O.Sink.shows g.E.Sink.shows c.print_piece.new.out c.print_piece.new.err) ps)
          (take_more c.args.pieces.now i c.piece-item.result c.loop-piece-test.true c.piece-item.is)
          (Printed-join c.loop-piece.invariant.printed c.in_ok-print_piece.ensures.all);
      goes_on = goes-join c.loop-piece.invariant.goes_on c.in_ok-print_piece.ensures.goes_on;
    }
