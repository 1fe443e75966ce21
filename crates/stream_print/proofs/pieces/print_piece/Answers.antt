use Rattle.stream_print.proofs.PrintLemmas.{out_part, err_part}
use Rattle.stream_print.proofs.pieces.print_piece.Goals as goal

pub returns-in-Out-clause-part : goal.returns-in-Out-clause-part
returns-in-Out-clause-part g c =
    out_part c.print.result c.args.piece.now _ c.as_slice.ensures _ _ _ c.in-Out.is c.print.ensures.part c.print.ensures.stopped
    c.print.ensures.memory

pub returns-in-Err-clause-part : goal.returns-in-Err-clause-part
returns-in-Err-clause-part g c =
    err_part c.print-in-Err.result c.args.piece.now _ c.as_slice-in-Err.ensures _ _ _ c.in-Err.is c.print-in-Err.ensures.part
    c.print-in-Err.ensures.stopped c.print-in-Err.ensures.memory
