use Rattle.std.proofs.Common.{get_or, ap}
use Rattle.std.proofs.lemmas.Result.{err_from_is_err_and}
use Rattle.daemon_program.specs.Texts.{line_text, log_text}
use Rattle.daemon_program.proofs.Telling.{blank, one_part, next_line, ended_line}
use Rattle.daemon_program.proofs.printing.print_lines.Goals as goal

pub returns-in_err-print_line : goal.returns-in_err-print_line
returns-in_err-print_line g c =
    let fault = err_from_is_err_and c.from_residual.result c.from_residual.ensures.1 in
    rw (fault.1, fault.2) (ended_line (log_text c.args.log.now) (log_text c.printing.rest.now)
    (line_text (get_or c.printing.rest.now 0 blank)) _ (g.O.Sink.shows c.args.out.now) (g.O.Sink.shows c.printing.out)
    c.printing.invariant
    (ap log_text (one_part blank c.printing.rest.now c.in-len1-up.len_at_least)) _ (g.O.Sink.shows c.print_line.new.out)
    c.in_err-print_line.ensures)

pub printing-preserved : goal.printing-preserved
printing-preserved g c =
    next_line (log_text c.args.log.now) (log_text c.printing.rest.now) (line_text (get_or c.printing.rest.now 0 blank)) _
    (g.O.Sink.shows c.args.out.now) (g.O.Sink.shows c.printing.out) c.printing.invariant
    (ap log_text (one_part blank c.printing.rest.now c.in-len1-up.len_at_least)) (g.O.Sink.shows c.print_line.new.out)
    c.in_ok-print_line.ensures.0 c.in_ok-print_line.ensures.1
