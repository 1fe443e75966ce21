use Rattle.std.proofs.Common.{subst}
use Rattle.std.specs.Prelude.{Ok, Err}
use Rattle.std.proofs.lemmas.Result.{err_from_is_err_and}
use Rattle.daemon_program.specs.Texts.{log_text}
use Rattle.daemon_program.specs.Sharing.{shares_text}
use Rattle.daemon_program.specs.Endings.{PrintEnded}
use Rattle.daemon_program.proofs.Telling.{first_ended, second_ended}
use Rattle.daemon_program.proofs.share_printing.print_all.Goals as goal

pub returns-in_err-print_lines : goal.returns-in_err-print_lines
returns-in_err-print_lines g c =
    let one = c.args.shared.now in
    let fault = err_from_is_err_and c.from_residual.result c.from_residual.ensures.1 in
    rw (fault.1, fault.2) (first_ended (log_text one.log) (shares_text one.counts.items one.stats) _ (g.O.Sink.shows c.args.out.now)
    (g.O.Sink.shows c.print_lines.new.out)
    (subst (λ l. PrintEnded (log_text l) (Err c.in_err-print_lines.field-0.0) (g.O.Sink.shows c.args.out.now)
    (g.O.Sink.shows c.print_lines.new.out)) c.as_slice.ensures c.in_err-print_lines.ensures))

pub returns : goal.returns
returns g c =
    let one = c.args.shared.now in
    second_ended (log_text one.log) (shares_text one.counts.items one.stats) (g.O.Sink.shows c.args.out.now)
    (g.O.Sink.shows c.print_lines.new.out) (g.O.Sink.shows c.print_shares.new.out) c.print_shares.result
    (subst (λ l. PrintEnded (log_text l) (Ok tt) (g.O.Sink.shows c.args.out.now) (g.O.Sink.shows c.print_lines.new.out)) c.as_slice.ensures
    c.in_ok-print_lines.ensures)
    (subst (λ l. PrintEnded (shares_text l one.stats) c.print_shares.result (g.O.Sink.shows c.print_lines.new.out)
    (g.O.Sink.shows c.print_shares.new.out)) c.as_slice-2.ensures.value c.print_shares.ensures)
