use Rattle.std.proofs.lemmas.Result.{err_from_is_err_and}
use Rattle.daemon_program.specs.Sharing.{counts_text, shared_line}
use Rattle.daemon_program.proofs.Telling.{first_ended, second_ended}
use Rattle.daemon_program.proofs.share_printing.print_shares.Goals as goal

pub returns-in_err-print_all_counts : goal.returns-in_err-print_all_counts
returns-in_err-print_all_counts g c =
    let fault = err_from_is_err_and c.from_residual.result c.from_residual.ensures.1 in
    rw (fault.1, fault.2) (first_ended (counts_text 1 c.args.counts.now) (shared_line c.args.stats.now) _ (g.O.Sink.shows c.args.out.now)
    (g.O.Sink.shows c.print_all_counts.new.out) c.in_err-print_all_counts.ensures)

pub returns : goal.returns
returns g c =
    second_ended (counts_text 1 c.args.counts.now) (shared_line c.args.stats.now) (g.O.Sink.shows c.args.out.now)
    (g.O.Sink.shows c.print_all_counts.new.out) (g.O.Sink.shows c.print_book.new.out) c.print_book.result
    c.in_ok-print_all_counts.ensures c.print_book.ensures
