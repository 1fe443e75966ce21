use Rattle.std.proofs.lemmas.Result.{err_from_is_err_and}
use Rattle.daemon_program.specs.Texts.{log_text, books_text}
use Rattle.daemon_program.proofs.Telling.{first_ended, second_ended}
use Rattle.daemon_program.proofs.printing.print_all.Goals as goal

pub returns-in_err-print_lines : goal.returns-in_err-print_lines
returns-in_err-print_lines g c =
    let fault = err_from_is_err_and c.from_residual.result c.from_residual.ensures.1 in
    rw (fault.1, fault.2) (first_ended (log_text c.args.log.now) (books_text 1 c.args.books.now) _ (g.O.Sink.shows c.args.out.now)
    (g.O.Sink.shows c.print_lines.new.out) c.in_err-print_lines.ensures)

pub returns : goal.returns
returns g c =
    second_ended (log_text c.args.log.now) (books_text 1 c.args.books.now) (g.O.Sink.shows c.args.out.now)
    (g.O.Sink.shows c.print_lines.new.out) (g.O.Sink.shows c.print_books.new.out) c.print_books.result c.in_ok-print_lines.ensures
    c.print_books.ensures
