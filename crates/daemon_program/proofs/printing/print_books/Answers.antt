use Rattle.std.proofs.Common.{◌+◌, get_or, arith}
use Rattle.std.proofs.lemmas.Grind.{common_steps}
use Rattle.std.proofs.lemmas.Result.{err_from_is_err_and}
use Rattle.daemon_program.specs.Texts.{book_line, books_text}
use Rattle.daemon_program.proofs.Telling.{no_stats, one_part, first_book, next_line, ended_line}
use Rattle.daemon_program.proofs.printing.print_books.Goals as goal

pub returns-in_err-print_book : goal.returns-in_err-print_book
returns-in_err-print_book g c =
    let door = c.printing.door + 1 in
    let first = get_or c.printing.rest.now 0 no_stats in
    let fault = err_from_is_err_and c.from_residual.result c.from_residual.ensures.1 in
    rw (fault.1, fault.2) (ended_line (books_text 1 c.args.books.now) (books_text door c.printing.rest.now) (book_line door first) _
    (g.O.Sink.shows c.args.out.now) (g.O.Sink.shows c.printing.out) c.printing.invariant.so_far
    (first_book door first c.printing.rest.now _ (one_part no_stats c.printing.rest.now c.in-len1-up.len_at_least))
    _ (g.O.Sink.shows c.print_book.new.out) c.in_err-print_book.ensures)

pub printing-preserved : goal.printing-preserved
printing-preserved g c =
    let door = c.printing.door + 1 in
    let first = get_or c.printing.rest.now 0 no_stats in
    record {
      so_far = next_line (books_text 1 c.args.books.now) (books_text door c.printing.rest.now) (book_line door first) _
          (g.O.Sink.shows c.args.out.now) (g.O.Sink.shows c.printing.out) c.printing.invariant.so_far
          (first_book door first c.printing.rest.now _ (one_part no_stats c.printing.rest.now c.in-len1-up.len_at_least))
          (g.O.Sink.shows c.print_book.new.out) c.in_ok-print_book.ensures.0 c.in_ok-print_book.ensures.1;
      many = grind (arith, common_steps, c.printing.invariant.many);
    }
