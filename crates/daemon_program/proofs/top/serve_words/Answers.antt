use Rattle.std.proofs.Common.{◌≡◌, ◌++◌, map, string_bytes, Global, ap, sym, ◌∙◌, arith}
use Rattle.std.proofs.lemmas.Grind.{common_steps}
use Rattle.std.proofs.lemmas.List.{append-nil}
use Rattle.farmd_options.proofs.Meaning.{right_numbers, right_rules}
use Rattle.daemon_program.specs.Texts.{log_text, books_text}
use Rattle.daemon_program.specs.Daemons.{log_status, doors_used}
use Rattle.daemon_program.proofs.Doing.{some_jobs, right_serve, ends_as, served_first, cached_first}
use Rattle.daemon_program.proofs.top.serve_words.Goals as goal

pub serve_first-requires-clause-some : goal.serve_first-requires-clause-some
serve_first-requires-clause-some g c κs within =
    let some = some_jobs c.args.options.now
    (right_numbers (map (string_bytes {Z = Global}) c.args.words.now) c.args.options.now c.requires.words) in
    grind (arith, common_steps, some, c.jobs.ensures, c.from.ensures, c.len.ensures, c.min-count.ensures, c.requires.some)

pub serve_first-requires-clause-serve : goal.serve_first-requires-clause-serve
serve_first-requires-clause-serve g c κs within =
    right_serve c.args.options.now c.in-Ok.config.serve
    (right_numbers (map (string_bytes {Z = Global}) c.args.words.now) c.args.options.now c.requires.words) c.in-Ok.ensures.serve

pub serve_first-requires-clause-right : goal.serve_first-requires-clause-right
serve_first-requires-clause-right g c κs within =
    right_rules (map (string_bytes {Z = Global}) c.args.words.now) c.args.options.now c.in-Ok.config.access.rules c.requires.words
    c.in-Ok.ensures.rules

pub serve_beside_books-requires-clause-some : goal.serve_beside_books-requires-clause-some
serve_beside_books-requires-clause-some g c κs within =
    let some = some_jobs c.args.options.now
    (right_numbers (map (string_bytes {Z = Global}) c.args.words.now) c.args.options.now c.requires.words) in
    grind (arith, common_steps, some, c.jobs.ensures, c.from.ensures, c.len.ensures, c.min-count.ensures, c.requires.some)

pub serve_beside_books-requires-clause-serve : goal.serve_beside_books-requires-clause-serve
serve_beside_books-requires-clause-serve g c κs within =
    right_serve c.args.options.now c.in-Ok.config.serve
    (right_numbers (map (string_bytes {Z = Global}) c.args.words.now) c.args.options.now c.requires.words) c.in-Ok.ensures.serve

pub serve_beside_books-requires-clause-right : goal.serve_beside_books-requires-clause-right
serve_beside_books-requires-clause-right g c κs within =
    right_rules (map (string_bytes {Z = Global}) c.args.words.now) c.args.options.now c.in-Ok.config.access.rules c.requires.words
    c.in-Ok.ensures.rules

pub returns-in-Ok-serve_first : goal.returns-in-Ok-serve_first
returns-in-Ok-serve_first g c =
    let used : c.min-count.result ≡ doors_used c.args.options.now c.args.doors.now.items =
    grind (arith, common_steps, c.jobs.ensures, c.from.ensures, c.len.ensures, c.min-count.ensures) in
    let text = append-nil (log_text c.as_slice-in-Ok-serve_first.result.now) ∙ ap log_text c.as_slice-in-Ok-serve_first.ensures in
    let status = c.status_of.ensures ∙ ap log_status c.as_slice-in-Ok-serve_first-2.ensures in
    let ends = ends_as (log_text c.in-Ok-serve_first.log) _ (log_status c.in-Ok-serve_first.log) _ (g.O.Sink.shows c.args.out.now)
    (g.O.Sink.shows c.print_log-in-Ok-serve_first.new.out) c.print_log-in-Ok-serve_first.result text status
    c.print_log-in-Ok-serve_first.ensures in
    served_first g.A.Door.shows g.S.Station.shows g.S.Station.ran g.S.Station.goes (map (string_bytes {Z = Global}) c.args.words.now)
    c.args.options.now c.args.doors.now.items c.serve_first.new.doors.items (g.O.Sink.shows c.args.out.now)
    (g.O.Sink.shows c.print_log-in-Ok-serve_first.new.out) c.print_log-in-Ok-serve_first.result
    c.min-count.result c.in-Ok.config c.in-Ok-serve_first.log used c.in-Ok.ensures (sym c.in-None.ensures)
    c.in-Ok-serve_first.ensures.served c.in-Ok-serve_first.ensures.others ends

pub returns-in-Ok-serve_beside_books : goal.returns-in-Ok-serve_beside_books
returns-in-Ok-serve_beside_books g c =
    let log = c.in-Ok-serve_beside_books.log in
    let books = c.in-Ok-serve_beside_books.books.items in
    let used : c.min-count.result ≡ doors_used c.args.options.now c.args.doors.now.items =
    grind (arith, common_steps, c.jobs.ensures, c.from.ensures, c.len.ensures, c.min-count.ensures) in
    let text = ap (λ l. log_text l ++ books_text 1 c.as_slice-in-Ok-serve_beside_books-2.result.now)
    c.as_slice-in-Ok-serve_beside_books.ensures
    ∙ ap (λ l. log_text log ++ books_text 1 l) c.as_slice-in-Ok-serve_beside_books-2.ensures.value in
    let status = c.status_of-status.ensures ∙ ap log_status c.as_slice.ensures in
    let ends = ends_as (log_text log ++ books_text 1 books) _ (log_status log) _ (g.O.Sink.shows c.args.out.now)
    (g.O.Sink.shows c.print_log.new.out) c.print_log.result text status c.print_log.ensures in
    cached_first g.A.Door.shows g.S.Station.shows g.S.Station.ran g.S.Station.goes (map (string_bytes {Z = Global}) c.args.words.now)
    c.args.options.now c.args.doors.now.items c.serve_beside_books.new.doors.items (g.O.Sink.shows c.args.out.now)
    (g.O.Sink.shows c.print_log.new.out) c.print_log.result
    c.min-count.result c.in-Ok.config log c.in-Some.bound books used c.in-Ok.ensures (sym c.in-Some.ensures)
    c.in-Ok-serve_beside_books.ensures.served c.in-Ok-serve_beside_books.ensures.others c.in-Ok-serve_beside_books.ensures.books
    c.in-Ok-serve_beside_books.ensures.kept ends
