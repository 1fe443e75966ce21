use Rattle.std.proofs.Common.{◌+◌, get_or, arith}
use Rattle.std.proofs.lemmas.Grind.{common_steps}
use Rattle.std.proofs.lemmas.Result.{err_from_is_err_and}
use Rattle.shared_cache.specs.Shared.{no_counts}
use Rattle.daemon_program.specs.Sharing.{counts_line, counts_text}
use Rattle.daemon_program.proofs.Telling.{one_part, next_line, ended_line}
use Rattle.daemon_program.proofs.SharesBeside.{first_counts}
use Rattle.daemon_program.proofs.share_printing.print_all_counts.Goals as goal

pub returns-in_err-print_counts : goal.returns-in_err-print_counts
returns-in_err-print_counts g c =
    let door = c.printing.door + 1 in
    let first = get_or c.printing.rest.now 0 no_counts in
    let fault = err_from_is_err_and c.from_residual.result c.from_residual.ensures.1 in
    rw (fault.1, fault.2) (ended_line (counts_text 1 c.args.counts.now) (counts_text door c.printing.rest.now) (counts_line door first) _
    (g.O.Sink.shows c.args.out.now) (g.O.Sink.shows c.printing.out) c.printing.invariant.so_far
    (first_counts door first c.printing.rest.now _ (one_part no_counts c.printing.rest.now c.in-len1-up.len_at_least))
    _ (g.O.Sink.shows c.print_counts.new.out) c.in_err-print_counts.ensures)

pub printing-preserved : goal.printing-preserved
printing-preserved g c =
    let door = c.printing.door + 1 in
    let first = get_or c.printing.rest.now 0 no_counts in
    record {
      so_far = next_line (counts_text 1 c.args.counts.now) (counts_text door c.printing.rest.now) (counts_line door first) _
          (g.O.Sink.shows c.args.out.now) (g.O.Sink.shows c.printing.out) c.printing.invariant.so_far
          (first_counts door first c.printing.rest.now _ (one_part no_counts c.printing.rest.now c.in-len1-up.len_at_least))
          (g.O.Sink.shows c.print_counts.new.out) c.in_ok-print_counts.ensures.0 c.in_ok-print_counts.ensures.1;
      many = grind (arith, common_steps, c.printing.invariant.many);
    }
