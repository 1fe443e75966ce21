use Rattle.std.proofs.Common.{◌≡◌, ◌+◌, length}
use Rattle.daemon_program.specs.Sharing.{counts_text}
use Rattle.daemon_program.proofs.Telling.{SoFar}
use Rattle.daemon_program.proofs.share_printing.print_all_counts.Given as goal

abbrev pub invariant-printing : goal.invariant-printing
invariant-printing g l = record {
  so_far : SoFar (counts_text 1 l.fn.counts) (counts_text (l.door + 1) l.rest) (g.O.Sink.shows l.fn.out) (g.O.Sink.shows l.out);
  many : l.door + length l.rest ≡ length l.fn.counts;
}

abbrev pub decreases-printing : goal.decreases-printing
decreases-printing g l = length l.rest
