use Rattle.std.proofs.Common.{length}
use Rattle.daemon_program.specs.Texts.{log_text}
use Rattle.daemon_program.proofs.Telling.{SoFar}
use Rattle.daemon_program.proofs.printing.print_lines.Given as goal

abbrev pub invariant-printing : goal.invariant-printing
invariant-printing g l = SoFar (log_text l.fn.log) (log_text l.rest) (g.O.Sink.shows l.fn.out) (g.O.Sink.shows l.out)

abbrev pub decreases-printing : goal.decreases-printing
decreases-printing g l = length l.rest
