use Rattle.std.proofs.Common.{◌≤◌, ◌-◌, length, take}
use Rattle.edge_traits.specs.Told.{Grew}
use Rattle.stream_print.specs.Prints.{GoesOn}
use Rattle.stream_print.proofs.one.print.Given as goal

abbrev pub invariant-printing : goal.invariant-printing
invariant-printing g l =
    let old = g.W.Sink.shows l.fn.sink in
    let now = g.W.Sink.shows l.sink in
    record {
      within : l.done ≤ length l.bytes;
      written : Grew old.written now.written (take l.done l.bytes);
      goes_on : GoesOn old now;
    }

abbrev pub decreases-printing : goal.decreases-printing
decreases-printing g l = length l.bytes - l.done
