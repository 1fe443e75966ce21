use Rattle.std.proofs.Common.{◌≡◌, ◌≤◌, ◌-◌, false, length}
use Rattle.edge_traits.specs.Causes.{Still}
use Rattle.stream_print.specs.Reads.{TookIn}
use Rattle.stream_print.proofs.reads.read_input.Given as goal

abbrev pub invariant-reading : goal.invariant-reading
invariant-reading g l =
    let old = g.R.Source.shows l.fn.source in
    let now = g.R.Source.shows l.source in
    record {
      took : TookIn old now l.got;
      within : length l.got ≤ l.limit;
      ended : now.ended ≡ false;
      still : Still old.faults now.faults;
    }

abbrev pub decreases-reading : goal.decreases-reading
decreases-reading g l = l.limit - length l.got
