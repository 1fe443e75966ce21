use Rattle.std.proofs.Common.{◌≡◌, ◌≤◌, ◌-◌, [], length, take}
use Rattle.edge_traits.specs.Told.{Grew}
use Rattle.edge_traits.specs.Causes.{Still}
use Rattle.edge_traits.proofs.sending.send_all.Given as goal

abbrev pub invariant-loop-sent : goal.invariant-loop-sent
invariant-loop-sent g l =
    let old = g.L.Link.shows l.fn.link in
    let now = g.L.Link.shows l.link in
    record {
      within : l.sent ≤ length l.bytes;
      grew : Grew old.sent now.sent (take l.sent l.bytes);
      given : Grew old.given now.given [];
      ended : now.ended ≡ old.ended;
      stopped : now.stopped ≡ old.stopped;
      follows : g.L.Link.follows l.fn.link l.link;
      still : Still old.faults now.faults;
    }

abbrev pub decreases-loop-sent : goal.decreases-loop-sent
decreases-loop-sent g l = length l.bytes - l.sent
