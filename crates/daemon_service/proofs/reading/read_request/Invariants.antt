use Rattle.std.proofs.Common.{◌≡◌, ◌<◌, ◌-◌, [], length}
use Rattle.edge_traits.specs.Told.{Grew}
use Rattle.edge_traits.specs.Causes.{Still}
use Rattle.daemon_service.specs.Parts.{Reading}
use Rattle.daemon_service.proofs.reading.read_request.Given as goal

abbrev pub invariant-receiving : goal.invariant-receiving
invariant-receiving g l =
    let old = g.L.Link.shows l.fn.link in
    let now = g.L.Link.shows l.link in
    record {
      room : 0 < length l.room;
      reading : Reading l.reader l.have old now;
      sent : Grew old.sent now.sent [];
      stopped : now.stopped ≡ old.stopped;
      follows : g.L.Link.follows l.fn.link l.link;
      still : Still old.faults now.faults;
    }

-- A short request has at most 34,615,331 bytes, and each turn receives once and adds at least one byte: so many receives are left.
abbrev pub decreases-receiving : goal.decreases-receiving
decreases-receiving g l = 34615332 - l.have
