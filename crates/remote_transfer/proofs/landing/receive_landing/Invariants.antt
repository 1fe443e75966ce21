use Rattle.std.proofs.Common.{◌≡◌, ◌<◌, ◌≤◌, ◌-◌, length}
use Rattle.farm_types.specs.Limits.{piece_max}
use Rattle.remote_transfer.specs.Links.{OnlyReceives}
use Rattle.remote_transfer.specs.Landings.{KeeperStays}
use Rattle.remote_transfer.proofs.IntoFiles.{ReceivingInto}
use Rattle.remote_transfer.proofs.landing.receive_landing.Given as goal

abbrev pub invariant-receiving : goal.invariant-receiving
invariant-receiving g l =
    let old = g.L.Link.shows l.fn.link in
    let now = g.L.Link.shows l.link in
    record {
      room : 0 < length l.room;
      small : length l.room ≤ piece_max;
      shape : length l.room ≡ length l.fn.room;
      into : ReceivingInto old now l.reader l.have l.state l.path (g.K.Keeper.shows l.fn.keeper) (g.K.Keeper.shows l.keeper);
      receives : OnlyReceives g.L.Link.shows g.L.Link.follows l.fn.link l.link;
      stays : KeeperStays (g.K.Keeper.shows l.fn.keeper) (g.K.Keeper.shows l.keeper);
    }

-- A short reply has at most 35,651,643 bytes, and each turn receives once and adds at least one byte: so many receives are left.
abbrev pub decreases-receiving : goal.decreases-receiving
decreases-receiving g l = 35651644 - l.have
