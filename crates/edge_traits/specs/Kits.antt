-- What the devices of a kit show together.
use Rattle.edge_traits.specs.declared.kit.Kit.{Kit}
use Rattle.edge_traits.specs.Dialers.{DialerView}
use Rattle.edge_traits.specs.Stations.{StationView}
use Rattle.edge_traits.specs.Keepers.{KeeperView}
use Rattle.edge_traits.specs.Clocks.{ClockView}

pub record KitView : Type 0 where
  pub dialer : DialerView
  pub station : StationView
  pub keeper : KeeperView
  pub clock : ClockView

-- what a kit shows, by what its devices show
abbrev pub kit_view : {D S K C : Type 0} → (D → DialerView) → (S → StationView) → (K → KeeperView) → (C → ClockView) → Kit D S K C → KitView
kit_view dialer station keeper clock kit =
    record { dialer = dialer kit.dialer; station = station kit.station; keeper = keeper kit.keeper; clock = clock kit.clock }
