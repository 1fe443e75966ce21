-- What is seen of the devices of a kit.
use Rattle.edge_traits.specs.declared.kit.Kit.{Kit}
use Rattle.edge_traits.specs.Clocks.{ClockView}
use Rattle.edge_traits.specs.Dialers.{DialerView}
use Rattle.edge_traits.specs.Keepers.{KeeperView}
use Rattle.edge_traits.specs.Stations.{StationView}
use Rattle.edge_traits.specs.Kits.{KitView, kit_view}
use Rattle.farm_machine.specs.Honest.{Peers, Programs}

-- what is seen of kits: what they show of their past, what their peers may give, and what their programs may leave
pub record Devices (K : Type 0) : Type 1 where
  pub shows : K → KitView
  pub peers : K → Peers
  pub programs : K → Programs

abbrev pub devices : {D S K C : Type 0} → (D → DialerView) → (S → StationView) → (K → KeeperView) → (C → ClockView) → (D → Peers)
    → (S → Programs) → Devices (Kit D S K C)
devices dialer station keeper clock peers programs =
    record { shows = kit_view dialer station keeper clock; peers = λ kit. peers kit.dialer; programs = λ kit. programs kit.station }
