-- Why a job may fail.
use Rattle.std.specs.Prelude.{◌≤◌, ◌⊎◌}
use Rattle.edge_traits.specs.declared.cause.Cause.TheVariants.{Dial}
use Rattle.edge_traits.specs.Causes.{Rose, OneRose}
use Rattle.edge_traits.specs.Kits.{KitView}
use Rattle.edge_traits.specs.Stations.{StationView, StationStill}
use Rattle.farm_machine.specs.declared.reports.Why5.TheVariants.{Station, Put as NotPut, Broke, Fetch}
use Rattle.farm_machine.specs.declared.reports.End.{End}
use Rattle.farm_machine.specs.declared.reports.End.TheVariants.{Failed}

-- Each failure of a device goes with a rise of its count. What an exchange shows of its cause is a part of the course.
abbrev pub HasEndCause : End → KitView → KitView → Type 0
HasEndCause (Failed Station) old new = Rose old.station.faults new.station.faults ⊎ Rose old.station.overruns new.station.overruns
HasEndCause (Failed NotPut) old new = Rose old.keeper.faults new.keeper.faults
HasEndCause (Failed Fetch) old new = Rose old.keeper.faults new.keeper.faults ⊎ Rose old.keeper.overruns new.keeper.overruns
HasEndCause (Failed (Broke host Dial)) old new = Rose old.dialer.faults new.dialer.faults
HasEndCause other old new = Unit {0}

-- At an end by a failed run, which failed or gave too much, exactly one count of the station rose, by one. At any other end none rose.
abbrev pub StationStands : End → StationView → StationView → Type 0
StationStands (Failed Station) old new = OneRose old.faults new.faults old.overruns new.overruns
StationStands end old new = StationStill old new

-- the counts have not fallen
pub record KitLater (old new : KitView) : Type 0 where
  pub station : old.station.faults ≤ new.station.faults
  pub station_overruns : old.station.overruns ≤ new.station.overruns
  pub keeper : old.keeper.faults ≤ new.keeper.faults
  pub keeper_overruns : old.keeper.overruns ≤ new.keeper.overruns
  pub dialer : old.dialer.faults ≤ new.dialer.faults
