-- What one connection did to a door and a station.
use Rattle.std.specs.Prelude.{◌≡◌, ℕ, List}
use Rattle.farm_types.specs.declared.placed.Word.{Word}
use Rattle.farm_types.specs.declared.ran.Ran.{Ran}
use Rattle.edge_traits.specs.Told.{Grew}
use Rattle.edge_traits.specs.Causes.{Rose, Still}
use Rattle.edge_traits.specs.Doors.{DoorView}
use Rattle.edge_traits.specs.Stations.{StationView, StationStill}
use Rattle.access_list.specs.declared.rule.Rule.{Rule}
use Rattle.daemon_service.specs.declared.compilers.Compiler.{Compiler}
use Rattle.daemon_service.specs.Services.{StationCause}
use Rattle.daemon_worker.specs.declared.log.Met.{Met}
use Rattle.daemon_worker.specs.declared.log.Met.TheVariants as met
use Rattle.daemon_worker.specs.Connections.{Connection, IsConnection}

-- A fault of the door, or of the station, goes with a rise of its counts. With any other answer these stay the same.
abbrev pub MetCause : Met → DoorView → DoorView → StationView → StationView → Type 0
MetCause (met.Served served) old new before after = Still old.faults new.faults × StationCause served before after
MetCause (met.Denied addr rule) old new before after = Still old.faults new.faults × StationStill before after
MetCause met.DoorFault old new before after = Rose old.faults new.faults × StationStill before after
MetCause met.DoorMemory old new before after = Still old.faults new.faults × StationStill before after

-- There was one connection, which the answer describes. If the door and the station record their lists, these grew by exactly what it added.
pub record Meets (table : List Compiler) (rules : List Rule) (ran : List Word → List ℕ → Ran → Type 0) (old new : DoorView)
    (before after : StationView) (what : Met) : Type 0 where
  pub c : Connection
  pub is_what : c.what ≡ what
  pub is : IsConnection table rules ran c
  pub peers : Grew old.peers new.peers c.peers
  pub visits : Grew old.visits new.visits c.visits
  pub runs : Grew before.runs after.runs c.runs
  pub cause : MetCause what old new before after
