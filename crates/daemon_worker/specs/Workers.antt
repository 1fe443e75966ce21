-- The workers of some doors, and what each leaves.
use Rattle.std.specs.Prelude.{◌≡◌, ℕ, ◌+◌, ◌≤◌, List, [], Result, vec_len, vec_capacity}
use Rattle.farm_types.specs.declared.placed.Word.{Word}
use Rattle.farm_types.specs.declared.ran.Ran.{Ran}
use Rattle.edge_traits.specs.declared.faults.Bounds.{Bounds}
use Rattle.edge_traits.specs.declared.faults.StationFault.{StationFault}
use Rattle.edge_traits.specs.Doors.{DoorView}
use Rattle.edge_traits.specs.Stations.{StationView}
use Rattle.access_list.specs.declared.rule.Rule.{Rule}
use Rattle.daemon_service.specs.declared.compilers.Compiler.{Compiler}
use Rattle.daemon_worker.specs.declared.log.Entry.{Entry}
use Rattle.daemon_worker.specs.declared.log.DoorKit.{DoorKit}
use Rattle.daemon_worker.specs.declared.worker.Worker.{Worker}
use Rattle.daemon_worker.specs.Logs.{DoorServed}
use Rattle.daemon_worker.specs.Paths.{DoorPath}

abbrev pub kit_of : {A S : Type 0} → Worker A S → DoorKit A S
kit_of worker = worker.kit

abbrev pub log_of : {A S : Type 0} → Worker A S → List Entry
log_of worker = worker.log.items

-- an empty log, with room for that many entries
pub record IsRoom (serve : ℕ) (items : List Entry) (len capacity : ℕ) : Type 0 where
  pub empty : items ≡ []
  pub room : len + serve ≤ capacity

-- a worker whose log is empty, with room for that many entries
abbrev pub IsReady : {A S : Type 0} → ℕ → Worker A S → Type 0
IsReady serve worker = IsRoom serve worker.log.items (vec_len worker.log) (vec_capacity worker.log)

-- A worker served its door, of this number, and its log has exactly the entries of that. This was the way of its station.
abbrev pub Worked : {A S : Type 0} → List Compiler → List Rule → ℕ → (A → DoorView) → (S → StationView)
    → (S → List Word → List ℕ → Ran → Type 0) → (S → List Word → List ℕ → Bounds → Result Ran StationFault → S → Type 0) → ℕ
    → Worker A S → Worker A S → Type 0
Worked table rules serve door station ran goes number old new =
    DoorServed table rules serve number (ran new.kit.station) (door old.kit.door) (door new.kit.door) (station old.kit.station)
    (station new.kit.station) new.log.items
    × DoorPath goes table number old.kit.station new.kit.station new.log.items
