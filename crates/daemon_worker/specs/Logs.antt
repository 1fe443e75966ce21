-- The log of a door, and that of all doors.
use Rattle.std.specs.Prelude.{◌≡◌, ℕ, suc, ◌+◌, ◌≤◌, ◌⊎◌, Bool, true, false, List, [], ◌∷◌, ◌++◌, length, if◌then◌else◌}
use Rattle.std.specs.List.{flat_map}
use Rattle.farm_types.specs.declared.placed.Word.{Word}
use Rattle.farm_types.specs.declared.ran.Ran.{Ran}
use Rattle.edge_traits.specs.Told.{Grew}
use Rattle.edge_traits.specs.Causes.{RoseBy}
use Rattle.edge_traits.specs.Doors.{DoorView}
use Rattle.edge_traits.specs.Stations.{StationView}
use Rattle.access_list.specs.declared.rule.Rule.{Rule}
use Rattle.daemon_service.specs.declared.compilers.Compiler.{Compiler}
use Rattle.daemon_service.specs.declared.served.Served.TheVariants.{StationFault}
use Rattle.daemon_worker.specs.declared.log.Met.{Met}
use Rattle.daemon_worker.specs.declared.log.Met.TheVariants as met
use Rattle.daemon_worker.specs.declared.log.Entry.{Entry}
use Rattle.daemon_worker.specs.declared.log.DoorKit.{DoorKit}
use Rattle.daemon_worker.specs.Connections.{Connection, IsConnection, stops}

-- each connection is as its answer says
abbrev pub AreConnections : List Compiler → List Rule → (List Word → List ℕ → Ran → Type 0) → List Connection → Type 0
AreConnections table rules ran [] = Unit {0}
AreConnections table rules ran (c ∷ cs) = IsConnection table rules ran c × AreConnections table rules ran cs

-- the entries of some connections of a door, with numbers that go on from this one
abbrev pub numbered : ℕ → ℕ → List Connection → List Entry
numbered door number [] = []
numbered door number (c ∷ cs) = record { door = door; number = number; what = c.what } ∷ numbered door (suc number) cs

-- none of these is the last of its door
abbrev pub AreGoing : List Connection → Type 0
AreGoing [] = Unit {0}
AreGoing (c ∷ cs) = (stops c.what ≡ false) × AreGoing cs

-- the last one is the first after which no further connection is served, and there are at most as many as are to be served
pub record IsStopped (serve : ℕ) (cs : List Connection) : Type 0 where
  pub before : List Connection
  pub last : Connection
  pub parts : cs ≡ before ++ last ∷ []
  pub going : AreGoing before
  pub stopped : stops last.what ≡ true
  pub within : length cs ≤ serve

-- there are as many connections as are to be served, unless the last is a fault of the door or lack of memory at it
abbrev pub Ends : ℕ → List Connection → Type 0
Ends serve cs = (AreGoing cs × (length cs ≡ serve)) ⊎ IsStopped serve cs

abbrev pub is_station_fault : Met → Bool
is_station_fault (met.Served StationFault) = true
is_station_fault other = false

abbrev pub is_door_fault : Met → Bool
is_door_fault met.DoorFault = true
is_door_fault other = false

-- of how many connections this holds
abbrev pub count : (Met → Bool) → List Connection → ℕ
count test [] = 0
count test (c ∷ cs) = (if test c.what then 1 else 0) + count test cs

-- the faults and the overruns together rose by this number at least
pub record RoseTogether (number : ℕ) (before after : StationView) : Type 0 where
  pub faults : ℕ
  pub overruns : ℕ
  pub sum : faults + overruns ≡ number
  pub faults_rose : RoseBy faults before.faults after.faults
  pub overruns_rose : RoseBy overruns before.overruns after.overruns

-- These connections are all that the door and the station did, in order, and the faults among them are no more than their counts rose by.
pub record Did (table : List Compiler) (rules : List Rule) (ran : List Word → List ℕ → Ran → Type 0) (old new : DoorView)
    (before after : StationView) (cs : List Connection) : Type 0 where
  pub each : AreConnections table rules ran cs
  pub peers : Grew old.peers new.peers (flat_map (λ c. c.peers) cs)
  pub visits : Grew old.visits new.visits (flat_map (λ c. c.visits) cs)
  pub runs : Grew before.runs after.runs (flat_map (λ c. c.runs) cs)
  pub door_rise : RoseBy (count is_door_fault cs) old.faults new.faults
  pub station_rise : RoseTogether (count is_station_fault cs) before after

-- The entries of one door are those of its connections, numbered from 1.
pub record DoorServed (table : List Compiler) (rules : List Rule) (serve door : ℕ) (ran : List Word → List ℕ → Ran → Type 0)
    (old new : DoorView) (before after : StationView) (entries : List Entry) : Type 0 where
  pub cs : List Connection
  pub did : Did table rules ran old new before after cs
  pub entries_are : entries ≡ numbered door 1 cs
  pub ends : Ends serve cs

-- a log grew by the entries of one door
pub record LogGrew (table : List Compiler) (rules : List Rule) (serve door : ℕ) (ran : List Word → List ℕ → Ran → Type 0)
    (old new : DoorView) (before after : StationView) (log_before log_after : List Entry) : Type 0 where
  pub entries : List Entry
  pub served : DoorServed table rules serve door ran old new before after entries
  pub grew : log_after ≡ log_before ++ entries

-- The log is that of the doors one after the other, with numbers that go on from this one.
abbrev pub DoorsServed : {A S : Type 0} → List Compiler → List Rule → ℕ → (A → DoorView) → (S → StationView)
    → (S → List Word → List ℕ → Ran → Type 0) → ℕ → List (DoorKit A S) → List (DoorKit A S) → List Entry → Type 0
DoorsServed table rules serve door station ran number [] [] log = log ≡ []
DoorsServed table rules serve door station ran number [] (new ∷ news) log = ⊥
DoorsServed table rules serve door station ran number (old ∷ olds) [] log = ⊥
DoorsServed table rules serve door station ran number (old ∷ olds) (new ∷ news) log =
    (mine : List Entry) × (more : List Entry) × (log ≡ mine ++ more)
    × DoorServed table rules serve number (ran new.station) (door old.door) (door new.door) (station old.station) (station new.station) mine
    × DoorsServed table rules serve door station ran (suc number) olds news more

-- what a door's loop has done so far, which goes on
pub record SoFar (table : List Compiler) (rules : List Rule) (door number : ℕ) (ran : List Word → List ℕ → Ran → Type 0)
    (old new : DoorView) (before after : StationView) (log_before log_after : List Entry) : Type 0 where
  pub cs : List Connection
  pub did : Did table rules ran old new before after cs
  pub grew : log_after ≡ log_before ++ numbered door 1 cs
  pub going : AreGoing cs
  pub many : length cs ≡ number
