-- If nothing failed, every connection is answered by what it gave.
use Rattle.std.specs.Prelude.{◌≡◌, ℕ, suc, ◌⊎◌, false, IsTrue, List, [], ◌∷◌, ◌++◌, take, Some, None}
use Rattle.farm_types.specs.Exits.{memory_status}
use Rattle.farm_types.specs.declared.placed.Word.{Word}
use Rattle.farm_types.specs.declared.ran.Ran.{Ran}
use Rattle.edge_traits.specs.declared.entries.Visit.{Visit}
use Rattle.edge_traits.specs.Causes.{Rose}
use Rattle.edge_traits.specs.Doors.{DoorView}
use Rattle.edge_traits.specs.Stations.{StationView}
use Rattle.edge_traits.specs.Sinks.{SinkView}
use Rattle.access_list.specs.declared.rule.Rule.{Rule}
use Rattle.daemon_service.specs.declared.compilers.Compiler.{Compiler}
use Rattle.daemon_worker.specs.declared.log.DaemonConfig.{DaemonConfig}
use Rattle.daemon_worker.specs.declared.log.DoorKit.{DoorKit}
use Rattle.daemon_worker.specs.declared.log.Entry.{Entry}
use Rattle.daemon_worker.specs.Logs.{DoorServed}
use Rattle.daemon_worker.specs.Rightness.{AllRight, AreCalm, NoneFailed}
use Rattle.farmd_options.specs.declared.options.Options.{Options}
use Rattle.farmd_options.specs.Options.{book_bound}
use Rattle.object_cache.specs.Stations.{cached_shows}
use Rattle.daemon_program.specs.Daemons.{IsConfig, doors_used}

-- the door records its visits, and over none of the new ones a call failed or a send took nothing
pub record CalmVisits (old new : DoorView) : Type 0 where
  pub told : IsTrue new.visits.known
  pub calm : (visits : List Visit) → new.visits.value ≡ old.visits.value ++ visits → AreCalm visits

module _ {A S : Type 0} (door : A → DoorView) (station : S → StationView) (ran : S → List Word → List ℕ → Ran → Type 0) where
  -- nothing failed at these doors
  abbrev pub AllSmooth : List (DoorKit A S) → List (DoorKit A S) → Type 0
  AllSmooth [] news = Unit {0}
  AllSmooth (old ∷ olds) [] = Unit {0}
  AllSmooth (old ∷ olds) (new ∷ news) =
      NoneFailed (door old.door) (door new.door) (station old.station) (station new.station) × CalmVisits (door old.door) (door new.door)
      × AllSmooth olds news

  -- the log of these doors, each of whose connections was answered rightly
  abbrev pub DoorsRight : List Compiler → List Rule → ℕ → ℕ → List (DoorKit A S) → List (DoorKit A S) → List Entry → Type 0
  DoorsRight table rules serve number [] [] log = log ≡ []
  DoorsRight table rules serve number [] (new ∷ news) log = ⊥
  DoorsRight table rules serve number (old ∷ olds) [] log = ⊥
  DoorsRight table rules serve number (old ∷ olds) (new ∷ news) log =
      (mine : List Entry) × (more : List Entry) × (log ≡ mine ++ more)
      × (served : DoorServed table rules serve number (ran new.station) (door old.door) (door new.door) (station old.station)
      (station new.station) mine)
      × AllRight served.cs × DoorsRight table rules serve (suc number) olds news more

  -- nothing failed: neither a used door or its station, nor the sink, and no send or write took nothing
  pub record IsSmooth (options : Options) (olds news : List (DoorKit A S)) (old new : SinkView) : Type 0 where
    pub doors : AllSmooth (take (doors_used options olds) olds) (take (doors_used options olds) news)
    pub sink : Rose old.faults new.faults → ⊥
    pub going : new.stopped ≡ false

module _ {A S : Type 0} (door : A → DoorView) (station : S → StationView) (ran : S → List Word → List ℕ → Ran → Type 0) where
  -- What was done, if nothing failed.
  pub data Completed (words : List (List ℕ)) (options : Options) (olds news : List (DoorKit A S)) (answer : ℕ) : Type 0 where
    -- memory ran out before anything was served
    nothing : news ≡ olds → answer ≡ memory_status → Completed words options olds news answer
    -- Without books: every connection was answered rightly, and the status is 0 or that of lack of memory.
    all : (config : DaemonConfig) (log : List Entry) → IsConfig words options config → book_bound options ≡ None
        → DoorsRight door station ran config.table.rows config.access.rules config.serve 1 (take (doors_used options olds) olds)
        (take (doors_used options olds) news) log
        → (answer ≡ 0) ⊎ (answer ≡ memory_status) → Completed words options olds news answer
    -- With books, the same by stations that record no runs.
    beside : (config : DaemonConfig) (log : List Entry) (bound : ℕ) → IsConfig words options config → book_bound options ≡ Some bound
        → DoorsRight door (λ s. cached_shows (station s)) ran config.table.rows config.access.rules config.serve 1
        (take (doors_used options olds) olds) (take (doors_used options olds) news) log
        → (answer ≡ 0) ⊎ (answer ≡ memory_status) → Completed words options olds news answer
