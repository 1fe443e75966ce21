-- What a door's station was asked, entry by entry.
use Rattle.std.specs.Prelude.{◌≡◌, ℕ, suc, List, [], ◌∷◌, ◌++◌, All, Result}
use Rattle.farm_types.specs.declared.placed.Word.{Word}
use Rattle.farm_types.specs.declared.ran.Ran.{Ran}
use Rattle.edge_traits.specs.declared.faults.Bounds.{Bounds}
use Rattle.edge_traits.specs.declared.faults.StationFault.{StationFault}
use Rattle.daemon_service.specs.declared.compilers.Compiler.{Compiler}
use Rattle.daemon_service.specs.Calls.{Calls}
use Rattle.daemon_worker.specs.declared.log.Met.{Met}
use Rattle.daemon_worker.specs.declared.log.Met.TheVariants as met
use Rattle.daemon_worker.specs.declared.log.Entry.{Entry}
use Rattle.daemon_worker.specs.declared.log.DoorKit.{DoorKit}

module _ {S : Type 0} (goes : S → List Word → List ℕ → Bounds → Result Ran StationFault → S → Type 0) (table : List Compiler) where
  -- What one connection did to the station. If nothing was served, the station is as before.
  abbrev pub MetCalls : S → S → Met → Type 0
  MetCalls before after (met.Served served) = Calls goes table before after served
  MetCalls before after (met.Denied addr rule) = after ≡ before
  MetCalls before after met.DoorFault = after ≡ before
  MetCalls before after met.DoorMemory = after ≡ before

  -- the station's way over these entries, one after the other
  abbrev pub Path : S → S → List Entry → Type 0
  Path before after [] = after ≡ before
  Path before after (entry ∷ entries) = (mid : S) × MetCalls before mid entry.what × Path mid after entries

  -- these entries are the door's, and this was the way of its station
  pub record DoorPath (door : ℕ) (before after : S) (entries : List Entry) : Type 0 where
    pub door_is : All (λ entry. entry.door ≡ door) entries
    pub path : Path before after entries

  -- a log grew by the entries of one door
  pub record PathGrew (door : ℕ) (before after : S) (log_before log_after : List Entry) : Type 0 where
    pub entries : List Entry
    pub is : DoorPath door before after entries
    pub grew : log_after ≡ log_before ++ entries

  -- the log is that of the doors one after the other, with numbers that go on from this one
  abbrev pub DoorsPaths : {A : Type 0} → ℕ → List (DoorKit A S) → List (DoorKit A S) → List Entry → Type 0
  DoorsPaths number [] [] log = log ≡ []
  DoorsPaths number [] (new ∷ news) log = ⊥
  DoorsPaths number (old ∷ olds) [] log = ⊥
  DoorsPaths number (old ∷ olds) (new ∷ news) log =
      (mine : List Entry) × (more : List Entry) × (log ≡ mine ++ more) × DoorPath number old.station new.station mine
      × DoorsPaths (suc number) olds news more
