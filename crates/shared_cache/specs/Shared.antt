-- Stations beside one book, and what a run does to one.
use Rattle.std.specs.Prelude.{◌≡◌, ℕ, true, false, List, Option, Some, None, Result, Ok}
use Rattle.farm_types.specs.declared.placed.Word.{Word}
use Rattle.farm_types.specs.declared.ran.Ran.{Ran}
use Rattle.edge_traits.specs.Calls.{one_more}
use Rattle.edge_traits.specs.declared.faults.Bounds.{Bounds}
use Rattle.edge_traits.specs.declared.faults.StationFault.{StationFault}
use Rattle.edge_traits.specs.Stations.{StationView, IsWithin}
use Rattle.object_cache.specs.Entries.{Entry, is_of}
use Rattle.object_cache.specs.Keys.{is_cacheable}
use Rattle.object_cache.specs.Stations.{IsAsked}
use Rattle.shared_cache.specs.declared.station.Counts.{Counts}

-- A run that may be kept: the programs may leave it, and it ended with status 0.
pub record MayBeKept (may : List Word → List ℕ → Ran → Type 0) (words : List Word) (input : List ℕ) (ran : Ran) : Type 0 where
  pub left : may words input ran
  pub well : ran.status ≡ 0

-- A run that may be kept, and whose streams are within the bounds.
pub record IsAnswer (may : List Word → List ℕ → Ran → Type 0) (bounds : Bounds) (words : List Word) (input : List ℕ)
    (ran : Ran) : Type 0 where
  pub within : IsWithin bounds ran
  pub kept : MayBeKept may words input ran

-- what is answered may be answered to the run
abbrev pub MayAnswer : (List Word → List ℕ → Ran → Type 0) → Bounds → List Word → List ℕ → Option Ran → Type 0
MayAnswer may bounds words input (Some ran) = IsAnswer may bounds words input ran
MayAnswer may bounds words input None = Unit {0}

-- the entry is of these words and this input, and its streams are within the bounds
pub record IsHit (bounds : Bounds) (words : List Word) (input : List ℕ) (entry : Entry) : Type 0 where
  pub same : is_of words input entry ≡ true
  pub within : IsWithin bounds entry.ran

-- an entry answers exactly that
abbrev pub Answers : Bounds → List Word → List ℕ → Entry → Option Ran → Type 0
Answers bounds words input entry (Some ran) = IsHit bounds words input entry × (ran ≡ entry.ran)
Answers bounds words input entry None = IsHit bounds words input entry → ⊥

-- a station beside the book, and its own counts
pub record Shared (S : Type 0) : Type 0 where
  pub station : S
  pub counts : Counts

abbrev pub no_counts : Counts
no_counts = record { hits = 0; misses = 0 }

abbrev pub after_hit : Counts → Counts
after_hit counts = record counts { hits = one_more counts.hits }

abbrev pub after_miss : Counts → Counts
after_miss counts = record counts { misses = one_more counts.misses }

-- What a run is and does. A hit: the answer is one that the programs may leave, it ended with status 0, and the station isn't
-- asked. A miss: the station is asked once. A run that isn't cacheable: the station is asked once, and nothing is counted.
pub data SharedRun {S : Type 0} (shows : S → StationView) (ran : S → List Word → List ℕ → Ran → Type 0)
    (goes : S → List Word → List ℕ → Bounds → Result Ran StationFault → S → Type 0) (words : List Word) (input : List ℕ)
    (bounds : Bounds) (old new : Shared S) (result : Result Ran StationFault) : Type 0 where
  hit : (left : Ran) → is_cacheable words input ≡ true → result ≡ Ok left → IsAnswer (ran old.station) bounds words input left
      → new.station ≡ old.station → new.counts ≡ after_hit old.counts → SharedRun shows ran goes words input bounds old new result
  miss : is_cacheable words input ≡ true → IsAsked shows goes words input bounds old.station new.station result
      → new.counts ≡ after_miss old.counts → SharedRun shows ran goes words input bounds old new result
  direct : is_cacheable words input ≡ false → IsAsked shows goes words input bounds old.station new.station result
      → new.counts ≡ old.counts → SharedRun shows ran goes words input bounds old new result
