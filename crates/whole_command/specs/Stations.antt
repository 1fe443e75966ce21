-- The station below one that preprocesses, and whether it compiles too.
use Rattle.std.specs.Prelude.{◌≡◌, ℕ, ◌≤◌, Bool, false, List, [], Result, Err}
use Rattle.farm_types.specs.declared.placed.Word.{Word}
use Rattle.farm_types.specs.declared.ran.Ran.{Ran}
use Rattle.edge_traits.specs.declared.faults.Bounds.{Bounds}
use Rattle.edge_traits.specs.declared.faults.StationFault.{StationFault}
use Rattle.edge_traits.specs.declared.faults.StationFault.TheVariants.{Memory}
use Rattle.edge_traits.specs.Stations.{StationView, IsWithin, has_output}
use Rattle.whole_command.specs.declared.station.PreprocessorStation.{PreprocessorStation}

abbrev pub inner_of : {S : Type 0} → PreprocessorStation S → S
inner_of station = station.inner

abbrev pub compiles_too : {S : Type 0} → PreprocessorStation S → Bool
compiles_too station = station.compiles

-- A run returned out of memory, and the station below wasn't asked.
pub record Refuses {S : Type 0} (old new : PreprocessorStation S) (result : Result Ran StationFault) : Type 0 where
  pub refused : result ≡ Err Memory
  pub unasked : inner_of new ≡ inner_of old

-- A run of these words on this input may leave this: it is within the bounds, programs may leave it, and it has an object only if a word is
-- its placeholder.
pub record MayLeave (bounds : Bounds) (Programs : List Word → List ℕ → Ran → Type 0) (words : List Word) (input : List ℕ)
    (left : Ran) : Type 0 where
  pub within : IsWithin bounds left
  pub ran : Programs words input left
  pub no_object : has_output words ≡ false → left.object ≡ []

-- no count fell
pub record NoneFell (old new : StationView) : Type 0 where
  pub faults : old.faults ≤ new.faults
  pub overruns : old.overruns ≤ new.overruns
