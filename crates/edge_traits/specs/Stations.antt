-- What a station shows of its past, and what a run does to it.
use Rattle.std.specs.Prelude.{ℕ, ◌<◌, ◌≤◌, Bool, true, false, List, [], ◌∷◌, length, Result, Ok, Err}
use Rattle.std.specs.List.{list_any}
use Rattle.farm_types.specs.Limits.{object_max, child_err_max, compile_out_max}
use Rattle.farm_types.specs.declared.ran.Ran.{Ran}
use Rattle.farm_types.specs.declared.placed.Word.{Word}
use Rattle.farm_types.specs.declared.placed.Word.TheVariants.{Text, Input, Output}
use Rattle.edge_traits.specs.declared.faults.Bounds.{Bounds}
use Rattle.edge_traits.specs.declared.faults.Stream.{Stream}
use Rattle.edge_traits.specs.declared.faults.Stream.TheVariants.{Out, Err as ErrStream, Object}
use Rattle.edge_traits.specs.declared.faults.StationFault.{StationFault}
use Rattle.edge_traits.specs.declared.faults.StationFault.TheVariants.{Failed, TooMuch, Memory}
use Rattle.edge_traits.specs.declared.entries.Run.{Run}
use Rattle.edge_traits.specs.Calls.{one_more}
use Rattle.edge_traits.specs.Told.{Told}
use Rattle.edge_traits.specs.Causes.{RoseOnce, Still}

-- what a station shows
pub record StationView : Type 0 where
  pub runs : Told (List Run)
  pub faults : ℕ
  pub overruns : ℕ

-- the entries that a run adds: one at `Ok`
abbrev pub run_entries : {E : Type 0} → List Word → List ℕ → Result Ran E → List Run
run_entries words input (Ok ran) = record { words = words; input = input; ran = ran } ∷ []
run_entries words input (Err fault) = []

abbrev pub is_output : Word → Bool
is_output (Text bytes) = false
is_output (Input ext) = false
is_output Output = true

-- one of the words is the placeholder of the object
abbrev pub has_output : List Word → Bool
has_output words = list_any is_output words

-- each stream is within its bound
pub record IsWithin (bounds : Bounds) (ran : Ran) : Type 0 where
  pub out : length ran.out ≤ bounds.out
  pub err : length ran.err ≤ bounds.err
  pub object : length ran.object ≤ bounds.object

abbrev pub bound_of : Bounds → Stream → ℕ
bound_of bounds Out = bounds.out
bound_of bounds ErrStream = bounds.err
bound_of bounds Object = bounds.object

-- the most bytes of what a compile gives
abbrev pub compile_bounds : Bounds
compile_bounds = record { out = compile_out_max; err = child_err_max; object = object_max }

-- neither the faults nor the overruns rose
pub record StationStill (old new : StationView) : Type 0 where
  pub faults : Still old.faults new.faults
  pub overruns : Still old.overruns new.overruns

-- a run failed, which is one fault and no overrun
pub record IsFailedRun (old new : StationView) : Type 0 where
  pub rose : RoseOnce old.faults new.faults
  pub calm : Still old.overruns new.overruns

-- the stream has that many bytes, above its bound, which is one overrun and no fault
pub record IsTooMuch (bounds : Bounds) (stream : Stream) (bytes : ℕ) (old new : StationView) : Type 0 where
  pub rose : RoseOnce old.overruns new.overruns
  pub calm : Still old.faults new.faults
  pub above : bound_of bounds stream < bytes

-- when a failed run may return this fault
abbrev pub RunFault : Bounds → StationView → StationView → StationFault → Type 0
RunFault bounds old new Failed = IsFailedRun old new
RunFault bounds old new (TooMuch stream bytes) = IsTooMuch bounds stream bytes old new
RunFault bounds old new Memory = StationStill old new

-- the overruns after a run: one more for a run that gave too much, counted up to the greatest u64
abbrev pub overruns_after_run : ℕ → Result Ran StationFault → ℕ
overruns_after_run overruns (Ok ran) = overruns
overruns_after_run overruns (Err Failed) = overruns
overruns_after_run overruns (Err (TooMuch stream bytes)) = one_more overruns
overruns_after_run overruns (Err Memory) = overruns
