-- What a station whose runs are scripted is in, and what a run does to it.
use Rattle.std.specs.Prelude.{◌≡◌, ℕ, List, [], ◌++◌, length, drop, true, false, nat_lt, Option, Some, None, Result, Ok, Err, if◌then◌else◌}
use Rattle.farm_types.specs.declared.ran.Ran.{Ran}
use Rattle.farm_types.specs.declared.placed.Word.{Word}
use Rattle.farm_types.specs.Rans.{nothing_ran}
use Rattle.edge_traits.specs.declared.entries.Run.{Run}
use Rattle.edge_traits.specs.declared.faults.Bounds.{Bounds}
use Rattle.edge_traits.specs.declared.faults.Stream.{Stream}
use Rattle.edge_traits.specs.declared.faults.Stream.TheVariants.{Out, Err as ErrStream, Object}
use Rattle.edge_traits.specs.declared.faults.StationFault.{StationFault}
use Rattle.edge_traits.specs.declared.faults.StationFault.TheVariants.{Failed, TooMuch, Memory}
use Rattle.edge_traits.specs.Told.{told}
use Rattle.edge_traits.specs.Stations.{StationView, has_output, run_entries, overruns_after_run}
use Rattle.edge_memory.specs.declared.station.MemStation.{MemStation}
use Rattle.edge_traits.specs.Calls.{names_next, one_more, failed_calls}
use Rattle.edge_memory.specs.Scripts.{first_or}

-- the runs that are still to be given, which calls fail, how many calls and overruns there were, both counted up to the greatest
-- u64, and the entries
pub record StationState : Type 0 where
  pub rans : List Ran
  pub fails : List ℕ
  pub made : ℕ
  pub overruns : ℕ
  pub runs : List Run

abbrev pub station_state : MemStation → StationState
station_state station = record {
  rans = station.rans.items;
  fails = station.calls.fails;
  made = station.calls.made;
  overruns = station.overruns;
  runs = station.runs;
}

-- what it shows
abbrev pub station_shows : StationState → StationView
station_shows station = record { runs = told station.runs; faults = failed_calls station.fails station.made; overruns = station.overruns }

-- the run as these words leave it: without an object if the words have no output
abbrev pub as_left : List Word → Ran → Ran
as_left words ran = if has_output words then ran else record ran { object = [] }

-- the run that is next, which is one of status 0 with nothing in it if the script is used up
abbrev pub next_ran : StationState → List Word → Ran
next_ran station words = as_left words (first_or nothing_ran station.rans)

-- the first stream that is above its bound, with its length
abbrev pub first_over : Bounds → Ran → Option (Stream × ℕ)
first_over bounds ran =
    if nat_lt bounds.out (length ran.out) then Some (Out, length ran.out)
    else if nat_lt bounds.err (length ran.err) then Some (ErrStream, length ran.err)
    else if nat_lt bounds.object (length ran.object) then Some (Object, length ran.object)
    else None

-- The next run may return this. Only the script decides which runs fail and which are above a bound. Any of the others may run out of memory.
abbrev pub IsRunAnswer : StationState → List Word → Bounds → Result Ran StationFault → Type 0
IsRunAnswer station words bounds (Ok ran) = (names_next station.fails station.made ≡ false)
    × (first_over bounds (next_ran station words) ≡ None) × (ran ≡ next_ran station words)
IsRunAnswer station words bounds (Err Failed) = names_next station.fails station.made ≡ true
IsRunAnswer station words bounds (Err (TooMuch stream bytes)) = (names_next station.fails station.made ≡ false)
    × (first_over bounds (next_ran station words) ≡ Some (stream, bytes))
IsRunAnswer station words bounds (Err Memory) = (names_next station.fails station.made ≡ false)
    × (first_over bounds (next_ran station words) ≡ None)

-- the script after a run: one that was given or was above its bound is used up
abbrev pub rans_after : List Ran → Result Ran StationFault → List Ran
rans_after rans (Ok ran) = drop 1 rans
rans_after rans (Err Failed) = rans
rans_after rans (Err (TooMuch stream bytes)) = drop 1 rans
rans_after rans (Err Memory) = rans

abbrev pub after_run : StationState → List Word → List ℕ → Result Ran StationFault → StationState
after_run station words input result = record station {
  made = one_more station.made;
  rans = rans_after station.rans result;
  overruns = overruns_after_run station.overruns result;
  runs = station.runs ++ run_entries words input result;
}
