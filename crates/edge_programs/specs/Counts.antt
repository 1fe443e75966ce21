-- How a run changes the counts of a station.
use Rattle.std.specs.Prelude.{ℕ, Result, Ok, Err}
use Rattle.edge_traits.specs.declared.faults.StationFault.{StationFault}
use Rattle.edge_traits.specs.declared.faults.StationFault.TheVariants.{Failed as RunFailed, TooMuch as RunTooMuch, Memory as RunMemory}
use Rattle.edge_traits.specs.Calls.{one_more}

-- a stream that is too long is no fault of the station, but an overrun
abbrev pub fault_of_run : StationFault → ℕ → ℕ
fault_of_run RunFailed count = one_more count
fault_of_run (RunTooMuch stream bytes) count = count
fault_of_run RunMemory count = count

abbrev pub overrun_of_run : StationFault → ℕ → ℕ
overrun_of_run RunFailed count = count
overrun_of_run (RunTooMuch stream bytes) count = one_more count
overrun_of_run RunMemory count = count

abbrev pub run_faults : {T : Type 0} → Result T StationFault → ℕ → ℕ
run_faults (Ok ran) count = count
run_faults (Err fault) count = fault_of_run fault count

abbrev pub run_overruns : {T : Type 0} → Result T StationFault → ℕ → ℕ
run_overruns (Ok ran) count = count
run_overruns (Err fault) count = overrun_of_run fault count
