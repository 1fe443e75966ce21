-- How a call changes the counts of the files.
use Rattle.std.specs.Prelude.{ℕ, ◌==◌, ◌&&◌, not, List, length, Result, Ok, Err, if◌then◌else◌}
use Rattle.edge_traits.specs.declared.faults.EdgeFault.{EdgeFault}
use Rattle.edge_traits.specs.declared.faults.EdgeFault.TheVariants.{Failed as CallFailed, Memory as CallMemory}
use Rattle.edge_traits.specs.declared.faults.FetchFault.{FetchFault}
use Rattle.edge_traits.specs.declared.faults.FetchFault.TheVariants.{Failed, Absent, TooMuch, Memory}
use Rattle.edge_traits.specs.Calls.{one_more}

-- one more for an append that failed, or that took none of a piece with bytes
abbrev pub append_faults : Result ℕ EdgeFault → List ℕ → ℕ → ℕ
append_faults (Ok taken) piece count = if (taken == 0) && not (length piece == 0) then one_more count else count
append_faults (Err CallFailed) piece count = one_more count
append_faults (Err CallMemory) piece count = count

-- a file that isn't there or is too long is no fault of the files, but an overrun
abbrev pub fault_of_load : FetchFault → ℕ → ℕ
fault_of_load Failed count = one_more count
fault_of_load Absent count = count
fault_of_load (TooMuch bytes) count = count
fault_of_load Memory count = count

abbrev pub overrun_of_load : FetchFault → ℕ → ℕ
overrun_of_load Failed count = count
overrun_of_load Absent count = one_more count
overrun_of_load (TooMuch bytes) count = one_more count
overrun_of_load Memory count = count

abbrev pub load_faults : {T : Type 0} → Result T FetchFault → ℕ → ℕ
load_faults (Ok bytes) count = count
load_faults (Err fault) count = fault_of_load fault count

abbrev pub load_overruns : {T : Type 0} → Result T FetchFault → ℕ → ℕ
load_overruns (Ok bytes) count = count
load_overruns (Err fault) count = overrun_of_load fault count
