-- How a call changes the counts of a device.
use Rattle.std.specs.Prelude.{ℕ, Result, Ok, Err}
use Rattle.edge_traits.specs.declared.faults.EdgeFault.{EdgeFault}
use Rattle.edge_traits.specs.declared.faults.EdgeFault.TheVariants.{Failed, Memory}
use Rattle.edge_traits.specs.Calls.{one_more}

-- One more if the call failed. A call for which memory ran out isn't counted.
abbrev pub call_faults : {T : Type 0} → Result T EdgeFault → ℕ → ℕ
call_faults (Ok value) count = count
call_faults (Err Failed) count = one_more count
call_faults (Err Memory) count = count
