-- When a program that runs for others is ended before its time, and what its run answers then.
use Rattle.std.specs.Prelude.{ℕ, ◌/◌, nat_le, min, max, Bool, true, false, Option, Some, None, Result, Ok, Err}
use Rattle.std.specs.declared.time.Duration.{Duration}
use Rattle.std.specs.Duration.{as_nanos}
use Rattle.edge_traits.specs.declared.faults.StationFault.{StationFault}
use Rattle.edge_traits.specs.declared.faults.StationFault.TheVariants.{Failed}
use Rattle.edge_programs.specs.declared.waiting.EarlyEnd.{EarlyEnd}
use Rattle.edge_programs.specs.declared.waiting.EarlyEnd.TheVariants.{Gone, Late}
use Rattle.edge_programs.specs.declared.waiting.Waited.{Waited}
use Rattle.edge_programs.specs.declared.waiting.Waited.TheVariants.{Ended, Early, Unknown}

-- A program has run for its lifetime, if it has one.
abbrev pub is_late : Duration → Option Duration → Bool
is_late passed None = false
is_late passed (Some lifetime) = nat_le (as_nanos lifetime) (as_nanos passed)

-- A program is ended early as `Gone` if its peer has gone, and else as `Late` if it has run for its lifetime.
abbrev pub early_end : Bool → Bool → Option EarlyEnd
early_end true late = Some Gone
early_end false true = Some Late
early_end false false = None

-- what the wait for a program gives its run: a status only if the program ended by itself
abbrev pub status_of : Waited → Result ℕ StationFault
status_of (Ended status) = Ok status
status_of (Early end) = Err Failed
status_of Unknown = Err Failed

-- a sixteenth of what has passed, at least 0.1 ms and at most 20 ms
abbrev pub pause_nanos : ℕ → ℕ
pause_nanos passed = min (max (passed / 16) 100_000) 20_000_000
