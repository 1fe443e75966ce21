-- What a load of a file is by what its reading gave.
use Rattle.std.specs.Prelude.{ℕ, ◌<◌, List, Result, Ok, Err}
use Rattle.edge_traits.specs.declared.faults.FetchFault.{FetchFault}
use Rattle.edge_traits.specs.declared.faults.FetchFault.TheVariants.{Failed as LoadFailed, Absent, TooMuch, Memory}
use Rattle.edge_streams.specs.declared.reading.Reading.{Reading}
use Rattle.edge_streams.specs.declared.reading.Reading.TheVariants.{Whole, Over, Failed}

-- what a load is by what its reading gave
abbrev pub load_of : Reading → Result (List ℕ) FetchFault
load_of (Whole bytes) = Ok bytes
load_of (Over bytes) = Err (TooMuch bytes)
load_of Failed = Err LoadFailed

-- a load that failed by the file's length names a length above the bound
abbrev pub IsLoadFault : ℕ → FetchFault → Type 0
IsLoadFault bound (TooMuch bytes) = bound < bytes
IsLoadFault bound LoadFailed = Unit {0}
IsLoadFault bound Absent = Unit {0}
IsLoadFault bound Memory = Unit {0}
