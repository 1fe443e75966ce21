-- Faults of the steps of a run.
use Rattle.edge_traits.specs.declared.faults.Bounds.{Bounds}
use Rattle.edge_traits.specs.declared.faults.StationFault.{StationFault}
use Rattle.edge_traits.specs.declared.faults.StationFault.TheVariants.{Failed, TooMuch, Memory}
use Rattle.std.proofs.Common.{ℕ, arith}
use Rattle.edge_traits.specs.declared.faults.Stream.{Stream}
use Rattle.edge_traits.specs.declared.faults.Stream.TheVariants.{Out, Err as ErrStream, Object}
use Rattle.edge_programs.specs.Children.{IsRunFault, IsStreamFault}
use Rattle.edge_runs.specs.Commands.{NamesNoStream}

-- a fault that names no stream is one of a run, whatever its bounds
pub unnamed : (bounds : Bounds) (fault : StationFault) → NamesNoStream fault → IsRunFault bounds fault
unnamed bounds Failed none = tt
unnamed bounds (TooMuch stream bytes) none = absurd none
unnamed bounds Memory none = tt

-- and one of any stream's reading, whatever its bound
pub unnamed_in : (one : Stream) (bound : ℕ) (fault : StationFault) → NamesNoStream fault → IsStreamFault one bound fault
unnamed_in one bound Failed none = tt
unnamed_in one bound (TooMuch stream bytes) none = absurd none
unnamed_in one bound Memory none = tt

pub of_out : (bounds : Bounds) (fault : StationFault) → IsStreamFault Out bounds.out fault → IsRunFault bounds fault
of_out bounds Failed is = tt
of_out bounds (TooMuch stream bytes) is = grind arith
of_out bounds Memory is = tt

pub of_err : (bounds : Bounds) (fault : StationFault) → IsStreamFault ErrStream bounds.err fault → IsRunFault bounds fault
of_err bounds Failed is = tt
of_err bounds (TooMuch stream bytes) is = grind arith
of_err bounds Memory is = tt

pub of_object : (bounds : Bounds) (fault : StationFault) → IsStreamFault Object bounds.object fault → IsRunFault bounds fault
of_object bounds Failed is = tt
of_object bounds (TooMuch stream bytes) is = grind arith
of_object bounds Memory is = tt
