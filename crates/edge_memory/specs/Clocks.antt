-- What a clock that follows a script is in.
use Rattle.std.specs.Prelude.{ℕ, List, nat_lt}
use Rattle.edge_traits.specs.Clocks.{ClockView}
use Rattle.edge_memory.specs.declared.clock.MemClock.{MemClock}
use Rattle.edge_traits.specs.Calls.{greatest}
use Rattle.edge_memory.specs.Moments.{moments_of}

-- the script, and how many moments were given, counted up to the greatest u64
pub record ClockState : Type 0 where
  pub moments : List ℕ
  pub given : ℕ

abbrev pub clock_state : MemClock → ClockState
clock_state clock = record { moments = clock.moments; given = clock.given }

-- What it shows: the moments of its calls. Once the count is the greatest u64, they are no longer told.
abbrev pub clock_shows : ClockState → ClockView
clock_shows state = record { moments = record { known = nat_lt state.given greatest; value = moments_of state.moments state.given } }
