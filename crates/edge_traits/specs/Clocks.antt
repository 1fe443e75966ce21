-- What a clock shows of its past.
use Rattle.std.specs.Prelude.{ℕ, List}
use Rattle.edge_traits.specs.Told.{Told}

-- the numbers that `now` gave, in order
pub record ClockView : Type 0 where
  pub moments : Told (List ℕ)
