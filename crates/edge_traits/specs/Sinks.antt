-- What a sink shows of its past.
use Rattle.std.specs.Prelude.{ℕ, Bool, List}
use Rattle.edge_traits.specs.Told.{Told}

-- what was written, and whether a write took nothing
pub record SinkView : Type 0 where
  pub written : Told (List ℕ)
  pub stopped : Bool
  pub faults : ℕ
