-- What a source shows of its past, and what a read does to it.
use Rattle.std.specs.Prelude.{◌≡◌, ℕ, Bool, IsTrue, List, ◌++◌}
use Rattle.edge_traits.specs.Told.{Told}

-- what was read, what is left, and whether the end was read
pub record SourceView : Type 0 where
  pub read : Told (List ℕ)
  pub left : Told (List ℕ)
  pub ended : Bool
  pub faults : ℕ

-- If what is left is told after a call, it was told before and began with these bytes.
pub record Lost (old new : Told (List ℕ)) (bytes : List ℕ) : Type 0 where
  pub known : IsTrue new.known → IsTrue old.known
  pub lost : IsTrue new.known → old.value ≡ bytes ++ new.value
