-- What reading a stream to its end gave.
use Rattle.std.specs.Prelude.{◌≡◌, ℕ, ◌+◌, ◌-◌, ◌^◌, ◌<◌, ◌≤◌, min, List, ◌++◌, length, Option, IfSome}
use Rattle.std.specs.Io.KnownBytes.{Consumes}
use Rattle.edge_streams.specs.declared.reading.Reading.{Reading}
use Rattle.edge_streams.specs.declared.reading.Reading.TheVariants.{Whole, Over, Failed}
use Rattle.edge_streams.specs.declared.reading.SoFar.{SoFar}

-- its bytes are within the bound, or their number is above it
abbrev pub IsReadWithin : ℕ → Reading → Type 0
IsReadWithin bound (Whole bytes) = length bytes ≤ bound
IsReadWithin bound (Over bytes) = bound < bytes
IsReadWithin bound Failed = Unit {0}

-- If the stream's bytes are known, these are its bytes, or this is their number, up to the greatest u64.
abbrev pub IsReadOf : Option (List ℕ) → Reading → Type 0
IsReadOf known (Whole bytes) = IfSome known (λ all. bytes ≡ all)
IsReadOf known (Over bytes) = IfSome known (λ all. bytes ≡ min (length all) (2 ^ 64 - 1))
IsReadOf known Failed = Unit {0}

-- what was read of a stream between two moments: what it had then and now, and what was so far read of it
pub record HasRead (before after : Option (List ℕ)) (bound : ℕ) (old new : SoFar) : Type 0 where
  pub read : List ℕ
  pub consumed : Consumes before after read
  -- up to the greatest u64
  pub counted : new.total ≡ min (old.total + length read) (2 ^ 64 - 1)
  -- within the bound all is kept
  pub kept : new.total ≤ bound → new.bytes ≡ old.bytes ++ read
