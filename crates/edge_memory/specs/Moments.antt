-- What a scripted clock gives.
use Rattle.std.specs.Prelude.{ℕ, zero, suc, ◌-◌, List, [], ◌∷◌, ◌++◌, length, slice_index, nat_lt, if◌then◌else◌}

-- the moment of a call, counted from 0: the last one if the script is used up, and 0 if it is empty
abbrev pub moment_at : List ℕ → ℕ → ℕ
moment_at moments call = if nat_lt call (length moments) then slice_index moments call else slice_index moments (length moments - 1)

-- the moments of the first calls, in order
abbrev pub moments_of : List ℕ → ℕ → List ℕ
moments_of moments zero = []
moments_of moments (suc calls) = moments_of moments calls ++ moment_at moments calls ∷ []
