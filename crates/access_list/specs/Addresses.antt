-- IPv4 addresses in text.
use Rattle.std.specs.Prelude.{◌≡◌, ℕ, ◌+◌, ◌*◌, List, ◌∷◌, ◌++◌}
use Rattle.farm_types.specs.Decimals.{IsPlainDecimal}
use Rattle.farm_types.specs.Bytes.{dot}

-- a number of an address, a point, and the rest
pub record CutsNumber (text : List ℕ) (n : ℕ) (rest : List ℕ) : Type 0 where
  pub digits : List ℕ
  pub number : IsPlainDecimal 3 0 255 digits n
  pub parts : text ≡ digits ++ dot ∷ rest

-- four numbers of 1 to 3 digits without a leading zero, each at most 255, with points between
pub record IsAddress (text : List ℕ) (addr : ℕ) : Type 0 where
  pub a : ℕ
  pub b : ℕ
  pub c : ℕ
  pub d : ℕ
  pub behind_a : List ℕ
  pub behind_b : List ℕ
  pub behind_c : List ℕ
  pub first : CutsNumber text a behind_a
  pub second : CutsNumber behind_a b behind_b
  pub third : CutsNumber behind_b c behind_c
  pub fourth : IsPlainDecimal 3 0 255 behind_c d
  pub value : addr ≡ ((a * 256 + b) * 256 + c) * 256 + d
