-- A token: a name of four letters, and eight hexadecimal digits.
use Rattle.std.specs.Prelude.{ℕ, zero, suc, ◌≡◌, ◌≢◌, ◌+◌, ◌-◌, ◌*◌, ◌/◌, ◌%◌, ◌^◌, ◌<◌, ◌≤◌, List, [], ◌∷◌, ◌++◌, length, take, drop}
use Rattle.std.specs.Prelude.{slice_index, nat_lt, nat_le, Bool, false, ◌&&◌, ◌||◌, if◌then◌else◌}
use Rattle.std.specs.List.{AllPass}

-- 0 to 9, a to f or A to F
abbrev pub is_hex_digit : ℕ → Bool
is_hex_digit c = (nat_le 48 c && nat_le c 57) || (nat_le 97 c && nat_le c 102) || (nat_le 65 c && nat_le c 70)

-- the value of a digit of either case
abbrev pub digit_of : ℕ → ℕ
digit_of c = if nat_le c 57 then c - 48 else if nat_le 97 c then c - 87 else c - 55

-- the value of digits, the most significant first
abbrev pub number_of : List ℕ → ℕ
number_of [] = 0
number_of (c ∷ cs) = digit_of c * 16 ^ length cs + number_of cs

-- text is a token of this name and number, in digits of either case
pub record IsToken (name : List ℕ) (n : ℕ) (text : List ℕ) : Type 0 where
  pub digits : List ℕ
  pub spelled : text ≡ name ++ digits
  pub eight : length digits ≡ 8
  pub each : AllPass is_hex_digit digits
  pub value : number_of digits ≡ n

-- the lower-case digit of a number below 16
abbrev pub lower_digit : ℕ → ℕ
lower_digit d = if nat_lt d 10 then 48 + d else 87 + d

-- this many lower-case digits of n, the most significant first
unfoldable pub lower_digits : ℕ → ℕ → List ℕ
lower_digits zero n = []
lower_digits (suc k) n = lower_digits k (n / 16) ++ lower_digit (n % 16) ∷ []

-- the token in lower-case digits
abbrev pub token : List ℕ → ℕ → List ℕ
token name n = name ++ lower_digits 8 n

-- the byte at this place of text is the first that isn't the name's
pub record IsWrongName (name text : List ℕ) (at : ℕ) : Type 0 where
  pub in_name : at < 4
  pub there : at < length text
  pub before : take at text ≡ take at name
  pub differs : slice_index text at ≢ slice_index name at

-- text begins with the name, and the byte at this place is the first that is no digit of the eight after it
pub record IsBadDigit (name text : List ℕ) (at : ℕ) : Type 0 where
  pub named : take 4 text ≡ name
  pub after_name : 4 ≤ at
  pub in_token : at < 12
  pub there : at < length text
  pub before : AllPass is_hex_digit (take (at - 4) (drop 4 text))
  pub no_digit : is_hex_digit (slice_index text at) ≡ false
