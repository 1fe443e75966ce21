-- Decimal numbers in texts.
use Rattle.std.specs.Prelude.{ℕ, ◌≡◌, ◌≤◌, ◌==◌, ◌&&◌, nat_le, nat_lt, Bool, true, false, List, [], ◌∷◌, length, Option, Some, None}
use Rattle.std.specs.Prelude.{if◌then◌else◌}
use Rattle.std.specs.Char.{digit_value}
use Rattle.std.specs.Str.Parse.{AllDigits, digits_value}

-- a number from the least to the greatest, in 1 to `digits` decimal digits; it may begin with zeros
pub record IsDecimal (digits least greatest : ℕ) (text : List ℕ) (n : ℕ) : Type 0 where
  pub some : 1 ≤ length text
  pub few : length text ≤ digits
  pub each : AllDigits 10 text
  pub value : digits_value 10 text ≡ n
  pub low : least ≤ n
  pub high : n ≤ greatest

-- the text begins with a zero, and at least one byte follows
abbrev pub leads_by_zero : List ℕ → Bool
leads_by_zero [] = false
leads_by_zero (first ∷ []) = false
leads_by_zero (first ∷ second ∷ more) = first == 48

-- such a number, with no zero before other digits
pub record IsPlainDecimal (digits least greatest : ℕ) (text : List ℕ) (n : ℕ) : Type 0 where
  pub number : IsDecimal digits least greatest text n
  pub plain : leads_by_zero text ≡ false

-- ---- the same as functions

-- each byte is a decimal digit
abbrev pub all_digits : List ℕ → Bool
all_digits [] = true
all_digits (byte ∷ bytes) = nat_lt (digit_value byte) 10 && all_digits bytes

-- whether the text is 1 to `digits` decimal digits of a number from the least to the greatest
abbrev pub is_decimal : ℕ → ℕ → ℕ → List ℕ → Bool
is_decimal digits least greatest text = nat_le 1 (length text) && nat_le (length text) digits && all_digits text
    && nat_le least (digits_value 10 text) && nat_le (digits_value 10 text) greatest

-- the number that the text is
abbrev pub decimal_of : ℕ → ℕ → ℕ → List ℕ → Option ℕ
decimal_of digits least greatest text = if is_decimal digits least greatest text then Some (digits_value 10 text) else None

-- the number that the text is; None if it isn't one, or if a zero is before its other digits
abbrev pub plain_decimal_of : ℕ → ℕ → ℕ → List ℕ → Option ℕ
plain_decimal_of digits least greatest text = if leads_by_zero text then None else decimal_of digits least greatest text
