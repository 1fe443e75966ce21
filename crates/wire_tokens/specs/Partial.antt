-- A token that comes byte by byte, as a part of a text of a format.
use Rattle.std.specs.Prelude.{ℕ, ◌≡◌, ◌<◌, List, length, Option, Some, None, Result, Ok, Err}
use Rattle.wire_tokens.specs.declared.token.Scan.{Scan}
use Rattle.wire_tokens.specs.declared.token.Scan.TheVariants.{Number, WrongName, BadDigit, Short}
use Rattle.wire_tokens.specs.declared.token.TokenFault.{TokenFault}
use Rattle.wire_tokens.specs.declared.token.TokenFault.TheVariants as faults
use Rattle.wire_tokens.specs.Scan.{scan_of}
use Rattle.wire_tokens.specs.Format.{Due, Format}

-- a token's number if it is whole, or why it is none
abbrev pub number_in : Scan → Result (Option ℕ) TokenFault
number_in (Number n) = Ok (Some n)
number_in (WrongName at) = Err (faults.WrongName at)
number_in (BadDigit at) = Err (faults.BadDigit at)
number_in Short = Ok None

-- what these bytes are to a token of this name
abbrev pub number_so_far : List ℕ → List ℕ → Result (Option ℕ) TokenFault
number_so_far name bytes = number_in (scan_of name bytes)

-- the place of a fault in its token
abbrev pub place_in_token : TokenFault → ℕ
place_in_token (faults.WrongName at) = at
place_in_token (faults.BadDigit at) = at

-- a format's fault for a token that is none
abbrev pub fault_in : {F : Type 0} → Format F → TokenFault → F
fault_in format (faults.WrongName at) = format.wrong_name
fault_in format (faults.BadDigit at) = format.bad_digit

-- these bytes are a token's that is due, and not all of it
pub record IsShortToken {F : Type 0} (due : Due F) (bytes : List ℕ) : Type 0 where
  pub partial : length bytes < 12
  pub short : scan_of due.name bytes ≡ Short

-- these bytes are the token that is due, of this number, which is right
pub record IsDueToken {F : Type 0} (due : Due F) (bytes : List ℕ) (n : ℕ) : Type 0 where
  pub whole : length bytes ≡ 12
  pub number : scan_of due.name bytes ≡ Number n
  pub right : due.refused n ≡ None
