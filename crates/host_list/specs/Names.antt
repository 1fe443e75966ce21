-- Host names, ports and limits, as texts.
use Rattle.std.specs.Prelude.{ℕ, ◌≢◌, ◌≤◌, List, length, Bool, ◌||◌, ◌==◌, slice_index}
use Rattle.std.specs.List.{AllPass}
use Rattle.std.specs.Char.{is_ascii_alphanumeric}
use Rattle.farm_types.specs.Decimals.{IsDecimal}
use Rattle.farm_types.specs.Bytes.{dash, dot, underscore}
use Rattle.farm_types.specs.Limits.{slots_max, host_name_max, port_max}

-- a letter, a digit, `.`, `-` or `_`
abbrev pub is_host_name_byte : ℕ → Bool
is_host_name_byte c = is_ascii_alphanumeric c || c == dot || c == dash || c == underscore

-- the name of a host: 1 to 255 bytes that a name may have; the first isn't `-`
pub record IsHostName (name : List ℕ) : Type 0 where
  pub some : 1 ≤ length name
  pub few : length name ≤ host_name_max
  pub each : AllPass is_host_name_byte name
  pub first : slice_index name 0 ≢ dash

-- a TCP port: 1 to 65,535, in 1 to 5 digits
abbrev pub IsPort : List ℕ → ℕ → Type 0
IsPort digits port = IsDecimal 5 1 port_max digits port

-- a limit, or a number of slots: 1 to 255, in 1 to 3 digits
abbrev pub IsLimit : List ℕ → ℕ → Type 0
IsLimit digits limit = IsDecimal 3 1 slots_max digits limit
