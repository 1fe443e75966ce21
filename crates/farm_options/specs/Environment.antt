-- What the environment says.
use Rattle.std.specs.Prelude.{◌≡◌, ℕ, Bool, false, ◌&&◌, not, List, [], ◌∷◌, codes, bytes_eq, Option, Some, None, unwrap_or, MatchOption}
use Rattle.std.specs.Prelude.{if◌then◌else◌}
use Rattle.farm_types.specs.Limits.{period_default}
use Rattle.farm_options.specs.Numbers.{IsPeriod}

-- the value of the first variable of this name; each variable is a name and a value
abbrev pub value_of : List (List ℕ × List ℕ) → List ℕ → Option (List ℕ)
value_of [] name = None
value_of (variable ∷ variables) name =
    if bytes_eq variable.0 name then Some variable.1 else value_of variables name

-- the text of the host list: that of the option, or else of `DISTCC_HOSTS`, or else the empty text
abbrev pub host_text_of : Option (List ℕ) → List (List ℕ × List ℕ) → List ℕ
host_text_of (Some text) variables = text
host_text_of None variables = unwrap_or (value_of variables (codes "DISTCC_HOSTS")) []

abbrev pub is_zero : Option (List ℕ) → Bool
is_zero None = false
is_zero (Some value) = bytes_eq value (codes "0")

-- neither `--no-fallback` nor `DISTCC_FALLBACK` turns fallback off
abbrev pub is_fallback_on : Bool → List (List ℕ × List ℕ) → Bool
is_fallback_on fallback variables = fallback && not (is_zero (value_of variables (codes "DISTCC_FALLBACK")))

-- the back-off period in seconds: that of `DISTCC_BACKOFF_PERIOD`, or the default if there is no such variable
abbrev pub PeriodOf : List (List ℕ × List ℕ) → ℕ → Type 0
PeriodOf variables period =
    MatchOption (value_of variables (codes "DISTCC_BACKOFF_PERIOD")) (period ≡ period_default) (λ value. IsPeriod value period)

-- there is such a variable, and its value is no period
abbrev pub HasBadPeriod : List (List ℕ × List ℕ) → Type 0
HasBadPeriod variables = MatchOption (value_of variables (codes "DISTCC_BACKOFF_PERIOD")) ⊥ (λ value. (n : ℕ) → ¬ (IsPeriod value n))
