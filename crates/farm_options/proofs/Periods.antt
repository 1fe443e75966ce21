-- One back-off period of each environment.
use Rattle.std.proofs.Common.{◌≡◌, ℕ, List, Option, Some, None, codes, refl, sym, ◌∙◌, inl}
use Rattle.std.specs.Prelude.{◌⊎◌, MatchOption}
use Rattle.farm_types.specs.Limits.{period_max, period_default}
use Rattle.farm_options.specs.Limits.{period_digits}
use Rattle.farm_options.specs.Numbers.{IsPeriod}
use Rattle.farm_options.specs.Environment.{value_of, PeriodOf, HasBadPeriod}
use Rattle.farm_types.proofs.DecimalLemmas.{decimal_or_none}

some_value : (value : Option (List ℕ)) → ((period : ℕ) × MatchOption value (period ≡ period_default) (λ v. IsPeriod v period))
    ⊎ MatchOption value ⊥ (λ v. (n : ℕ) → ¬ (IsPeriod v n))
some_value None = inl (period_default, refl)
some_value (Some value) = decimal_or_none period_digits 0 period_max value

one_value : (value : Option (List ℕ)) (one other : ℕ) → MatchOption value (one ≡ period_default) (λ v. IsPeriod v one)
    → MatchOption value (other ≡ period_default) (λ v. IsPeriod v other) → one ≡ other
one_value None one other h k = h ∙ sym k
one_value (Some value) one other h k = sym h.value ∙ k.value

apart_value : (value : Option (List ℕ)) (period : ℕ) → MatchOption value (period ≡ period_default) (λ v. IsPeriod v period)
    → MatchOption value ⊥ (λ v. (n : ℕ) → ¬ (IsPeriod v n)) → ⊥
apart_value None period h bad = bad
apart_value (Some value) period h bad = bad period h

pub some_period : (variables : List (List ℕ × List ℕ)) → ((period : ℕ) × PeriodOf variables period) ⊎ HasBadPeriod variables
some_period variables = some_value (value_of variables (codes "DISTCC_BACKOFF_PERIOD"))

pub one_period : (variables : List (List ℕ × List ℕ)) (one other : ℕ) → PeriodOf variables one → PeriodOf variables other → one ≡ other
one_period variables one other h k = one_value (value_of variables (codes "DISTCC_BACKOFF_PERIOD")) one other h k

pub no_bad_period : (variables : List (List ℕ × List ℕ)) (period : ℕ) → PeriodOf variables period → HasBadPeriod variables → ⊥
no_bad_period variables period h bad = apart_value (value_of variables (codes "DISTCC_BACKOFF_PERIOD")) period h bad
