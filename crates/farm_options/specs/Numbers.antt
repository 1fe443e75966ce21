-- The numbers that words spell.
use Rattle.std.specs.Prelude.{ℕ, List, Option}
use Rattle.farm_types.specs.Decimals.{IsDecimal, decimal_of}
use Rattle.farm_types.specs.Limits.{workers_max, jobs_max, lines_max, period_max}
use Rattle.farm_options.specs.Limits.{count_digits, tries_digits, tries_max, period_digits}

-- the number of `--workers`
abbrev pub workers_number : List ℕ → Option ℕ
workers_number word = decimal_of count_digits 1 workers_max word

-- the number of `--tries`
abbrev pub tries_number : List ℕ → Option ℕ
tries_number word = decimal_of tries_digits 1 tries_max word

-- the number of `--lines`
abbrev pub lines_number : List ℕ → Option ℕ
lines_number word = decimal_of count_digits 1 lines_max word

-- the number of jobs of a rehearsal
abbrev pub jobs_number : List ℕ → Option ℕ
jobs_number word = decimal_of count_digits 1 jobs_max word

-- the word spells this back-off period
abbrev pub IsPeriod : List ℕ → ℕ → Type 0
IsPeriod word n = IsDecimal period_digits 0 period_max word n
