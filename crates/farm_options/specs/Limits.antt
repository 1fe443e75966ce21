-- The limits of what the words and the environment say, and what holds if they say nothing.
use Rattle.std.specs.Prelude.{ℕ}
use Rattle.farm_types.specs.Limits.{hosts_max}

-- the most decimal digits of a number of workers, of jobs or of lines
abbrev pub count_digits : ℕ
count_digits = 3

-- the most decimal digits of a number of tries
abbrev pub tries_digits : ℕ
tries_digits = 2

-- the most exchanges that a job may make
abbrev pub tries_max : ℕ
tries_max = hosts_max

-- the exchanges if no number is given
abbrev pub tries_default : ℕ
tries_default = 1

-- the lines of a watched build if no number is given
abbrev pub lines_default : ℕ
lines_default = 10

-- the most decimal digits of a back-off period
abbrev pub period_digits : ℕ
period_digits = 7
