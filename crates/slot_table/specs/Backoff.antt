-- How long the back-off of a host is after a failure: the host is not used then.
use Rattle.std.specs.Prelude.{ℕ, ◌+◌, ◌-◌, ◌^◌, min}

-- the moment that many seconds later, or the greatest one if that is past it
abbrev pub bad_until : ℕ → ℕ → ℕ
bad_until now period = min (now + period) (2 ^ 64 - 1)
