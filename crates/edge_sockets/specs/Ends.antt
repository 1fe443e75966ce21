-- When the peer of a run has gone.
use Rattle.std.specs.Prelude.{ℕ, ◌-◌, nat_le, Bool, true, false, Option, Some, None}
use Rattle.std.specs.declared.time.Duration.{Duration}
use Rattle.std.specs.Duration.{as_nanos}

-- half a second
abbrev pub gone_nanos : ℕ
gone_nanos = 500_000_000

-- A peer has gone that failed, or was seen at least half a second ago to send no more.
abbrev pub is_gone : Bool → Option Duration → Duration → Bool
is_gone true ended now = true
is_gone false None now = false
is_gone false (Some ended) now = nat_le gone_nanos (as_nanos now - as_nanos ended)
