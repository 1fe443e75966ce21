-- How many events a job and its parts write down at most. There is room for `events_max`.
use Rattle.std.specs.Prelude.{ℕ, ◌+◌, ◌*◌}
use Rattle.farm_types.specs.Limits.{hosts_max}

-- the most events of one job
abbrev pub events_max : ℕ
events_max = 64

-- the greatest place that an event can name
abbrev pub place_max : ℕ
place_max = 4294967295

-- the greatest place at which a job may begin, so that all its events have places
abbrev pub first_place_max : ℕ
first_place_max = 4294967231

-- a run in a local slot: the slot taken, the run, the slot given back
abbrev pub local_events : ℕ
local_events = 3

-- a run or an exchange in a slot of a host that was taken: itself, and the slot given back
abbrev pub lent_events : ℕ
lent_events = 2

-- one try: the slot taken, the exchange, the slot given back
abbrev pub try_events : ℕ
try_events = 1 + lent_events

-- as many tries as may be made, and the take that finds all hosts down
abbrev pub tries_events : ℕ
tries_events = hosts_max * try_events + 1

-- a compile elsewhere, and in place of it here
abbrev pub compile_events : ℕ
compile_events = tries_events + local_events

-- a job that is sent: its source, its compile, and its object
abbrev pub sent_events : ℕ
sent_events = 1 + compile_events + 1
