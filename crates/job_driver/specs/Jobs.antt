-- The room that a worker's jobs need.
use Rattle.std.specs.Prelude.{◌≡◌, ℕ, ◌*◌, ◌+◌, ◌≤◌, Bool, true}
use Rattle.job_run.specs.Events.{events_max}

-- if the caller is the only one, it has room for `events_max` calls and one more for each job, and for one more at the end
abbrev pub HasRoomFor : Bool → ℕ → ℕ → Type 0
HasRoomFor alone jobs spare = alone ≡ true → (events_max + 1) * jobs + 1 ≤ spare
