-- Which moments of its clock a job looked at.
use Rattle.std.specs.Prelude.{◌≡◌, ℕ, ◌<◌, ◌^◌, List, [], ◌∷◌, ◌++◌}
use Rattle.slot_table.specs.declared.calls.SlotCall.{SlotCall}
use Rattle.slot_table.specs.declared.calls.SlotCall.TheVariants.{Take, GiveBad}
use Rattle.slot_table.specs.declared.calls.CallEntry.{CallEntry}
use Rattle.slot_table.specs.Backoff.{bad_until}

-- The moments that one call goes with: that of a take of a host's slot, and for a give with a back-off the one from which the period
-- counts. Any other call goes with none.
abbrev pub AreMomentsOf : ℕ → SlotCall → List ℕ → Type 0
AreMomentsOf period (Take job mask now) moments = moments ≡ now ∷ []
AreMomentsOf period (GiveBad host job until) moments = (moment : ℕ) × (moment < 2 ^ 64) × (until ≡ bad_until moment period)
    × (moments ≡ moment ∷ [])
AreMomentsOf period call moments = moments ≡ []

-- the moments that some calls go with, in their order
abbrev pub AreMoments : ℕ → List CallEntry → List ℕ → Type 0
AreMoments period [] moments = moments ≡ []
AreMoments period (e ∷ calls) moments =
    (first : List ℕ) × (more : List ℕ) × AreMomentsOf period e.call first × AreMoments period calls more × (moments ≡ first ++ more)
