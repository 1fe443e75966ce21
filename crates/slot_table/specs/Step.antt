-- What one call does to the slots, and what it answers.
use Rattle.std.specs.Prelude.{◌≡◌, ℕ, ◌+◌, ◌-◌, ◌%◌, ◌<◌, max, Bool, true, false, ◌&&◌, ◌||◌, not, if◌then◌else◌, List, ◌++◌, take, drop}
use Rattle.std.specs.Prelude.{find, replicate, slice_index, slice_set, Option, Some, None, nat_lt}
use Rattle.std.specs.List.{range_with_len, list_all}
use Rattle.slot_table.specs.declared.limits.Limits.{Limits}
use Rattle.slot_table.specs.declared.state.SlotState.{SlotState}
use Rattle.slot_table.specs.declared.mask.Mask.{Mask}
use Rattle.slot_table.specs.declared.calls.SlotCall.{SlotCall}
use Rattle.slot_table.specs.declared.calls.SlotCall.TheVariants.{Draw, Take, Give, GiveBad, TakeLocal, GiveLocal}
use Rattle.slot_table.specs.declared.calls.SlotReply.{SlotReply}
use Rattle.slot_table.specs.declared.calls.SlotReply.TheVariants.{Drawn, Got, Full, Down, Local, Given}
use Rattle.slot_table.specs.Limits.{is_local}
use Rattle.slot_table.specs.Mask.{in_mask}

-- the state in which nothing was called yet
abbrev pub opening : (h : ℕ) → SlotState h
opening h = record { next = 0; local_held = 0; held = replicate h 0; until = replicate h 0 }

-- the places of the entries, in list order
abbrev pub entries : {h : ℕ} → Limits h → List ℕ
entries l = range_with_len 0 l.count

-- the place at which the search for this job begins
abbrev pub first_place : {h : ℕ} → Limits h → ℕ → ℕ
first_place l job = if l.rotate then job % l.count else 0

-- the entries in the order in which they are looked at for this job: from its first place on, and then round
abbrev pub search_order : {h : ℕ} → Limits h → ℕ → List ℕ
search_order l job = drop (first_place l job) (entries l) ++ take (first_place l job) (entries l)

-- entry i is in back-off at this moment
abbrev pub is_left_alone : {h : ℕ} → SlotState h → ℕ → ℕ → Bool
is_left_alone s now i = nat_lt now (slice_index s.until i)

-- entry i is in the mask, is below its limit, and isn't in back-off at this moment
abbrev pub is_free : {h : ℕ} → Limits h → SlotState h → Mask → ℕ → ℕ → Bool
is_free l s mask now i = in_mask mask i && (nat_lt (slice_index s.held i) (slice_index l.limit i) && not (is_left_alone s now i))

-- entry i isn't in the mask, or is in back-off at this moment
abbrev pub is_ruled_out : {h : ℕ} → SlotState h → Mask → ℕ → ℕ → Bool
is_ruled_out s mask now i = not (in_mask mask i) || is_left_alone s now i

-- every entry in the mask is in back-off at this moment, or there is none
abbrev pub is_down : {h : ℕ} → Limits h → SlotState h → Mask → ℕ → Bool
is_down l s mask now = list_all (is_ruled_out s mask now) (entries l)

-- the state after a draw
abbrev pub drawn : {h : ℕ} → SlotState h → SlotState h
drawn s = record s { next = s.next + 1 }

-- the state after a slot of entry i is given out
abbrev pub taken : {h : ℕ} → SlotState h → ℕ → SlotState h
taken s i = record s { held = slice_set s.held i (slice_index s.held i + 1) }

-- the state after a slot of entry i is given back
abbrev pub given : {h : ℕ} → SlotState h → ℕ → SlotState h
given s i = record s { held = slice_set s.held i (slice_index s.held i - 1) }

-- the state in which entry i is in back-off until this moment, or until its present back-off ends if that is later
abbrev pub left_alone : {h : ℕ} → SlotState h → ℕ → ℕ → SlotState h
left_alone s i until = record s { until = slice_set s.until i (max (slice_index s.until i) until) }

-- what a take does with the first free entry, if there is one
abbrev pub take_free : {h : ℕ} → SlotState h → Option ℕ → Bool → SlotState h × SlotReply
take_free s (Some i) down = (taken s i, Got i)
take_free s None down = (s, if down then Down else Full)

-- the state after a call, and its reply
abbrev pub slot_step : {h : ℕ} → Limits h → SlotState h → SlotCall → SlotState h × SlotReply
slot_step l s Draw = if nat_lt s.next l.jobs then (drawn s, Drawn (Some s.next)) else (s, Drawn None)
slot_step l s (Take job mask now) = take_free s (find (is_free l s mask now) (search_order l job)) (is_down l s mask now)
slot_step l s (Give host job) = (given s host, Given)
slot_step l s (GiveBad host job until) = (left_alone (given s host) host until, Given)
slot_step l s (TakeLocal job) =
    if nat_lt s.local_held l.local_slots then (record s { local_held = s.local_held + 1 }, Local true) else (s, Local false)
slot_step l s (GiveLocal job) = (record s { local_held = s.local_held - 1 }, Given)

-- entry i has a slot that can be given back
pub record IsHeld {h : ℕ} (l : Limits h) (s : SlotState h) (i : ℕ) : Type 0 where
  pub entry : i < l.count
  pub held : 0 < slice_index s.held i

-- the condition of a call: what is given back is held, and no local entry gets a back-off
abbrev pub CanStep : {h : ℕ} → Limits h → SlotState h → SlotCall → Type 0
CanStep l s Draw = Unit {0}
CanStep l s (Take job mask now) = Unit {0}
CanStep l s (Give host job) = IsHeld l s host
CanStep l s (GiveBad host job until) = IsHeld l s host × (is_local l host ≡ false)
CanStep l s (TakeLocal job) = Unit {0}
CanStep l s (GiveLocal job) = 0 < s.local_held
