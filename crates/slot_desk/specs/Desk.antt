-- What one event does to the desk, and what is answered. The slots change by the calls of slot_table only.
use Rattle.std.specs.Prelude.{ℕ, ◌+◌, ◌-◌, ◌^◌, Bool, true, false, ◌||◌, not, if◌then◌else◌, List, [], ◌∷◌, ◌++◌, length, nat_eq, nat_le}
use Rattle.std.specs.Prelude.{Option, Some, None, is_some, find, filter}
use Rattle.std.specs.List.{list_any}
use Rattle.slot_table.specs.declared.limits.Limits.{Limits}
use Rattle.slot_table.specs.declared.state.SlotState.{SlotState}
use Rattle.slot_table.specs.declared.mask.Mask.{Mask}
use Rattle.slot_table.specs.declared.calls.SlotCall.{SlotCall}
use Rattle.slot_table.specs.declared.calls.SlotCall.TheVariants.{Take, Give, GiveBad, TakeLocal, GiveLocal}
use Rattle.slot_table.specs.declared.calls.SlotReply.{SlotReply}
use Rattle.slot_table.specs.declared.calls.SlotReply.TheVariants.{Got, Down, Local}
use Rattle.slot_table.specs.Limits.{is_local}
use Rattle.slot_table.specs.Step.{opening, slot_step}
use Rattle.slot_table.specs.Backoff.{bad_until}
use Rattle.slot_desk.specs.declared.event.Event.{Event}
use Rattle.slot_desk.specs.declared.event.Event.TheVariants.{Ask, AskLocal, AskWithin, Done, Broke, Lost, Next}
use Rattle.slot_desk.specs.declared.event.Loan.{Loan}
use Rattle.slot_desk.specs.declared.event.Place.{Place}
use Rattle.slot_desk.specs.declared.event.Place.TheVariants.{Host, Here, LocalSlot}
use Rattle.slot_desk.specs.declared.event.Reply.{Reply}
use Rattle.slot_desk.specs.declared.event.Reply.TheVariants.{Nobody, Lent, Alone, Within}
use Rattle.slot_desk.specs.declared.event.Waiter.{Waiter}

-- what never changes: the slots' limits, for how long a host isn't used after a failure, and how many callers are known at most
pub record Rules (h : ℕ) : Type 0 where
  pub limits : Limits h
  pub period : ℕ
  pub most : ℕ

-- what changes: the slots, the callers that wait, in the order in which they asked, and the loans, the latest first
pub record State (h : ℕ) : Type 0 where
  pub slots : SlotState h
  pub waiting : List Waiter
  pub lent : List Loan

-- nobody has asked yet
abbrev pub opened : (h : ℕ) → State h
opened h = record { slots = opening h; waiting = []; lent = [] }

-- every entry
abbrev pub every : Mask
every = record { bits = 2 ^ 64 - 1 }

abbrev pub waits_as : ℕ → Waiter → Bool
waits_as caller waiter = nat_eq caller waiter.caller

abbrev pub is_of : ℕ → Loan → Bool
is_of caller loan = nat_eq caller loan.caller

-- ---- asking

-- the caller waits, or has a loan
abbrev pub is_known : {h : ℕ} → State h → ℕ → Bool
is_known v caller = list_any (waits_as caller) v.waiting || is_some (find (is_of caller) v.lent)

-- as many callers are known as may be
abbrev pub is_full : {h : ℕ} → Rules h → State h → Bool
is_full r v = nat_le r.most (length v.waiting + length v.lent)

-- a new caller waits after the others; one who is known, and one too many, isn't taken in
abbrev pub asked : {h : ℕ} → Rules h → State h → Waiter → State h
asked r v waiter =
    record v { waiting = if is_known v waiter.caller || is_full r v then v.waiting else v.waiting ++ waiter ∷ [] }

-- a new caller that is one too many gets `Alone` at once
abbrev pub told_at_once : {h : ℕ} → Rules h → State h → ℕ → Reply
told_at_once r v caller = if is_known v caller then Nobody else (if is_full r v then Alone caller else Nobody)

-- ---- a place for one who waits

-- this place, if a local slot is given out
abbrev pub local_place : Place → SlotReply → Option Place
local_place place (Local true) = Some place
local_place place reply = None

abbrev pub here_by : {h : ℕ} → Place → SlotState h × SlotReply → SlotState h × Option Place
here_by place t = (t.0, local_place place t.1)

-- the place that the reply to a take gives, and the state then: if no host may be used, a local slot is asked for
abbrev pub place_by : {h : ℕ} → Limits h → SlotState h → ℕ → SlotReply → SlotState h × Option Place
place_by l s caller (Got host) = (s, Some (Host host))
place_by l s caller Down = here_by Here (slot_step l s (TakeLocal caller))
place_by l s caller reply = (s, None)

-- a place by a host, for a caller whose number is that of its job
abbrev pub place_for : {h : ℕ} → Limits h → SlotState h → ℕ → ℕ → SlotState h × Option Place
place_for l s caller now =
    place_by l (slot_step l s (Take caller every now)).0 caller (slot_step l s (Take caller every now)).1

-- a place as the caller asked for it
abbrev pub place_as : {h : ℕ} → Limits h → ℕ → SlotState h → Waiter → SlotState h × Option Place
place_as l now s waiter =
    if waiter.local then here_by LocalSlot (slot_step l s (TakeLocal waiter.caller)) else place_for l s waiter.caller now

abbrev pub lent_to : ℕ → Option Place → Option Loan
lent_to caller None = None
lent_to caller (Some place) = Some (record { caller = caller; place = place })

abbrev pub found_for : {h : ℕ} → Limits h → ℕ → SlotState h → Option Waiter → SlotState h × Option Loan
found_for l now s None = (s, None)
found_for l now s (Some waiter) = ((place_as l now s waiter).0, lent_to waiter.caller (place_as l now s waiter).1)

-- ---- who is next

abbrev pub same : Bool → Bool → Bool
same a b = if a then b else not b

-- the one who waits longest for a local slot, or for a slot of a host
abbrev pub first_as : Bool → List Waiter → Option Waiter
first_as local waiting = find (λ waiter. same local waiter.local) waiting

abbrev pub or_other : {h : ℕ} → Limits h → ℕ → Option Waiter → SlotState h → Option Loan → SlotState h × Option Loan
or_other l now other s None = found_for l now s other
or_other l now other s (Some loan) = (s, Some loan)

-- the one who waits longest is tried first, and then the one who waits longest of those that wait for the other kind of slot
abbrev pub found_in : {h : ℕ} → Limits h → ℕ → SlotState h → List Waiter → SlotState h × Option Loan
found_in l now s [] = (s, None)
found_in l now s (first ∷ rest) =
    or_other l now (first_as (not first.local) (first ∷ rest)) (found_for l now s (Some first)).0 (found_for l now s (Some first)).1

-- whoever is found a place waits no more
abbrev pub served : {h : ℕ} → State h → SlotState h → Option Loan → State h
served v s None = record v { slots = s }
served v s (Some loan) = record {
  slots = s;
  waiting = filter (λ waiter. not (waits_as loan.caller waiter)) v.waiting;
  lent = loan ∷ v.lent;
}

abbrev pub next_of : {h : ℕ} → Limits h → ℕ → State h → State h × Option Loan
next_of l now v = (
  served v (found_in l now v.slots v.waiting).0 (found_in l now v.slots v.waiting).1,
  (found_in l now v.slots v.waiting).1,
)

-- ---- an end

-- the call that gives a place back. A host whose exchange broke isn't used until a moment; this machine always is
abbrev pub give_of : {h : ℕ} → Limits h → Option ℕ → ℕ → Place → SlotCall
give_of l broken caller Here = GiveLocal caller
give_of l broken caller LocalSlot = GiveLocal caller
give_of l None caller (Host i) = Give i caller
give_of l (Some until) caller (Host i) = if is_local l i then Give i caller else GiveBad i caller until

abbrev pub given_back : {h : ℕ} → Limits h → SlotState h → Option ℕ → Option Loan → SlotState h
given_back l s broken None = s
given_back l s broken (Some loan) = (slot_step l s (give_of l broken loan.caller loan.place)).0

-- a caller is known no more: it doesn't wait, and its loan is given back
abbrev pub ended : {h : ℕ} → Limits h → State h → Option ℕ → ℕ → State h
ended l v broken caller = record {
  slots = given_back l v.slots broken (find (is_of caller) v.lent);
  waiting = filter (λ waiter. not (waits_as caller waiter)) v.waiting;
  lent = filter (λ loan. not (is_of caller loan)) v.lent;
}

-- ---- the step

abbrev pub reply_of : Option Loan → Reply
reply_of None = Nobody
reply_of (Some loan) = Lent loan

-- what the desk keeps after an event, and what it answers
abbrev pub desk_step : {h : ℕ} → Rules h → State h → Event → State h × Reply
desk_step r v (Ask caller) = (asked r v (record { caller = caller; local = false }), told_at_once r v caller)
desk_step r v (AskLocal caller) = (asked r v (record { caller = caller; local = true }), told_at_once r v caller)
desk_step r v (AskWithin caller) = (v, Within caller)
desk_step r v (Done caller) = (ended r.limits v None caller, Nobody)
desk_step r v (Broke caller now) = (ended r.limits v (Some (bad_until now r.period)) caller, Nobody)
desk_step r v (Lost caller) = (ended r.limits v None caller, Nobody)
desk_step r v (Next now) = ((next_of r.limits now v).0, reply_of (next_of r.limits now v).1)
