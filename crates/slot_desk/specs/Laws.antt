-- What holds of every run of the desk.
use Rattle.std.specs.Prelude.{◌≡◌, ◌≢◌, ℕ, ◌<◌, ◌≤◌, Bool, true, false, List, [], ◌∷◌, ◌++◌, map, Some, None, slice_index}
use Rattle.slot_table.specs.Limits.{AreValid, is_local}
use Rattle.slot_table.specs.Laws.{SlotsAgree}
use Rattle.slot_table.specs.Mask.{mask_bits}
use Rattle.slot_table.specs.Backoff.{bad_until}
use Rattle.slot_desk.specs.declared.event.Event.{Event}
use Rattle.slot_desk.specs.declared.event.Event.TheVariants.{AskWithin, Broke, Next}
use Rattle.slot_desk.specs.declared.event.Loan.{Loan}
use Rattle.slot_desk.specs.declared.event.Place.TheVariants.{Host, Here}
use Rattle.slot_desk.specs.declared.event.Reply.TheVariants.{Nobody, Lent, Within}
use Rattle.slot_desk.specs.Desk.{Rules, State, opened, desk_step}
use Rattle.slot_desk.specs.Runs.{after, callers_as, served_in, askers_in, IsPartOf, times, told_by, place_of, holding_of}

-- After every run the slots that are given out are the loans, of each entry never more than its limit, and the same for local slots
abbrev pub LoansAgree : Type 0
LoansAgree = (h : ℕ) (r : Rules h) (es : List Event) → r.limits.count ≤ h
    → SlotsAgree r.limits (after r (opened h) es).slots (map holding_of (after r (opened h) es).lent)

-- What is lent to a caller is what it was given last, until it ended
abbrev pub LentAsTold : Type 0
LentAsTold = (h : ℕ) (r : Rules h) (es : List Event) (caller : ℕ)
    → place_of caller (after r (opened h) es).lent ≡ told_by caller None r (opened h) es

-- Of the callers that asked for a local slot, and of those that asked for a host: they are given places in the order in which they
-- asked. Those that were, and then those that wait, are of those that asked, so nobody is given a place more often than it asked. Neither
-- order speaks of the other callers: nobody waits for one who asked for the other kind of slot
pub record ServedInOrder {h : ℕ} (local : Bool) (r : Rules h) (es : List Event) : Type 0 where
  pub order : IsPartOf (served_in local r (opened h) es ++ callers_as local (after r (opened h) es).waiting) (askers_in local es)
  pub once : (caller : ℕ) → times caller (served_in local r (opened h) es) ≤ times caller (askers_in local es)

abbrev pub AreServedInOrder : Type 0
AreServedInOrder = (h : ℕ) (local : Bool) (r : Rules h) (es : List Event) → ServedInOrder local r es

-- A host whose exchange broke is given to nobody before its time: whatever comes in between, the moment is the period later at least
abbrev pub BrokenIsNotUsed : Type 0
BrokenIsNotUsed = (h : ℕ) (r : Rules h) (es more : List Event) (caller i broke now : ℕ) (loan : Loan) → r.limits.count ≤ h
    → is_local r.limits i ≡ false → place_of caller (after r (opened h) es).lent ≡ Some (Host i)
    → (desk_step r (after r (opened h) (es ++ Broke caller broke ∷ more)) (Next now)).1 ≡ Lent loan → loan.place ≡ Host i
    → bad_until broke r.period ≤ now

-- If nobody is given a place though one waits for a host, each entry that may be used has as many slots given out as its limit
abbrev pub NobodyWaitsBesideASlot : Type 0
NobodyWaitsBesideASlot = (h : ℕ) (r : Rules h) (es : List Event) (now i : ℕ) → r.limits.count ≤ mask_bits
    → callers_as false (after r (opened h) es).waiting ≢ [] → (desk_step r (after r (opened h) es) (Next now)).1 ≡ Nobody
    → i < r.limits.count → slice_index (after r (opened h) es).slots.until i ≤ now
    → slice_index r.limits.limit i ≤ slice_index (after r (opened h) es).slots.held i

-- If nobody is given a place though one waits for a local slot, all local slots are given out
abbrev pub NobodyWaitsBesideALocalSlot : Type 0
NobodyWaitsBesideALocalSlot = (h : ℕ) (r : Rules h) (es : List Event) (now : ℕ)
    → callers_as true (after r (opened h) es).waiting ≢ [] → (desk_step r (after r (opened h) es) (Next now)).1 ≡ Nobody
    → r.limits.local_slots ≤ (after r (opened h) es).slots.local_held

-- A caller that asked for a host is lent `Here` only if no entry may be used
abbrev pub HereOnlyWithoutHosts : Type 0
HereOnlyWithoutHosts = (h : ℕ) (r : Rules h) (v : State h) (now i : ℕ) (loan : Loan) → r.limits.count ≤ mask_bits
    → (desk_step r v (Next now)).1 ≡ Lent loan → loan.place ≡ Here → i < r.limits.count → now < slice_index v.slots.until i

-- If nothing is lent, one who waits is given a place
abbrev pub ServedIfNothingIsLent : Type 0
ServedIfNothingIsLent = (h : ℕ) (r : Rules h) (es : List Event) (now : ℕ) → AreValid r.limits → (after r (opened h) es).lent ≡ []
    → (after r (opened h) es).waiting ≢ [] → (desk_step r (after r (opened h) es) (Next now)).1 ≢ Nobody

-- A caller below one that has a slot is answered at once, whatever is lent. It holds no slot, and nothing changes
abbrev pub WithinHoldsNothing : Type 0
WithinHoldsNothing = (h : ℕ) (r : Rules h) (v : State h) (caller : ℕ) → desk_step r v (AskWithin caller) ≡ (v, Within caller)
