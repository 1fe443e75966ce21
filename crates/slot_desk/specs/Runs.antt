-- Runs of the desk: lists of events, from a state on.
use Rattle.std.specs.Prelude.{◌≡◌, ◌⊎◌, ℕ, Bool, true, false, if◌then◌else◌, List, [], ◌∷◌, nat_eq, Option, Some, None, find, length, filter}
use Rattle.std.specs.List.{cons_option}
use Rattle.slot_table.specs.History.{Holding, holding}
use Rattle.slot_desk.specs.declared.event.Event.{Event}
use Rattle.slot_desk.specs.declared.event.Event.TheVariants.{Ask, AskLocal, AskWithin, Done, Broke, Lost, Next}
use Rattle.slot_desk.specs.declared.event.Loan.{Loan}
use Rattle.slot_desk.specs.declared.event.Place.{Place}
use Rattle.slot_desk.specs.declared.event.Place.TheVariants.{Host, Here, LocalSlot}
use Rattle.slot_desk.specs.declared.event.Reply.{Reply}
use Rattle.slot_desk.specs.declared.event.Reply.TheVariants.{Nobody, Lent, Alone, Within}
use Rattle.slot_desk.specs.declared.event.Waiter.{Waiter}
use Rattle.slot_desk.specs.Desk.{Rules, State, is_of, same, desk_step}

-- the state after these events
abbrev pub after : {h : ℕ} → Rules h → State h → List Event → State h
after r v [] = v
after r v (e ∷ es) = after r (desk_step r v e).0 es

-- a caller that waits for a local slot, or for a slot of a host
abbrev pub waiting_as : Bool → Waiter → Option ℕ
waiting_as local waiter = if same local waiter.local then Some waiter.caller else None

-- those that do, in the order in which they asked
abbrev pub callers_as : Bool → List Waiter → List ℕ
callers_as local [] = []
callers_as local (waiter ∷ waiters) = cons_option (waiting_as local waiter) (callers_as local waiters)

-- the place is the local slot that the caller asked for
abbrev pub is_as_asked : Place → Bool
is_as_asked (Host i) = false
is_as_asked Here = false
is_as_asked LocalSlot = true

abbrev pub lent_as : Bool → Reply → Option ℕ
lent_as local (Lent loan) = if same local (is_as_asked loan.place) then Some loan.caller else None
lent_as local Nobody = None
lent_as local (Alone caller) = None
lent_as local (Within caller) = None

-- the callers that were given a local slot for which they asked, or a place for which they asked hosts, in order
abbrev pub served_in : {h : ℕ} → Bool → Rules h → State h → List Event → List ℕ
served_in local r v [] = []
served_in local r v (e ∷ es) = cons_option (lent_as local (desk_step r v e).1) (served_in local r (desk_step r v e).0 es)

abbrev pub asker : Bool → Event → Option ℕ
asker local (Ask caller) = if same local false then Some caller else None
asker local (AskLocal caller) = if same local true then Some caller else None
asker local e = None

-- the callers that asked for a local slot, or for a slot of a host, in order
abbrev pub askers_in : Bool → List Event → List ℕ
askers_in local [] = []
askers_in local (e ∷ es) = cons_option (asker local e) (askers_in local es)

-- the first list is the second with some left out
abbrev pub IsPartOf : List ℕ → List ℕ → Type 0
IsPartOf [] ys = Unit {0}
IsPartOf (x ∷ xs) [] = ⊥
IsPartOf (x ∷ xs) (y ∷ ys) = ((x ≡ y) × IsPartOf xs ys) ⊎ IsPartOf (x ∷ xs) ys

abbrev pub times : ℕ → List ℕ → ℕ
times n xs = length (filter (nat_eq n) xs)

-- the place that a caller has after this event and its reply: a place that it was lent, until its use ended
abbrev pub told : ℕ → Option Place → Event → Reply → Option Place
told caller place (Done c) reply = if nat_eq c caller then None else place
told caller place (Broke c now) reply = if nat_eq c caller then None else place
told caller place (Lost c) reply = if nat_eq c caller then None else place
told caller place (Next now) (Lent loan) = if nat_eq loan.caller caller then Some loan.place else place
told caller place e reply = place

abbrev pub told_by : {h : ℕ} → ℕ → Option Place → Rules h → State h → List Event → Option Place
told_by caller place r v [] = place
told_by caller place r v (e ∷ es) = told_by caller (told caller place e (desk_step r v e).1) r (desk_step r v e).0 es

abbrev pub place_in : Option Loan → Option Place
place_in None = None
place_in (Some loan) = Some loan.place

-- the place that the desk has lent a caller
abbrev pub place_of : ℕ → List Loan → Option Place
place_of caller lent = place_in (find (is_of caller) lent)

-- a loan as a grant of the slots, whose job is its caller's number
abbrev pub host_in : Place → Option ℕ
host_in (Host i) = Some i
host_in Here = None
host_in LocalSlot = None

abbrev pub holding_of : Loan → Holding
holding_of loan = holding loan.caller loan.caller (host_in loan.place)
