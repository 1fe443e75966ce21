-- Hosts that may not be used, and hosts that have a free slot.
use Rattle.std.proofs.Common.{◌≡◌, ◌≢◌, inl, inr, ℕ, ◌+◌, ◌<◌, ◌≤◌, Bool, true, false, cond, not, List, []}
use Rattle.std.proofs.Common.{◌∷◌, ◌++◌, Option, Some, None, nat_lt, max, get_or}
use Rattle.std.proofs.Common.{length, refl, sym, ap, ◌∙◌, subst, arith, get_or-set_other}
use Rattle.std.specs.Prelude.{slice_index, slice_set, find, map}
use Rattle.std.specs.List.{cons_option}
use Rattle.std.proofs.lemmas.Bool.Decides.{leb_tells}
use Rattle.std.proofs.lemmas.Grind.{get_or-set_at}
use Rattle.std.proofs.lemmas.Bool.{cases_eq, lt-ltb, ltb-false}
use Rattle.std.proofs.lemmas.List.{set_past}
use Rattle.slot_table.specs.declared.limits.Limits.{Limits}
use Rattle.slot_table.specs.declared.state.SlotState.{SlotState}
use Rattle.slot_table.specs.declared.calls.SlotCall.{SlotCall}
use Rattle.slot_table.specs.declared.calls.SlotCall.TheVariants.{Draw, Take, Give, GiveBad, TakeLocal, GiveLocal}
use Rattle.slot_table.specs.declared.calls.SlotReply.{SlotReply}
use Rattle.slot_table.specs.declared.calls.SlotReply.TheVariants.{Drawn, Got, Full, Down, Local, Given}
use Rattle.slot_table.specs.Limits.{is_local}
use Rattle.slot_table.specs.Mask.{mask_bits, in_mask}
use Rattle.slot_table.specs.Backoff.{bad_until}
use Rattle.slot_table.specs.Step.{slot_step, drawn, take_free, is_free, is_down, search_order}
use Rattle.slot_table.specs.Laws.{TakeTells, NothingIsFull}
use Rattle.slot_table.proofs.Masks.{mask-whole}
use Rattle.slot_table.proofs.Takes.{takes-tell}
use Rattle.slot_table.proofs.Frees.{free-where-all-is-back}
use Rattle.slot_table.proofs.Keeps.{sound}
use Rattle.slot_desk.specs.declared.event.Event.{Event}
use Rattle.slot_desk.specs.declared.event.Event.TheVariants.{Ask, AskLocal, AskWithin, Done, Broke, Lost, Next}
use Rattle.slot_desk.specs.declared.event.Loan.{Loan}
use Rattle.slot_desk.specs.declared.event.Place.{Place}
use Rattle.slot_desk.specs.declared.event.Place.TheVariants.{Host, Here, LocalSlot}
use Rattle.slot_desk.specs.declared.event.Reply.TheVariants.{Nobody, Lent}
use Rattle.slot_desk.specs.declared.event.Waiter.{Waiter}
use Rattle.slot_desk.specs.Desk.{Rules, State, opened, every, is_of, local_place, here_by, place_by, place_for, place_as, lent_to, found_for}
use Rattle.slot_desk.specs.Desk.{same, first_as, or_other, found_in, served, give_of, given_back, reply_of, desk_step}
use Rattle.slot_desk.specs.Runs.{after, callers_as, place_in, host_in, holding_of}
use Rattle.slot_desk.specs.View.{IsKept}
use Rattle.slot_desk.specs.Laws.{BrokenIsNotUsed, HereOnlyWithoutHosts, NobodyWaitsBesideALocalSlot, NobodyWaitsBesideASlot}
use Rattle.slot_desk.specs.Laws.{ServedIfNothingIsLent, WithinHoldsNothing}
use Rattle.slot_desk.proofs.Counts.{found-held}
use Rattle.slot_desk.proofs.Keeping.{kept, agrees, same-is}

-- no event brings forward the moment until which an entry is left alone
abbrev Later : {h : ℕ} → ℕ → SlotState h → SlotState h → Type 0
Later i a b = slice_index a.until i ≤ slice_index b.until i

later-refl : {h : ℕ} (i : ℕ) (s : SlotState h) → Later i s s
later-refl i s = omega arith

later-trans : {h : ℕ} (i : ℕ) (a b c : SlotState h) → Later i a b → Later i b c → Later i a c
later-trans i a b c f g = omega (arith, f, g)

set-later : (xs : List ℕ) (k i t : ℕ) → get_or xs i 0 ≤ get_or (slice_set xs k (max (get_or xs k 0) t)) i 0
set-later xs k i t = elim (cases_eq i k) [
  | inl e ↦ elim (leb_tells (length xs) i) [
    | inl past ↦
        let is : slice_set xs k (max (get_or xs k 0) t) ≡ xs =
        set_past xs k (max (get_or xs k 0) t) (let p = past.1 in omega (arith, p, e)) in
        let same : get_or (slice_set xs k (max (get_or xs k 0) t)) i 0 ≡ get_or xs i 0 = ap (λ (l : List ℕ). get_or l i 0) is in
        omega (arith, same)
    | inr inside ↦
        let is = get_or-set_at xs k i (max (get_or xs k 0) t) 0 e (let d = inside.1 in omega (arith, d, e)) in
        let at : get_or xs i 0 ≡ get_or xs k 0 = ap (λ (j : ℕ). get_or xs j 0) e in omega (arith, is, at)
  ]
  | inr n ↦ let is = get_or-set_other xs k i (max (get_or xs k 0) t) 0 n in omega (arith, is)
]

later-step : {h : ℕ} (i : ℕ) (l : Limits h) (s : SlotState h) (call : SlotCall) → Later i s (slot_step l s call).0
later-step {h} i l s Draw = go (nat_lt s.next l.jobs)
  where
    go : (b : Bool) → Later i s (cond {A = SlotState h × SlotReply} b (drawn s, Drawn (Some s.next)) (s, Drawn None)).0
    go true = later-refl i s
    go false = later-refl i s
later-step i l s (Take job mask now) = go (find (is_free l s mask now) (search_order l job)) (is_down l s mask now)
  where
    go : (o : Option ℕ) (down : Bool) → Later i s (take_free s o down).0
    go (Some k) down = later-refl i s
    go None down = later-refl i s
later-step i l s (Give host job) = later-refl i s
later-step i l s (GiveBad host job until) = set-later s.until host i until
later-step {h} i l s (TakeLocal job) = go (nat_lt s.local_held l.local_slots)
  where
    go : (b : Bool) → Later i s
        (cond {A = SlotState h × SlotReply} b (record s { local_held = s.local_held + 1 }, Local true) (s, Local false)).0
    go true = later-refl i s
    go false = later-refl i s
later-step i l s (GiveLocal job) = later-refl i s

later-back : {h : ℕ} (i : ℕ) (l : Limits h) (s : SlotState h) (broken : Option ℕ) (o : Option Loan) → Later i s (given_back l s broken o)
later-back i l s broken None = later-refl i s
later-back i l s broken (Some loan) = later-step i l s (give_of l broken loan.caller loan.place)

later-place : {h : ℕ} (i : ℕ) (l : Limits h) (s t : SlotState h) (c : ℕ) (reply : SlotReply) → Later i s t
    → Later i s (place_by l t c reply).0
later-place i l s t c (Got k) f = f
later-place i l s t c Down f = later-trans i s t (slot_step l t (TakeLocal c)).0 f (later-step i l t (TakeLocal c))
later-place i l s t c Full f = f
later-place i l s t c (Drawn job) f = f
later-place i l s t c (Local b) f = f
later-place i l s t c Given f = f

later-as : {h : ℕ} (i : ℕ) (l : Limits h) (now : ℕ) (s : SlotState h) (w : Waiter) → Later i s (place_as l now s w).0
later-as {h} i l now s w = go w.local
  where
    local : SlotState h × Option Place
    local = here_by LocalSlot (slot_step l s (TakeLocal w.caller))

    go : (b : Bool) → Later i s (cond {A = SlotState h × Option Place} b local (place_for l s w.caller now)).0
    go true = later-step i l s (TakeLocal w.caller)
    go false =
        later-place i l s (slot_step l s (Take w.caller every now)).0 w.caller (slot_step l s (Take w.caller every now)).1
        (later-step i l s (Take w.caller every now))

later-for : {h : ℕ} (i : ℕ) (l : Limits h) (now : ℕ) (s : SlotState h) (o : Option Waiter) → Later i s (found_for l now s o).0
later-for i l now s None = later-refl i s
later-for i l now s (Some w) = later-as i l now s w

later-other : {h : ℕ} (i : ℕ) (l : Limits h) (now : ℕ) (other : Option Waiter) (s : SlotState h) (o : Option Loan)
    → Later i s (or_other l now other s o).0
later-other i l now other s None = later-for i l now s other
later-other i l now other s (Some loan) = later-refl i s

later-in : {h : ℕ} (i : ℕ) (l : Limits h) (now : ℕ) (s : SlotState h) (ws : List Waiter) → Later i s (found_in l now s ws).0
later-in i l now s [] = later-refl i s
later-in i l now s (w ∷ ws) =
    let t = found_for l now s (Some w) in
    let other = first_as (not w.local) (w ∷ ws) in
    later-trans i s t.0 (or_other l now other t.0 t.1).0 (later-for i l now s (Some w)) (later-other i l now other t.0 t.1)

later-served : {h : ℕ} (i : ℕ) (v : State h) (s : SlotState h) (o : Option Loan) → Later i v.slots s → Later i v.slots (served v s o).slots
later-served i v s None f = f
later-served i v s (Some loan) f = f

later-event : {h : ℕ} (i : ℕ) (r : Rules h) (v : State h) (e : Event) → Later i v.slots (desk_step r v e).0.slots
later-event i r v (Ask c) = later-refl i v.slots
later-event i r v (AskLocal c) = later-refl i v.slots
later-event i r v (AskWithin c) = later-refl i v.slots
later-event i r v (Done c) = later-back i r.limits v.slots None (find (is_of c) v.lent)
later-event i r v (Broke c now) = later-back i r.limits v.slots (Some (bad_until now r.period)) (find (is_of c) v.lent)
later-event i r v (Lost c) = later-back i r.limits v.slots None (find (is_of c) v.lent)
later-event i r v (Next now) =
    let t = found_in r.limits now v.slots v.waiting in later-served i v t.0 t.1 (later-in i r.limits now v.slots v.waiting)

later-run : {h : ℕ} (i : ℕ) (r : Rules h) (v : State h) (es : List Event) → Later i v.slots (after r v es).slots
later-run i r v [] = later-refl i v.slots
later-run i r v (e ∷ es) =
    later-trans i v.slots (desk_step r v e).0.slots (after r (desk_step r v e).0 es).slots (later-event i r v e)
    (later-run i r (desk_step r v e).0 es)

after-append : {h : ℕ} (r : Rules h) (v : State h) (es more : List Event) → after r v (es ++ more) ≡ after r (after r v es) more
after-append r v [] more = refl
after-append r v (e ∷ es) more = after-append r (desk_step r v e).0 es more

-- after the give of a host whose exchange broke it is left alone until that moment at least
broke-until : {h : ℕ} (l : Limits h) (s : SlotState h) (i c until : ℕ) → i < length s.until → is_local l i ≡ false
    → until ≤ slice_index (slot_step l s (give_of l (Some until) c (Host i))).0.until i
broke-until l s i c until inside remote = go (is_local l i) remote
  where
    go : (b : Bool) → b ≡ false → until ≤ slice_index (slot_step l s (cond b (Give i c) (GiveBad i c until))).0.until i
    go true e = cc
    go false e = let is = get_or-set_at s.until i i (max (get_or s.until i 0) until) 0 refl inside in omega (arith, is)

-- a host that is given isn't left alone at that moment

local-not-host : (p : Place) (reply : SlotReply) (i : ℕ) → (p ≡ Host i → ⊥) → local_place p reply ≡ Some (Host i) → ⊥
local-not-host p (Local true) i unlike is = unlike (let e : p ≡ Host i = cc in e)
local-not-host p (Local false) i unlike is = cc
local-not-host p (Drawn job) i unlike is = cc
local-not-host p (Got k) i unlike is = cc
local-not-host p Full i unlike is = cc
local-not-host p Down i unlike is = cc
local-not-host p Given i unlike is = cc

here-no-host : (i : ℕ) → Here ≡ Host i → ⊥
here-no-host i is = cc

slot-no-host : (i : ℕ) → LocalSlot ≡ Host i → ⊥
slot-no-host i is = cc

place-got : {h : ℕ} (l : Limits h) (t : SlotState h) (c i : ℕ) (reply : SlotReply) → (place_by l t c reply).1 ≡ Some (Host i)
    → reply ≡ Got i
place-got l t c i (Got k) is = let e : k ≡ i = cc in ap Got e
place-got l t c i Down is = absurd (local-not-host Here (slot_step l t (TakeLocal c)).1 i (here-no-host i) is)
place-got l t c i Full is = cc
place-got l t c i (Drawn job) is = cc
place-got l t c i (Local b) is = cc
place-got l t c i Given is = cc

up-as : {h : ℕ} (l : Limits h) (now : ℕ) (s : SlotState h) (w : Waiter) (i : ℕ) → (place_as l now s w).1 ≡ Some (Host i)
    → slice_index s.until i ≤ now
up-as {h} l now s w i is = go w.local is
  where
    local : SlotState h × Option Place
    local = here_by LocalSlot (slot_step l s (TakeLocal w.caller))

    go : (b : Bool) → (cond {A = SlotState h × Option Place} b local (place_for l s w.caller now)).1 ≡ Some (Host i)
        → slice_index s.until i ≤ now
    go true is = absurd (local-not-host LocalSlot (slot_step l s (TakeLocal w.caller)).1 i (slot-no-host i) is)
    go false is =
        let got = place-got l (slot_step l s (Take w.caller every now)).0 w.caller i (slot_step l s (Take w.caller every now)).1 is in
        let tells : TakeTells l s every now (slot_step l s (Take w.caller every now)).1 = takes-tell h l s w.caller every now in
        (tells.got i got).up

lent-place : (c : ℕ) (p : Option Place) (loan : Loan) → lent_to c p ≡ Some loan → p ≡ Some loan.place
lent-place c None loan is = cc
lent-place c (Some p) loan is =
    let same : record { caller = c; place = p } ≡ loan = cc in ap (λ (l : Loan). Some l.place) same

up-for : {h : ℕ} (l : Limits h) (now : ℕ) (s : SlotState h) (o : Option Waiter) (loan : Loan) (i : ℕ)
    → (found_for l now s o).1 ≡ Some loan → loan.place ≡ Host i → slice_index s.until i ≤ now
up-for l now s None loan i is at = cc
up-for l now s (Some w) loan i is at = up-as l now s w i (lent-place w.caller (place_as l now s w).1 loan is ∙ ap Some at)

up-other : {h : ℕ} (l : Limits h) (now : ℕ) (other : Option Waiter) (s t : SlotState h) (o : Option Loan) (loan : Loan) (i : ℕ)
    → Later i s t → (o ≡ Some loan → slice_index s.until i ≤ now) → (or_other l now other t o).1 ≡ Some loan → loan.place ≡ Host i
    → slice_index s.until i ≤ now
up-other l now other s t None loan i later first is at =
    let up = up-for l now t other loan i is at in omega (arith, later, up)
up-other l now other s t (Some one) loan i later first is at = first is

next-up : {h : ℕ} (l : Limits h) (now : ℕ) (s : SlotState h) (ws : List Waiter) (loan : Loan) (i : ℕ)
    → (found_in l now s ws).1 ≡ Some loan → loan.place ≡ Host i → slice_index s.until i ≤ now
next-up l now s [] loan i is at = cc
next-up l now s (w ∷ ws) loan i is at =
    let t = found_for l now s (Some w) in
    up-other l now (first_as (not w.local) (w ∷ ws)) s t.0 t.1 loan i (later-for i l now s (Some w))
    (λ first. up-for l now s (Some w) loan i first at) is at

reply-lent : (o : Option Loan) (loan : Loan) → reply_of o ≡ Lent loan → o ≡ Some loan
reply-lent None loan is = cc
reply-lent (Some one) loan is = let same : one ≡ loan = cc in ap Some same

reply-nobody : (o : Option Loan) → reply_of o ≡ Nobody → o ≡ None
reply-nobody None is = refl
reply-nobody (Some one) is = cc

lent-at : (o : Option Loan) (i : ℕ) → place_in o ≡ Some (Host i) → (loan : Loan) × (o ≡ Some loan) × (loan.place ≡ Host i)
lent-at None i is = cc
lent-at (Some loan) i is = (loan, refl, (let e : loan.place ≡ Host i = cc in e))

pub broken-is-not-used : BrokenIsNotUsed
broken-is-not-used h r es more caller i broke now loan fit remote lent given at =
    let v : State h = after r (opened h) es in
    let k : IsKept r v = kept r es in
    let o = lent-at (find (is_of caller) v.lent) i lent in
    let until : ℕ = bad_until broke r.period in
    let wide : length v.slots.until ≡ h =
    ap (λ (s : SlotState h). length s.until) k.slots ∙ (sound r.limits k.calls fit k.legal).wide_until in
    let below : i < r.limits.count = (agrees r v fit k).entries (holding_of o.0) i (found-held caller v.lent o.0 o.1)
    (ap host_in o.2) in
    let back : until ≤ slice_index (slot_step r.limits v.slots (give_of r.limits (Some until) o.0.caller (Host i))).0.until i =
    broke-until r.limits v.slots i o.0.caller until (omega (arith, wide, below, fit)) remote in
    let step : until ≤ slice_index (desk_step r v (Broke caller broke)).0.slots.until i =
    subst (λ (b : Option Loan). until ≤ slice_index (given_back r.limits v.slots (Some until) b).until i) (sym o.1)
    (subst (λ (p : Place). until ≤ slice_index (slot_step r.limits v.slots (give_of r.limits (Some until) o.0.caller p)).0.until i)
    (sym o.2) back) in
    let later = later-run i r (desk_step r v (Broke caller broke)).0 more in
    let whole = after-append r (opened h) es (Broke caller broke ∷ more) in
    let up : slice_index (after r (desk_step r v (Broke caller broke)).0 more).slots.until i ≤ now =
    subst (λ (w : State h). slice_index w.slots.until i ≤ now) whole
    (let w : State h = after r (opened h) (es ++ Broke caller broke ∷ more) in
    next-up r.limits now w.slots w.waiting loan i
    (reply-lent (found_in r.limits now w.slots w.waiting).1 loan given) at) in
    omega (arith, step, later, up)

-- one who is found no place changes nothing

none-local : {h : ℕ} (l : Limits h) (s : SlotState h) (c : ℕ) (p : Place) → (here_by p (slot_step l s (TakeLocal c))).1 ≡ None
    → ((slot_step l s (TakeLocal c)).0 ≡ s) × (l.local_slots ≤ s.local_held)
none-local {h} l s c p is = go (nat_lt s.local_held l.local_slots) refl is
  where
    more : SlotState h
    more = record s { local_held = s.local_held + 1 }

    go : (b : Bool) → nat_lt s.local_held l.local_slots ≡ b
        → local_place p (cond {A = SlotState h × SlotReply} b (more, Local true) (s, Local false)).1 ≡ None
        → ((cond {A = SlotState h × SlotReply} b (more, Local true) (s, Local false)).0 ≡ s) × (l.local_slots ≤ s.local_held)
    go true e is = cc
    go false e is = (refl, ltb-false s.local_held l.local_slots e)

none-free : {h : ℕ} (l : Limits h) (s : SlotState h) (c : ℕ) (o : Option ℕ) (down : Bool)
    → (place_by l (take_free s o down).0 c (take_free s o down).1).1 ≡ None
    → (place_by l (take_free s o down).0 c (take_free s o down).1).0 ≡ s
none-free l s c (Some k) down is = cc
none-free l s c None true is = (none-local l s c Here is).0
none-free l s c None false is = refl

none-as : {h : ℕ} (l : Limits h) (now : ℕ) (s : SlotState h) (w : Waiter) → (place_as l now s w).1 ≡ None → (place_as l now s w).0 ≡ s
none-as {h} l now s w is = go w.local is
  where
    local : SlotState h × Option Place
    local = here_by LocalSlot (slot_step l s (TakeLocal w.caller))

    go : (b : Bool) → (cond {A = SlotState h × Option Place} b local (place_for l s w.caller now)).1 ≡ None
        → (cond {A = SlotState h × Option Place} b local (place_for l s w.caller now)).0 ≡ s
    go true is = (none-local l s w.caller LocalSlot is).0
    go false is = none-free l s w.caller (find (is_free l s every now) (search_order l w.caller)) (is_down l s every now) is

lent-none : (c : ℕ) (p : Option Place) → lent_to c p ≡ None → p ≡ None
lent-none c None is = refl
lent-none c (Some p) is = cc

none-for : {h : ℕ} (l : Limits h) (now : ℕ) (s : SlotState h) (o : Option Waiter) → (found_for l now s o).1 ≡ None
    → (found_for l now s o).0 ≡ s
none-for l now s None is = refl
none-for l now s (Some w) is = none-as l now s w (lent-none w.caller (place_as l now s w).1 is)

other-none : {h : ℕ} (l : Limits h) (now : ℕ) (other : Option Waiter) (s : SlotState h) (o : Option Loan)
    → (or_other l now other s o).1 ≡ None → (o ≡ None) × ((found_for l now s other).1 ≡ None)
other-none l now other s None is = (refl, is)
other-none l now other s (Some loan) is = cc

same-not : (a b : Bool) → same a b ≡ false → a ≡ not b
same-not true true e = cc
same-not true false e = refl
same-not false true e = refl
same-not false false e = cc

-- If nobody is found a place, the one who waits longest of those that wait for a kind of slot isn't
none-first : {h : ℕ} (l : Limits h) (now : ℕ) (s : SlotState h) (ws : List Waiter) (k : Bool) → (found_in l now s ws).1 ≡ None
    → (found_for l now s (first_as k ws)).1 ≡ None
none-first l now s [] k is = refl
none-first {h} l now s (w ∷ ws) k is = go (same k w.local) refl
  where
    t : SlotState h × Option Loan
    t = found_for l now s (Some w)

    none : (t.1 ≡ None) × ((found_for l now t.0 (first_as (not w.local) (w ∷ ws))).1 ≡ None)
    none = other-none l now (first_as (not w.local) (w ∷ ws)) t.0 t.1 is

    still : t.0 ≡ s
    still = none-for l now s (Some w) none.0

    go : (b : Bool) → same k w.local ≡ b → (found_for l now s (first_as k (w ∷ ws))).1 ≡ None
    go true e =
        let at : first_as k (w ∷ ws) ≡ Some w = ap (λ (b : Bool). cond b (Some w) (first_as k ws)) e in
        ap (λ (o : Option Waiter). (found_for l now s o).1) at ∙ none.0
    go false e =
        ap (λ (b : Bool). (found_for l now s (first_as b (w ∷ ws))).1) (same-not k w.local e)
        ∙ subst (λ (x : SlotState h). (found_for l now x (first_as (not w.local) (w ∷ ws))).1 ≡ None) still none.1

-- one who waits for a kind of slot is the first of those who do, or comes after that one
record First (k : Bool) (ws : List Waiter) : Type 0 where
  waiter : Waiter
  is : first_as k ws ≡ Some waiter
  kind : waiter.local ≡ k

some-first : (k : Bool) (ws : List Waiter) → callers_as k ws ≢ [] → First k ws
some-first k [] some = absurd (some refl)
some-first k (w ∷ ws) some = go (same k w.local) refl some (some-first k ws)
  where
    go : (b : Bool) → same k w.local ≡ b → cons_option (cond b (Some w.caller) None) (callers_as k ws) ≢ []
        → (callers_as k ws ≢ [] → First k ws) → First k (w ∷ ws)
    go true e some ih = record {
      waiter = w;
      is = ap (λ (b : Bool). cond b (Some w) (first_as k ws)) e;
      kind = sym (same-is k w.local e);
    }
    go false e some ih =
        let f = ih some in
        record { waiter = f.waiter; is = ap (λ (b : Bool). cond b (Some w) (first_as k ws)) e ∙ f.is; kind = f.kind }

none-kind : {h : ℕ} (l : Limits h) (now : ℕ) (s : SlotState h) (ws : List Waiter) (k : Bool) (f : First k ws)
    → (found_in l now s ws).1 ≡ None → (place_as l now s f.waiter).1 ≡ None
none-kind l now s ws k f is =
    lent-none f.waiter.caller (place_as l now s f.waiter).1
    (ap (λ (o : Option Waiter). (found_for l now s o).1) (sym f.is) ∙ none-first l now s ws k is)

-- nobody waits beside a slot

in-every : (i : ℕ) → i < 64 → in_mask every i ≡ true
in-every i below = mask-whole 64 i refl ∙ lt-ltb i 64 below

no-room-left : {h : ℕ} (l : Limits h) (s : SlotState h) (now c i : ℕ) (o : Option ℕ) (down : Bool) → l.count ≤ mask_bits
    → TakeTells l s every now (take_free s o down).1 → (place_by l (take_free s o down).0 c (take_free s o down).1).1 ≡ None
    → i < l.count → slice_index s.until i ≤ now → slice_index l.limit i ≤ slice_index s.held i
no-room-left l s now c i (Some k) down fit tells is below up = cc
no-room-left l s now c i None true fit tells is below up =
    let alone = tells.down.0 refl i below (in-every i (omega (arith, fit, below))) in absurd (omega (arith, alone, up))
no-room-left l s now c i None false fit tells is below up = tells.full refl i below (in-every i (omega (arith, fit, below))) up

host-none : {h : ℕ} (l : Limits h) (now : ℕ) (s : SlotState h) (w : Waiter) → w.local ≡ false → (place_as l now s w).1 ≡ None
    → (place_for l s w.caller now).1 ≡ None
host-none {h} l now s w kind is = go w.local kind is
  where
    local : SlotState h × Option Place
    local = here_by LocalSlot (slot_step l s (TakeLocal w.caller))

    go : (b : Bool) → b ≡ false → (cond {A = SlotState h × Option Place} b local (place_for l s w.caller now)).1 ≡ None
        → (place_for l s w.caller now).1 ≡ None
    go true e is = cc
    go false e is = is

pub nobody-waits : NobodyWaitsBesideASlot
nobody-waits h r es now i fit some none below up =
    let v : State h = after r (opened h) es in
    let f = some-first false v.waiting some in
    let is = none-kind r.limits now v.slots v.waiting false f (reply-nobody (found_in r.limits now v.slots v.waiting).1 none) in
    let c : ℕ = f.waiter.caller in
    no-room-left r.limits v.slots now c i (find (is_free r.limits v.slots every now) (search_order r.limits c))
    (is_down r.limits v.slots every now) fit (takes-tell h r.limits v.slots c every now)
    (host-none r.limits now v.slots f.waiter f.kind is) below up

slot-none : {h : ℕ} (l : Limits h) (now : ℕ) (s : SlotState h) (w : Waiter) → w.local ≡ true → (place_as l now s w).1 ≡ None
    → l.local_slots ≤ s.local_held
slot-none {h} l now s w kind is = go w.local kind is
  where
    local : SlotState h × Option Place
    local = here_by LocalSlot (slot_step l s (TakeLocal w.caller))

    go : (b : Bool) → b ≡ true → (cond {A = SlotState h × Option Place} b local (place_for l s w.caller now)).1 ≡ None
        → l.local_slots ≤ s.local_held
    go true e is = (none-local l s w.caller LocalSlot is).1
    go false e is = cc

pub nobody-waits-here : NobodyWaitsBesideALocalSlot
nobody-waits-here h r es now some none =
    let v : State h = after r (opened h) es in
    let f = some-first true v.waiting some in
    slot-none r.limits now v.slots f.waiter f.kind
    (none-kind r.limits now v.slots v.waiting true f (reply-nobody (found_in r.limits now v.slots v.waiting).1 none))

-- a caller that asked for a host is told to compile here if no host may be used

host-here : (k : ℕ) → Host k ≡ Here → ⊥
host-here k is = cc

here-alone : {h : ℕ} (l : Limits h) (s : SlotState h) (now c i : ℕ) (o : Option ℕ) (down : Bool) → l.count ≤ mask_bits
    → TakeTells l s every now (take_free s o down).1 → (place_by l (take_free s o down).0 c (take_free s o down).1).1 ≡ Some Here
    → i < l.count → now < slice_index s.until i
here-alone l s now c i (Some k) down fit tells is below = absurd (host-here k (let e : Host k ≡ Here = cc in e))
here-alone l s now c i None true fit tells is below = tells.down.0 refl i below (in-every i (omega (arith, fit, below)))
here-alone l s now c i None false fit tells is below = cc

slot-here : (reply : SlotReply) → local_place LocalSlot reply ≡ Some Here → ⊥
slot-here (Local true) is = cc
slot-here (Local false) is = cc
slot-here (Drawn job) is = cc
slot-here (Got k) is = cc
slot-here Full is = cc
slot-here Down is = cc
slot-here Given is = cc

here-as : {h : ℕ} (l : Limits h) (now : ℕ) (s : SlotState h) (w : Waiter) (i : ℕ) → l.count ≤ mask_bits
    → (place_as l now s w).1 ≡ Some Here → i < l.count → now < slice_index s.until i
here-as {h} l now s w i fit is below = go w.local is
  where
    local : SlotState h × Option Place
    local = here_by LocalSlot (slot_step l s (TakeLocal w.caller))

    go : (b : Bool) → (cond {A = SlotState h × Option Place} b local (place_for l s w.caller now)).1 ≡ Some Here
        → now < slice_index s.until i
    go true is = absurd (slot-here (slot_step l s (TakeLocal w.caller)).1 is)
    go false is =
        here-alone l s now w.caller i (find (is_free l s every now) (search_order l w.caller)) (is_down l s every now) fit
        (takes-tell h l s w.caller every now) is below

here-for : {h : ℕ} (l : Limits h) (now : ℕ) (s : SlotState h) (o : Option Waiter) (loan : Loan) (i : ℕ) → l.count ≤ mask_bits
    → (found_for l now s o).1 ≡ Some loan → loan.place ≡ Here → i < l.count → now < slice_index s.until i
here-for l now s None loan i fit is at below = cc
here-for l now s (Some w) loan i fit is at below =
    here-as l now s w i fit (lent-place w.caller (place_as l now s w).1 loan is ∙ ap Some at) below

here-other : {h : ℕ} (l : Limits h) (now : ℕ) (other : Option Waiter) (s t : SlotState h) (o : Option Loan) (loan : Loan) (i : ℕ)
    → l.count ≤ mask_bits → (o ≡ None → t ≡ s) → (o ≡ Some loan → now < slice_index s.until i)
    → (or_other l now other t o).1 ≡ Some loan → loan.place ≡ Here → i < l.count → now < slice_index s.until i
here-other {h} l now other s t None loan i fit still first is at below =
    subst (λ (x : SlotState h). now < slice_index x.until i) (still refl) (here-for l now t other loan i fit is at below)
here-other l now other s t (Some one) loan i fit still first is at below = first is

next-here : {h : ℕ} (l : Limits h) (now : ℕ) (s : SlotState h) (ws : List Waiter) (loan : Loan) (i : ℕ) → l.count ≤ mask_bits
    → (found_in l now s ws).1 ≡ Some loan → loan.place ≡ Here → i < l.count → now < slice_index s.until i
next-here l now s [] loan i fit is at below = cc
next-here l now s (w ∷ ws) loan i fit is at below =
    let t = found_for l now s (Some w) in
    here-other l now (first_as (not w.local) (w ∷ ws)) s t.0 t.1 loan i fit (λ none. none-for l now s (Some w) none)
    (λ first. here-for l now s (Some w) loan i fit first at below) is at below

pub here-only : HereOnlyWithoutHosts
here-only h r v now i loan fit is at below =
    next-here r.limits now v.slots v.waiting loan i fit (reply-lent (found_in r.limits now v.slots v.waiting).1 loan is) at below

-- if nothing is lent a place is found

free-place : {h : ℕ} (l : Limits h) (s : SlotState h) (c : ℕ) (o : Option ℕ) (down : Bool) → (take_free s o down).1 ≢ Full
    → (slot_step l s (TakeLocal c)).1 ≡ Local true → (place_by l (take_free s o down).0 c (take_free s o down).1).1 ≢ None
free-place l s c (Some k) down room here = λ is. cc
free-place l s c None true room here =
    λ is. absurd (let e : Some Here ≡ None = sym (ap (local_place Here) here) ∙ is in cc)
free-place l s c None false room here = λ is. room refl

free-as : {h : ℕ} (l : Limits h) (now : ℕ) (s : SlotState h) (w : Waiter) → NothingIsFull l s → (place_as l now s w).1 ≢ None
free-as {h} l now s w free = go w.local
  where
    local : SlotState h × Option Place
    local = here_by LocalSlot (slot_step l s (TakeLocal w.caller))

    go : (b : Bool) → (cond {A = SlotState h × Option Place} b local (place_for l s w.caller now)).1 ≢ None
    go true = λ is. absurd (let e : Some LocalSlot ≡ None = sym (ap (local_place LocalSlot) (free.local w.caller)) ∙ is in cc)
    go false =
        free-place l s w.caller (find (is_free l s every now) (search_order l w.caller)) (is_down l s every now)
        (free.take w.caller every now) (free.local w.caller)

next-some : {h : ℕ} (l : Limits h) (now : ℕ) (s : SlotState h) (ws : List Waiter) → NothingIsFull l s → ws ≢ []
    → (found_in l now s ws).1 ≢ None
next-some l now s [] free some = λ is. some refl
next-some l now s (w ∷ ws) free some = λ is.
    let none = other-none l now (first_as (not w.local) (w ∷ ws)) (found_for l now s (Some w)).0 (found_for l now s (Some w)).1 is in
    free-as l now s w free (lent-none w.caller (place_as l now s w).1 none.0)

pub served-if-none-is-lent : ServedIfNothingIsLent
served-if-none-is-lent h r es now valid none some =
    let v : State h = after r (opened h) es in
    let k : IsKept r v = kept r es in
    let free : NothingIsFull r.limits v.slots = subst (NothingIsFull r.limits) (sym k.slots)
    (free-where-all-is-back h r.limits k.calls valid k.legal (k.out ∙ ap (map holding_of) none)) in
    λ is. next-some r.limits now v.slots v.waiting free some (reply-nobody (found_in r.limits now v.slots v.waiting).1 is)

pub within-holds-nothing : WithinHoldsNothing
within-holds-nothing h r v caller = refl
