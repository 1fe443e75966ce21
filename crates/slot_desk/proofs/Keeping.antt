-- Each event keeps a legal history of the slots, after which just the loans are outstanding.
use Rattle.std.proofs.Common.{◌≡◌, ℕ, ◌+◌, ◌≤◌, Bool, true, false, ◌&&◌, ◌||◌, not, cond, List, [], ◌∷◌}
use Rattle.std.proofs.Common.{◌++◌, Option, Some, None, nat_eq, length, refl}
use Rattle.std.proofs.Common.{sym, ap, ◌∙◌, subst, arith}
use Rattle.std.specs.Prelude.{find, filter, map, is_some, nat_le, IfSome}
use Rattle.std.specs.List.{list_any}
use Rattle.std.proofs.lemmas.Bool.{eqb-true}
use Rattle.slot_table.specs.declared.limits.Limits.{Limits}
use Rattle.slot_table.specs.declared.state.SlotState.{SlotState}
use Rattle.slot_table.specs.declared.calls.SlotCall.{SlotCall}
use Rattle.slot_table.specs.declared.calls.SlotCall.TheVariants.{Take, Give, GiveBad, TakeLocal}
use Rattle.slot_table.specs.declared.calls.SlotReply.{SlotReply}
use Rattle.slot_table.specs.declared.calls.SlotReply.TheVariants.{Drawn, Got, Full, Down, Local, Given}
use Rattle.slot_table.specs.declared.calls.CallEntry.{CallEntry}
use Rattle.slot_table.specs.Limits.{is_local}
use Rattle.slot_table.specs.Backoff.{bad_until}
use Rattle.slot_table.specs.Step.{opening, slot_step, CanStep}
use Rattle.slot_table.specs.History.{entry, Holding, holding, has, Gives, change, changed, outstanding, state_after, may_call, IsLegal}
use Rattle.slot_table.specs.Laws.{SlotsAgree}
use Rattle.slot_table.proofs.Histories.{legal-more, state_from-append}
use Rattle.slot_table.proofs.Keeps.{state-agrees}
use Rattle.slot_table.proofs.Permits.{can-step}
use Rattle.slot_table.proofs.Rounds.{outstanding-more}
use Rattle.slot_desk.specs.declared.event.Event.{Event}
use Rattle.slot_desk.specs.declared.event.Event.TheVariants.{Ask, AskLocal, AskWithin, Done, Broke, Lost, Next}
use Rattle.slot_desk.specs.declared.event.Loan.{Loan}
use Rattle.slot_desk.specs.declared.event.Place.{Place}
use Rattle.slot_desk.specs.declared.event.Place.TheVariants.{Host, Here, LocalSlot}
use Rattle.slot_desk.specs.declared.event.Waiter.{Waiter}
use Rattle.slot_desk.specs.Desk.{Rules, State, opened, every, is_of, waits_as, is_known, is_full, asked, local_place, here_by, place_by}
use Rattle.slot_desk.specs.Desk.{place_for, place_as, lent_to, found_for, same, first_as, or_other, found_in, served, next_of, give_of}
use Rattle.slot_desk.specs.Desk.{given_back, ended, desk_step}
use Rattle.slot_desk.specs.Runs.{after, is_as_asked, host_in, holding_of}
use Rattle.slot_desk.specs.View.{loans, waits, IsKept}
use Rattle.slot_desk.specs.Laws.{LoansAgree}
use Rattle.slot_desk.proofs.Counts.{none-found, none-waits, no-loan, found-held, without-loan, fewer, one-more, none-left, first-waits, find-tells, fewer-wait}

-- a legal history that leaves this state, and after which these grants are outstanding
record Reached {h : ℕ} (l : Limits h) (s : SlotState h) (out : List Holding) : Type 0 where
  calls : List CallEntry
  legal : IsLegal l calls
  slots : s ≡ state_after l calls
  held : outstanding calls ≡ out

-- one more call
reached-more : {h : ℕ} (l : Limits h) (s : SlotState h) (out : List Holding) (caller : ℕ) (call : SlotCall) (reply : SlotReply)
    → Reached l s out → reply ≡ (slot_step l s call).1 → may_call l caller out call ≡ true
    → Reached l (slot_step l s call).0 (changed caller out (change call reply))
reached-more {h} l s out caller call reply k is may =
    let e : CallEntry = entry caller call reply in record {
      calls = k.calls ++ e ∷ [];
      legal = legal-more l (opening h) [] k.calls e k.legal record {
        reply = is ∙ ap (λ (t : SlotState h). (slot_step l t call).1) k.slots;
        may = ap (λ (o : List Holding). may_call l caller o call) k.held ∙ may;
      };
      slots = ap (λ (t : SlotState h). (slot_step l t call).0) k.slots ∙ sym (state_from-append l (opening h) k.calls (e ∷ []));
      held = outstanding-more k.calls (k.calls ++ e ∷ []) e refl ∙ ap (λ (o : List Holding). changed caller o (change call reply)) k.held;
    }

-- each caller waits once, or has one loan at most
abbrev Apart : List Waiter → List Loan → Type 0
Apart waiting lent = (caller : ℕ) → waits caller waiting + loans caller lent ≤ 1

-- both as what is kept
kept-of : {h : ℕ} (r : Rules h) (s : SlotState h) (waiting : List Waiter) (lent : List Loan) → Reached r.limits s (map holding_of lent)
    → Apart waiting lent → IsKept r (record { slots = s; waiting = waiting; lent = lent })
kept-of r s waiting lent k apart = record { calls = k.calls; legal = k.legal; slots = k.slots; out = k.held; apart = apart }

reached-of : {h : ℕ} (r : Rules h) (v : State h) → IsKept r v → Reached r.limits v.slots (map holding_of v.lent)
reached-of r v k = record { calls = k.calls; legal = k.legal; slots = k.slots; held = k.out }

-- an end

gives : {h : ℕ} (l : Limits h) (broken : Option ℕ) (c : ℕ) (p : Place) (reply : SlotReply)
    → change (give_of l broken c p) reply ≡ Gives c (host_in p)
gives l broken c Here reply = refl
gives l broken c LocalSlot reply = refl
gives l None c (Host i) reply = refl
gives l (Some until) c (Host i) reply = go (is_local l i)
  where
    go : (b : Bool) → change (cond b (Give i c) (GiveBad i c until)) reply ≡ Gives c (Some i)
    go true = refl
    go false = refl

given : {h : ℕ} (l : Limits h) (s : SlotState h) (broken : Option ℕ) (c : ℕ) (p : Place) → Given ≡ (slot_step l s (give_of l broken c p)).1
given l s broken c Here = refl
given l s broken c LocalSlot = refl
given l s None c (Host i) = refl
given l s (Some until) c (Host i) = go (is_local l i)
  where
    go : (b : Bool) → Given ≡ (slot_step l s (cond b (Give i c) (GiveBad i c until))).1
    go true = refl
    go false = refl

pub may-give : {h : ℕ} (l : Limits h) (broken : Option ℕ) (c : ℕ) (p : Place) (out : List Holding)
    → has (holding c c (host_in p)) out ≡ true → may_call l c out (give_of l broken c p) ≡ true
may-give l broken c Here out is = is
may-give l broken c LocalSlot out is = is
may-give l None c (Host i) out is = is
may-give l (Some until) c (Host i) out is = go (is_local l i) refl
  where
    both : (a b : Bool) → a ≡ true → b ≡ false → (a && not b) ≡ true
    both true false e f = refl
    both true true e f = sym f
    both false b e f = e

    go : (b : Bool) → is_local l i ≡ b → may_call l c out (cond b (Give i c) (GiveBad i c until)) ≡ true
    go true e = is
    go false e = both (has (holding c c (Some i)) out) (is_local l i) is e

apart-ended : (c : ℕ) (waiting : List Waiter) (lent : List Loan) → Apart waiting lent
    → Apart (filter (λ w. not (waits_as c w)) waiting) (filter (λ loan. not (is_of c loan)) lent)
apart-ended c waiting lent apart n =
    let one = fewer (waits_as n) (λ w. not (waits_as c w)) waiting in
    let two = fewer (is_of n) (λ loan. not (is_of c loan)) lent in
    let was = apart n in omega (arith, one, two, was)

kept-end : {h : ℕ} (r : Rules h) (v : State h) (broken : Option ℕ) (c : ℕ) → IsKept r v → IsKept r (ended r.limits v broken c)
kept-end {h} r v broken c k = go (find (is_of c) v.lent) refl
  where
    rest : List Loan
    rest = filter (λ loan. not (is_of c loan)) v.lent

    others : List Waiter
    others = filter (λ w. not (waits_as c w)) v.waiting

    few : loans c v.lent ≤ 1
    few = let was = k.apart c in omega (arith, was)

    go : (o : Option Loan) → find (is_of c) v.lent ≡ o
        → IsKept r (record { slots = given_back r.limits v.slots broken o; waiting = others; lent = rest })
    go None is =
        let same : v.lent ≡ rest = sym (no-loan c v.lent (let none = none-found c v.lent is in omega (arith, none))) in
        kept-of r v.slots others rest (subst (λ (lent : List Loan). Reached r.limits v.slots (map holding_of lent)) same (reached-of r v k))
        (apart-ended c v.waiting v.lent k.apart)
    go (Some loan) is =
        let call : SlotCall = give_of r.limits broken loan.caller loan.place in
        let out : List Holding = map holding_of v.lent in
        let left : changed loan.caller out (change call Given) ≡ map holding_of rest =
        ap (changed loan.caller out) (gives r.limits broken loan.caller loan.place Given) ∙ without-loan c v.lent loan is few in
        kept-of r (slot_step r.limits v.slots call).0 others rest
        (subst (Reached r.limits (slot_step r.limits v.slots call).0) left
        (reached-more r.limits v.slots out loan.caller call Given (reached-of r v k) (given r.limits v.slots broken loan.caller loan.place)
        (may-give r.limits broken loan.caller loan.place out (found-held c v.lent loan is))))
        (apart-ended c v.waiting v.lent k.apart)

-- what is found can be given back
pub can-give : {h : ℕ} (r : Rules h) (v : State h) (broken : Option ℕ) (c : ℕ) (loan : Loan) → r.limits.count ≤ h → IsKept r v
    → find (is_of c) v.lent ≡ Some loan → CanStep r.limits v.slots (give_of r.limits broken loan.caller loan.place)
can-give {h} r v broken c loan fit k is =
    let call : SlotCall = give_of r.limits broken loan.caller loan.place in
    subst (λ (s : SlotState h). CanStep r.limits s call) (sym k.slots)
    (can-step r.limits k.calls loan.caller call fit k.legal
    (ap (λ (o : List Holding). may_call r.limits loan.caller o call) k.out
    ∙ may-give r.limits broken loan.caller loan.place (map holding_of v.lent) (found-held c v.lent loan is)))

-- a place for one who waits

apart-served : (loan : Loan) (ws : List Waiter) (lent : List Loan) → Apart ws lent → 1 ≤ waits loan.caller ws
    → Apart (filter (λ w. not (waits_as loan.caller w)) ws) (loan ∷ lent)
apart-served loan ws lent apart some n = go (nat_eq n loan.caller) refl
  where
    others : List Waiter
    others = filter (λ w. not (waits_as loan.caller w)) ws

    go : (b : Bool) → nat_eq n loan.caller ≡ b
        → waits n others + length (cond b (loan ∷ filter (is_of n) lent) (filter (is_of n) lent)) ≤ 1
    go true e =
        let is : loan.caller ≡ n = sym (eqb-true n loan.caller e) in
        let none : waits n others ≡ 0 = subst (λ (m : ℕ). waits m others ≡ 0) is (none-left loan.caller ws) in
        let here : 1 ≤ waits n ws = subst (λ (m : ℕ). 1 ≤ waits m ws) is some in
        let was = apart n in omega (arith, none, here, was)
    go false e = let few = fewer (waits_as n) (λ w. not (waits_as loan.caller w)) ws in let was = apart n in omega (arith, few, was)

-- the grants once a caller has a place, or has none
abbrev with-place : ℕ → List Holding → Option Place → List Holding
with-place c out None = out
with-place c out (Some p) = holding c c (host_in p) ∷ out

abbrev with-loan : List Holding → Option Loan → List Holding
with-loan out None = out
with-loan out (Some loan) = holding_of loan ∷ out

reached-local : {h : ℕ} (l : Limits h) (s : SlotState h) (c : ℕ) (p : Place) (out : List Holding) (reply : SlotReply) → host_in p ≡ None
    → Reached l s out → reply ≡ (slot_step l s (TakeLocal c)).1
    → Reached l (slot_step l s (TakeLocal c)).0 (with-place c out (local_place p reply))
reached-local l s c p out reply none k is = go reply is
  where
    more : (reply : SlotReply) → reply ≡ (slot_step l s (TakeLocal c)).1
        → Reached l (slot_step l s (TakeLocal c)).0 (changed c out (change (TakeLocal c) reply))
    more reply is = reached-more l s out c (TakeLocal c) reply k is refl

    go : (reply : SlotReply) → reply ≡ (slot_step l s (TakeLocal c)).1
        → Reached l (slot_step l s (TakeLocal c)).0 (with-place c out (local_place p reply))
    go (Local true) is =
        subst (λ (o : Option ℕ). Reached l (slot_step l s (TakeLocal c)).0 (holding c c o ∷ out)) (sym none) (more (Local true) is)
    go (Local false) is = more (Local false) is
    go (Drawn job) is = more (Drawn job) is
    go (Got i) is = more (Got i) is
    go Full is = more Full is
    go Down is = more Down is
    go Given is = more Given is

reached-host : {h : ℕ} (l : Limits h) (now : ℕ) (s : SlotState h) (c : ℕ) (out : List Holding) → Reached l s out
    → Reached l (place_for l s c now).0 (with-place c out (place_for l s c now).1)
reached-host {h} l now s c out k = go (slot_step l s (Take c every now)).1 refl
  where
    t : SlotState h
    t = (slot_step l s (Take c every now)).0

    more : (reply : SlotReply) → reply ≡ (slot_step l s (Take c every now)).1
        → Reached l (slot_step l s (Take c every now)).0 (changed c out (change (Take c every now) reply))
    more reply is = reached-more l s out c (Take c every now) reply k is refl

    go : (reply : SlotReply) → reply ≡ (slot_step l s (Take c every now)).1
        → Reached l (place_by l (slot_step l s (Take c every now)).0 c reply).0
        (with-place c out (place_by l (slot_step l s (Take c every now)).0 c reply).1)
    go (Got i) is = more (Got i) is
    go Down is = reached-local l t c Here out (slot_step l t (TakeLocal c)).1 refl (more Down is) refl
    go Full is = more Full is
    go (Drawn job) is = more (Drawn job) is
    go (Local b) is = more (Local b) is
    go Given is = more Given is

reached-as : {h : ℕ} (l : Limits h) (now : ℕ) (s : SlotState h) (w : Waiter) (out : List Holding) → Reached l s out
    → Reached l (place_as l now s w).0 (with-place w.caller out (place_as l now s w).1)
reached-as {h} l now s w out k = go w.local
  where
    local : SlotState h × Option Place
    local = here_by LocalSlot (slot_step l s (TakeLocal w.caller))

    go : (b : Bool) → Reached l (cond {A = SlotState h × Option Place} b local (place_for l s w.caller now)).0
        (with-place w.caller out (cond {A = SlotState h × Option Place} b local (place_for l s w.caller now)).1)
    go true = reached-local l s w.caller LocalSlot out (slot_step l s (TakeLocal w.caller)).1 refl k refl
    go false = reached-host l now s w.caller out k

reached-for : {h : ℕ} (l : Limits h) (now : ℕ) (s : SlotState h) (o : Option Waiter) (out : List Holding) → Reached l s out
    → Reached l (found_for l now s o).0 (with-loan out (found_for l now s o).1)
reached-for l now s None out k = k
reached-for l now s (Some w) out k = go (place_as l now s w).1 (reached-as l now s w out k)
  where
    go : (p : Option Place) → Reached l (place_as l now s w).0 (with-place w.caller out p)
        → Reached l (place_as l now s w).0 (with-loan out (lent_to w.caller p))
    go None k = k
    go (Some p) k = k

reached-other : {h : ℕ} (l : Limits h) (now : ℕ) (other : Option Waiter) (s : SlotState h) (o : Option Loan) (out : List Holding)
    → Reached l s (with-loan out o) → Reached l (or_other l now other s o).0 (with-loan out (or_other l now other s o).1)
reached-other l now other s None out k = reached-for l now s other out k
reached-other l now other s (Some loan) out k = k

reached-in : {h : ℕ} (l : Limits h) (now : ℕ) (s : SlotState h) (ws : List Waiter) (out : List Holding) → Reached l s out
    → Reached l (found_in l now s ws).0 (with-loan out (found_in l now s ws).1)
reached-in l now s [] out k = k
reached-in l now s (w ∷ ws) out k =
    reached-other l now (first_as (not w.local) (w ∷ ws)) (found_for l now s (Some w)).0 (found_for l now s (Some w)).1 out
    (reached-for l now s (Some w) out k)

-- whoever is found a place waited longest of those that wait for the same kind of slot
pub record Found (ws : List Waiter) (loan : Loan) : Type 0 where
  pub waiter : Waiter
  pub first : first_as (is_as_asked loan.place) ws ≡ Some waiter
  pub caller : waiter.caller ≡ loan.caller

kind-local : (p q : Place) (reply : SlotReply) → local_place p reply ≡ Some q → q ≡ p
kind-local p q (Local true) is = cc
kind-local p q (Local false) is = cc
kind-local p q (Drawn job) is = cc
kind-local p q (Got i) is = cc
kind-local p q Full is = cc
kind-local p q Down is = cc
kind-local p q Given is = cc

kind-host : {h : ℕ} (l : Limits h) (s : SlotState h) (c : ℕ) (q : Place) (reply : SlotReply) → (place_by l s c reply).1 ≡ Some q
    → is_as_asked q ≡ false
kind-host l s c q (Got i) is = let e : q ≡ Host i = cc in ap is_as_asked e
kind-host l s c q Down is = ap is_as_asked (kind-local Here q (slot_step l s (TakeLocal c)).1 is)
kind-host l s c q Full is = cc
kind-host l s c q (Drawn job) is = cc
kind-host l s c q (Local b) is = cc
kind-host l s c q Given is = cc

kind-as : {h : ℕ} (l : Limits h) (now : ℕ) (s : SlotState h) (w : Waiter) (q : Place) → (place_as l now s w).1 ≡ Some q
    → is_as_asked q ≡ w.local
kind-as {h} l now s w q is = go w.local is
  where
    local : SlotState h × Option Place
    local = here_by LocalSlot (slot_step l s (TakeLocal w.caller))

    go : (b : Bool) → (cond {A = SlotState h × Option Place} b local (place_for l s w.caller now)).1 ≡ Some q → is_as_asked q ≡ b
    go true is = ap is_as_asked (kind-local LocalSlot q (slot_step l s (TakeLocal w.caller)).1 is)
    go false is = kind-host l (slot_step l s (Take w.caller every now)).0 w.caller q (slot_step l s (Take w.caller every now)).1 is

-- what is found for one that may wait
record For (o : Option Waiter) (loan : Loan) : Type 0 where
  waiter : Waiter
  is : o ≡ Some waiter
  caller : waiter.caller ≡ loan.caller
  kind : is_as_asked loan.place ≡ waiter.local

lent-is : (c : ℕ) (p : Option Place) (loan : Loan) → lent_to c p ≡ Some loan → (c ≡ loan.caller) × (p ≡ Some loan.place)
lent-is c None loan is = cc
lent-is c (Some p) loan is =
    let same : record { caller = c; place = p } ≡ loan = cc in
    (ap (λ (l : Loan). l.caller) same, ap (λ (l : Loan). Some l.place) same)

for-found : {h : ℕ} (l : Limits h) (now : ℕ) (s : SlotState h) (o : Option Waiter) (loan : Loan)
    → (found_for l now s o).1 ≡ Some loan → For o loan
for-found l now s None loan is = cc
for-found l now s (Some w) loan is =
    let both = lent-is w.caller (place_as l now s w).1 loan is in
    record { waiter = w; is = refl; caller = both.0; kind = kind-as l now s w loan.place both.1 }

same-refl : (b : Bool) → same b b ≡ true
same-refl true = refl
same-refl false = refl

pub same-is : (a b : Bool) → same a b ≡ true → a ≡ b
same-is true true e = refl
same-is true false e = sym e
same-is false true e = cc
same-is false false e = refl

other-found : {h : ℕ} (l : Limits h) (now : ℕ) (ws : List Waiter) (first : Waiter) (s : SlotState h) (o : Option Loan) (loan : Loan)
    → (o ≡ Some loan → Found ws loan) → (or_other l now (first_as (not first.local) ws) s o).1 ≡ Some loan → Found ws loan
other-found l now ws first s None loan at is =
    let f = for-found l now s (first_as (not first.local) ws) loan is in
    let kind : not first.local ≡ f.waiter.local =
    same-is (not first.local) f.waiter.local (find-tells (λ w. same (not first.local) w.local) ws f.waiter f.is) in
    record {
      waiter = f.waiter;
      first = ap (λ (b : Bool). first_as b ws) (f.kind ∙ sym kind) ∙ f.is;
      caller = f.caller;
    }
other-found l now ws first s (Some other) loan at is = at is

pub in-found : {h : ℕ} (l : Limits h) (now : ℕ) (s : SlotState h) (ws : List Waiter) (loan : Loan)
    → (found_in l now s ws).1 ≡ Some loan → Found ws loan
in-found l now s [] loan is = cc
in-found l now s (w ∷ ws) loan is =
    other-found l now (w ∷ ws) w (found_for l now s (Some w)).0 (found_for l now s (Some w)).1 loan head is
  where
    at : (b : Bool) → b ≡ true → cond b (Some w) (find (λ x. same w.local x.local) ws) ≡ Some w
    at true e = refl
    at false e = cc

    head : (found_for l now s (Some w)).1 ≡ Some loan → Found (w ∷ ws) loan
    head is =
        let f = for-found l now s (Some w) loan is in
        let it : f.waiter ≡ w = let e = f.is in cc in
        record {
          waiter = w;
          first = ap (λ (b : Bool). first_as b (w ∷ ws)) (f.kind ∙ ap (λ (x : Waiter). x.local) it)
              ∙ at (same w.local w.local) (same-refl w.local);
          caller = sym (ap (λ (x : Waiter). x.caller) it) ∙ f.caller;
        }

abbrev same-kind : Loan → Waiter → Bool
same-kind loan w = same (is_as_asked loan.place) w.local

kept-next : {h : ℕ} (r : Rules h) (now : ℕ) (v : State h) → IsKept r v → IsKept r (next_of r.limits now v).0
kept-next {h} r now v k = go (found_in r.limits now v.slots v.waiting).1 refl
  where
    s : SlotState h
    s = (found_in r.limits now v.slots v.waiting).0

    out : List Holding
    out = map holding_of v.lent

    back : (o : Option Loan) → (found_in r.limits now v.slots v.waiting).1 ≡ o → Reached r.limits s (with-loan out o)
    back o is = subst (λ (o : Option Loan). Reached r.limits s (with-loan out o)) is
        (reached-in r.limits now v.slots v.waiting out (reached-of r v k))

    go : (o : Option Loan) → (found_in r.limits now v.slots v.waiting).1 ≡ o → IsKept r (served v s o)
    go None is = kept-of r s v.waiting v.lent (back None is) k.apart
    go (Some loan) is =
        let f = in-found r.limits now v.slots v.waiting loan is in
        let some : 1 ≤ waits loan.caller v.waiting = subst (λ (c : ℕ). 1 ≤ waits c v.waiting) f.caller
        (first-waits (λ w. same (is_as_asked loan.place) w.local) v.waiting f.waiter f.first) in
        kept-of r s (filter (λ w. not (waits_as loan.caller w)) v.waiting) (loan ∷ v.lent) (back (Some loan) is)
        (apart-served loan v.waiting v.lent k.apart some)

-- a new caller

none-none : (o : Option Loan) → is_some o ≡ false → o ≡ None
none-none None is = refl
none-none (Some loan) is = cc

apart-asked : (x : Waiter) (waiting : List Waiter) (lent : List Loan) → list_any (waits_as x.caller) waiting ≡ false
    → is_some (find (is_of x.caller) lent) ≡ false → Apart waiting lent → Apart (waiting ++ x ∷ []) lent
apart-asked x waiting lent out none apart n = go (nat_eq n x.caller) refl (one-more n x waiting) (apart n)
  where
    c : ℕ
    c = x.caller

    go : (b : Bool) → nat_eq n x.caller ≡ b → waits n (waiting ++ x ∷ []) ≡ waits n waiting + length (cond b (x ∷ []) [])
        → waits n waiting + loans n lent ≤ 1 → waits n (waiting ++ x ∷ []) + loans n lent ≤ 1
    go true e more was =
        let is : c ≡ n = sym (eqb-true n c e) in
        let w : waits n waiting ≡ 0 = subst (λ (m : ℕ). waits m waiting ≡ 0) is (none-waits c waiting out) in
        let t : loans n lent ≡ 0 = subst (λ (m : ℕ). loans m lent ≡ 0) is (none-found c lent (none-none (find (is_of c) lent) none)) in
        omega (arith, more, w, t)
    go false e more was = omega (arith, more, was)

or-false : (a b : Bool) → (a || b) ≡ false → (a ≡ false) × (b ≡ false)
or-false true b e = cc
or-false false b e = (refl, e)

kept-ask : {h : ℕ} (r : Rules h) (v : State h) (x : Waiter) → IsKept r v → IsKept r (asked r v x)
kept-ask r v x k = go (is_known v x.caller || is_full r v) refl
  where
    go : (b : Bool) → (is_known v x.caller || is_full r v) ≡ b
        → IsKept r (record v { waiting = cond b v.waiting (v.waiting ++ x ∷ []) })
    go true e = k
    go false e =
        let known = or-false (is_known v x.caller) (is_full r v) e in
        let parts = or-false (list_any (waits_as x.caller) v.waiting) (is_some (find (is_of x.caller) v.lent)) known.0 in
        kept-of r v.slots (v.waiting ++ x ∷ []) v.lent (reached-of r v k) (apart-asked x v.waiting v.lent parts.0 parts.1 k.apart)

-- each event keeps it, and so does a run

pub kept-step : {h : ℕ} (r : Rules h) (v : State h) (e : Event) → IsKept r v → IsKept r (desk_step r v e).0
kept-step r v (Ask c) k = kept-ask r v (record { caller = c; local = false }) k
kept-step r v (AskLocal c) k = kept-ask r v (record { caller = c; local = true }) k
kept-step r v (AskWithin c) k = k
kept-step r v (Done c) k = kept-end r v None c k
kept-step r v (Broke c now) k = kept-end r v (Some (bad_until now r.period)) c k
kept-step r v (Lost c) k = kept-end r v None c k
kept-step r v (Next now) k = kept-next r now v k

pub kept-opened : {h : ℕ} (r : Rules h) → IsKept r (opened h)
kept-opened r = record { calls = []; legal = tt; slots = refl; out = refl; apart = λ n. omega arith }

pub kept-run : {h : ℕ} (r : Rules h) (v : State h) (es : List Event) → IsKept r v → IsKept r (after r v es)
kept-run r v [] k = k
kept-run r v (e ∷ es) k = kept-run r (desk_step r v e).0 es (kept-step r v e k)

pub kept : {h : ℕ} (r : Rules h) (es : List Event) → IsKept r (after r (opened h) es)
kept {h} r es = kept-run r (opened h) es (kept-opened r)

pub agrees : {h : ℕ} (r : Rules h) (v : State h) → r.limits.count ≤ h → IsKept r v → SlotsAgree r.limits v.slots (map holding_of v.lent)
agrees {h} r v fit k =
    subst (SlotsAgree r.limits v.slots) k.out
    (subst (λ (s : SlotState h). SlotsAgree r.limits s (outstanding k.calls)) (sym k.slots) (state-agrees h r.limits k.calls fit k.legal))

pub loans-agree : LoansAgree
loans-agree h r es fit = agrees r (after r (opened h) es) fit (kept r es)

-- the same of the parts of a desk

pub kept-asked : {h : ℕ} (r : Rules h) (s : SlotState h) (w w' : List Waiter) (lent xs : List Loan) (x : Waiter)
    → IsKept r (record { slots = s; waiting = w; lent = lent }) → xs ≡ lent
    → w' ≡ cond ((list_any (waits_as x.caller) w || is_some (find (is_of x.caller) xs)) || nat_le r.most (length w + length xs)) w (w ++ x ∷ [])
    → IsKept r (record { slots = s; waiting = w'; lent = lent })
kept-asked {h} r s w w' lent xs x k same is =
    subst (λ (ws : List Waiter). IsKept r (record { slots = s; waiting = ws; lent = lent })) (sym (is
    ∙ ap (λ (ys : List Loan). cond ((list_any (waits_as x.caller) w || is_some (find (is_of x.caller) ys))
    || nat_le r.most (length w + length ys)) w (w ++ x ∷ [])) same))
    (kept-ask r (record { slots = s; waiting = w; lent = lent }) x k)

pub kept-ended : {h : ℕ} (l l' : Limits h) (period most : ℕ) (s s' : SlotState h) (w w' : List Waiter) (lent lent' xs : List Loan)
    (broken : Option ℕ) (o : Option Loan) (c : ℕ)
    → IsKept (record { limits = l; period = period; most = most }) (record { slots = s; waiting = w; lent = lent }) → xs ≡ lent
    → o ≡ find (is_of c) xs → l' ≡ l → s' ≡ given_back l s broken o → w' ≡ filter (λ w. not (waits_as c w)) w
    → lent' ≡ filter (λ loan. not (is_of c loan)) lent
    → IsKept (record { limits = l'; period = period; most = most }) (record { slots = s'; waiting = w'; lent = lent' })
kept-ended {h} l l' period most s s' w w' lent lent' xs broken o c k same is li si wi lei =
    let r : Rules h = record { limits = l; period = period; most = most } in
    let v : State h = record { slots = s; waiting = w; lent = lent } in
    let found : s' ≡ given_back l s broken (find (is_of c) lent) =
    si ∙ ap (given_back l s broken) (is ∙ ap (find (is_of c)) same) in
    subst (λ (m : Limits h). IsKept (record { limits = m; period = period; most = most })
    (record { slots = s'; waiting = w'; lent = lent' })) (sym li)
    (subst (λ (t : SlotState h). IsKept r (record { slots = t; waiting = w'; lent = lent' })) (sym found)
    (subst (λ (ws : List Waiter). IsKept r (record { slots = given_back l s broken (find (is_of c) lent); waiting = ws; lent = lent' })) (sym wi)
    (subst (λ (ls : List Loan). IsKept r
    (record { slots = given_back l s broken (find (is_of c) lent); waiting = filter (λ w. not (waits_as c w)) w; lent = ls }))
    (sym lei)
    (kept-end r v broken c k))))

pub kept-unserved : {h : ℕ} (l l' : Limits h) (period most now : ℕ) (s t : SlotState h) (w xs : List Waiter) (lent : List Loan)
    (o : Option Loan) → IsKept (record { limits = l; period = period; most = most }) (record { slots = s; waiting = w; lent = lent })
    → l' ≡ l → xs ≡ w → found_in l now s xs ≡ (t, o) → o ≡ None
    → IsKept (record { limits = l'; period = period; most = most }) (record { slots = t; waiting = w; lent = lent })
kept-unserved {h} l l' period most now s t w xs lent o k li same is none =
    let r : Rules h = record { limits = l; period = period; most = most } in
    let v : State h = record { slots = s; waiting = w; lent = lent } in
    let it : found_in l now s w ≡ (t, None) =
    ap (found_in l now s) (sym same) ∙ is ∙ ap (λ (o : Option Loan). (t, o)) none in
    subst (λ (m : Limits h). IsKept (record { limits = m; period = period; most = most })
    (record { slots = t; waiting = w; lent = lent })) (sym li)
    (subst (λ (p : SlotState h × Option Loan). IsKept r (served v p.0 p.1)) it (kept-next r now v k))

-- what is found, of the parts of a desk
it-is : {h : ℕ} (l : Limits h) (now : ℕ) (s t : SlotState h) (w xs : List Waiter) (o : Option Loan) (loan : Loan) → xs ≡ w
    → found_in l now s xs ≡ (t, o) → o ≡ Some loan → found_in l now s w ≡ (t, Some loan)
it-is l now s t w xs o loan same is some =
    ap (found_in l now s) (sym same) ∙ is ∙ ap (λ (o : Option Loan). (t, o)) some

pub kept-served : {h : ℕ} (l l' : Limits h) (period most now : ℕ) (s t : SlotState h) (w xs w' : List Waiter) (lent lent' : List Loan)
    (o : Option Loan) (loan : Loan)
    → IsKept (record { limits = l; period = period; most = most }) (record { slots = s; waiting = w; lent = lent }) → l' ≡ l → xs ≡ w
    → found_in l now s xs ≡ (t, o) → o ≡ Some loan → w' ≡ filter (λ w. not (waits_as loan.caller w)) w → lent' ≡ loan ∷ lent
    → IsKept (record { limits = l'; period = period; most = most }) (record { slots = t; waiting = w'; lent = lent' })
kept-served {h} l l' period most now s t w xs w' lent lent' o loan k li same is some wi lei =
    let r : Rules h = record { limits = l; period = period; most = most } in
    let v : State h = record { slots = s; waiting = w; lent = lent } in
    subst (λ (m : Limits h). IsKept (record { limits = m; period = period; most = most })
    (record { slots = t; waiting = w'; lent = lent' })) (sym li)
    (subst (λ (ws : List Waiter). IsKept r (record { slots = t; waiting = ws; lent = lent' })) (sym wi)
    (subst (λ (ls : List Loan). IsKept r
    (record { slots = t; waiting = filter (λ w. not (waits_as loan.caller w)) w; lent = ls })) (sym lei)
    (subst (λ (p : SlotState h × Option Loan). IsKept r (served v p.0 p.1)) (it-is l now s t w xs o loan same is some)
    (kept-next r now v k))))

pub fewer-served : {h : ℕ} (l : Limits h) (now : ℕ) (s t : SlotState h) (w xs w' : List Waiter) (o : Option Loan) (loan : Loan)
    → xs ≡ w → found_in l now s xs ≡ (t, o) → o ≡ Some loan → w' ≡ filter (λ w. not (waits_as loan.caller w)) w
    → length w' + 1 ≤ length w
fewer-served {h} l now s t w xs w' o loan same is some wi =
    let f = in-found l now s w loan (ap (λ (p : SlotState h × Option Loan). p.1) (it-is l now s t w xs o loan same is some)) in
    let one : 1 ≤ waits loan.caller w = subst (λ (c : ℕ). 1 ≤ waits c w) f.caller
    (first-waits (λ x. same-kind loan x) w f.waiter f.first) in
    let few = fewer-wait loan.caller w one in
    let long : length w' ≡ length (filter (λ w. not (waits_as loan.caller w)) w) = ap length wi in omega (arith, few, long)

pub can-give-found : {h : ℕ} (l : Limits h) (period most : ℕ) (s : SlotState h) (w : List Waiter) (lent xs : List Loan) (broken : Option ℕ)
    (o : Option Loan) (c : ℕ) → l.count ≤ h
    → IsKept (record { limits = l; period = period; most = most }) (record { slots = s; waiting = w; lent = lent }) → xs ≡ lent
    → o ≡ find (is_of c) xs → IfSome o (λ one. CanStep l s (give_of l broken one.caller one.place))
can-give-found l period most s w lent xs broken None c fit k same is = tt
can-give-found {h} l period most s w lent xs broken (Some loan) c fit k same is =
    can-give (record { limits = l; period = period; most = most }) (record { slots = s; waiting = w; lent = lent }) broken c loan fit k
    (sym (is ∙ ap (find (is_of c)) same))

pub ended-of : {h : ℕ} (l : Limits h) (v : State h) (s' : SlotState h) (w' : List Waiter) (lent' xs : List Loan) (broken : Option ℕ)
    (o : Option Loan) (c : ℕ) → xs ≡ v.lent → o ≡ find (is_of c) xs → s' ≡ given_back l v.slots broken o
    → w' ≡ filter (λ w. not (waits_as c w)) v.waiting → lent' ≡ filter (λ loan. not (is_of c loan)) v.lent
    → record { slots = s'; waiting = w'; lent = lent' } ≡ ended l v broken c
ended-of {h} l v s' w' lent' xs broken o c same is si wi lei =
    ap (λ (t : SlotState h). record { slots = t; waiting = w'; lent = lent' })
    (si ∙ ap (given_back l v.slots broken) (is ∙ ap (find (is_of c)) same))
    ∙ ap (λ (ws : List Waiter). record { slots = given_back l v.slots broken (find (is_of c) v.lent); waiting = ws; lent = lent' }) wi
    ∙ ap (λ (ls : List Loan). record {
      slots = given_back l v.slots broken (find (is_of c) v.lent);
      waiting = filter (λ w. not (waits_as c w)) v.waiting;
      lent = ls;
    }) lei
