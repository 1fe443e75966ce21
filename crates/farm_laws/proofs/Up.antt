-- Where no host is left alone, hosts are never found down.
use Rattle.std.proofs.Common.{◌≡◌, ◌⊎◌, inl, inr, ℕ, ◌+◌, ◌<◌, Bool, true, false, ◌&&◌, ◌||◌, not, cond, List, [], ◌∷◌, ◌++◌, Option}
use Rattle.std.proofs.Common.{Some, None, nat_eq, nat_lt, refl, sym, ap, ◌∙◌, subst, arith}
use Rattle.std.specs.Prelude.{slice_index, find, replicate}
use Rattle.std.proofs.lemmas.Bool.{true≢false, cases_lt, cases_eq}
use Rattle.std.proofs.lemmas.List.{get_or-replicate, get_or_past, length-replicate}
use Rattle.slot_table.specs.declared.limits.Limits.{Limits}
use Rattle.slot_table.specs.declared.state.SlotState.{SlotState}
use Rattle.slot_table.specs.declared.mask.Mask.{Mask}
use Rattle.slot_table.specs.declared.calls.CallEntry.{CallEntry}
use Rattle.slot_table.specs.declared.calls.SlotCall.{SlotCall}
use Rattle.slot_table.specs.declared.calls.SlotCall.TheVariants.{Draw, Take, Give, GiveBad, TakeLocal, GiveLocal}
use Rattle.slot_table.specs.declared.calls.SlotReply.{SlotReply}
use Rattle.slot_table.specs.declared.calls.SlotReply.TheVariants.{Drawn, Got, Full, Down, Local, Given}
use Rattle.slot_table.specs.Mask.{in_mask}
use Rattle.slot_table.specs.Step.{opening, slot_step, take_free, search_order, is_free, is_down, drawn}
use Rattle.slot_table.specs.History.{Holding, outstanding_then, IsLegalFrom}
use Rattle.slot_table.proofs.Searches.{all-at}
use Rattle.slot_table.proofs.Takes.{takes-tell}
use Rattle.farm_machine.specs.Acts.{SlotEvent, Takes, Gives, GivesBad, FindsDown, TakesLocal, GivesLocal, Act, Did, Met, slots_of}
use Rattle.farm_machine.specs.Acts.{next_met, after_met, took}
use Rattle.farm_machine.specs.Farm.{is_as_wanted, wanted}
use Rattle.farm_machine.specs.Machine.{JobCall, Draws, Adds, Waits, Mismatched, job_call, job_call_of, MaskIs, set_at}
use Rattle.farm_machine.specs.Weave.{Reports, Progress, no_progress, progress_after, next_progress, last_progress, Follows, AllFollow}
use Rattle.farm_machine.specs.Weave.{IsUsedUp}
use Rattle.course_laws.specs.Returns.{finds_down, asks_once}
use Rattle.farm_laws.specs.Laws.{UpLaw}
use Rattle.farm_laws.proofs.Draws.{NextIs, next_is}
use Rattle.farm_laws.proofs.SetAt.{set_at-elim, set_at-same, set_at-other}

-- the slot events behind the first one
met-splits : (acts : List Act) (x : SlotEvent) → next_met acts ≡ Some x → slots_of acts ≡ x ∷ slots_of (after_met acts)
met-splits [] x is = cc
met-splits (Did d ∷ acts) x is = met-splits acts x is
met-splits (Met y ∷ acts) x is = let e : y ≡ x = cc in ap (λ (z : SlotEvent). z ∷ slots_of acts) e

none-met : (acts : List Act) → next_met acts ≡ None → slots_of acts ≡ []
none-met [] is = refl
none-met (Did d ∷ acts) is = none-met acts is
none-met (Met y ∷ acts) is = cc

-- no slot of a host was taken
abbrev TookNone : List SlotEvent → Type 0
TookNone past = (host : ℕ) → took host past ≡ false

took-append : (past : List SlotEvent) (x : SlotEvent) (host : ℕ) → took host (x ∷ []) ≡ false → took host past ≡ false
    → took host (past ++ x ∷ []) ≡ false
took-append [] x host one none = one
took-append (Takes k ∷ past) x host one none = go (nat_eq k host) none (λ e. took-append past x host one e)
  where
    go : (b : Bool) → (b || took host past) ≡ false → (took host past ≡ false → took host (past ++ x ∷ []) ≡ false)
        → (b || took host (past ++ x ∷ [])) ≡ false
    go true e more = absurd (true≢false e)
    go false e more = more e
took-append (Gives k ∷ past) x host one none = took-append past x host one none
took-append (GivesBad k until ∷ past) x host one none = took-append past x host one none
took-append (FindsDown ∷ past) x host one none = took-append past x host one none
took-append (TakesLocal ∷ past) x host one none = took-append past x host one none
took-append (GivesLocal ∷ past) x host one none = took-append past x host one none

-- what is left of a job: it asks once at most, and has taken no host's slot or finds none down any more
record Asks (past : List SlotEvent) (events : List SlotEvent) : Type 0 where
  once : asks_once events ≡ true
  first : TookNone past ⊎ (finds_down events ≡ false)

-- no entry is left alone
abbrev AllUp : {h : ℕ} → SlotState h → Type 0
AllUp s = (host : ℕ) → slice_index s.until host ≡ 0

not-left : (b : Bool) (events : List SlotEvent) → (not b && asks_once events) ≡ true → (b ≡ false) × (asks_once events ≡ true)
not-left true events is = absurd (true≢false (sym is))
not-left false events is = (refl, is)

-- after one slot event more, which doesn't find hosts down
asks-more : (past events : List SlotEvent) (x : SlotEvent) → Asks past (x ∷ events) → finds_down (x ∷ []) ≡ false
    → Asks (past ++ x ∷ []) events
asks-more past events (Takes host) asks not = let parts = not-left (finds_down events) events asks.once in
    record { once = parts.1; first = inr parts.0 }
asks-more past events (Gives host) asks not =
    record {
      once = asks.once;
      first = elim asks.first [ inl none ↦ inl (λ k. took-append past (Gives host) k refl (none k)) | inr later ↦ inr later ];
    }
asks-more past events (GivesBad host until) asks not = absurd (true≢false (sym asks.once))
asks-more past events FindsDown asks not = absurd (true≢false not)
asks-more past events TakesLocal asks not =
    record {
      once = asks.once;
      first = elim asks.first [ inl none ↦ inl (λ k. took-append past TakesLocal k refl (none k)) | inr later ↦ inr later ];
    }
asks-more past events GivesLocal asks not =
    record {
      once = asks.once;
      first = elim asks.first [ inl none ↦ inl (λ k. took-append past GivesLocal k refl (none k)) | inr later ↦ inr later ];
    }

-- a call that leaves no host alone leaves none left alone
abbrev LeavesUp : {h : ℕ} → SlotState h → JobCall → SlotState h → Type 0
LeavesUp s (Adds j mask (GivesBad host until)) t = Unit {0}
LeavesUp s a t = AllUp s → AllUp t

leaves-up : {h : ℕ} (l : Limits h) (s : SlotState h) (call : SlotCall) (reply : SlotReply) → reply ≡ (slot_step l s call).1
    → LeavesUp s (job_call call reply) (slot_step l s call).0
leaves-up {h} l s Draw reply is =
    subst (λ (r : SlotReply). LeavesUp s (job_call Draw r) (slot_step l s Draw).0) (sym is) (go (nat_lt s.next l.jobs))
  where
    go : (b : Bool) → LeavesUp s
        (job_call Draw (cond {A = SlotState h × SlotReply} b (drawn s, Drawn (Some s.next)) (s, Drawn None)).1)
        (cond {A = SlotState h × SlotReply} b (drawn s, Drawn (Some s.next)) (s, Drawn None)).0
    go true = λ up. up
    go false = λ up. up
leaves-up l s (Take job mask now) reply is =
    subst (λ (r : SlotReply). LeavesUp s (job_call (Take job mask now) r) (slot_step l s (Take job mask now)).0) (sym is)
    (go (find (is_free l s mask now) (search_order l job)) (is_down l s mask now))
  where
    go : (o : Option ℕ) (down : Bool) → LeavesUp s (job_call (Take job mask now) (take_free s o down).1) (take_free s o down).0
    go (Some i) down = λ up. up
    go None true = λ up. up
    go None false = λ up. up
leaves-up l s (Give host job) reply is =
    subst (λ (r : SlotReply). LeavesUp s (job_call (Give host job) r) (slot_step l s (Give host job)).0) (sym is) (λ up. up)
leaves-up l s (GiveBad host job until) reply is =
    subst (λ (r : SlotReply). LeavesUp s (job_call (GiveBad host job until) r) (slot_step l s (GiveBad host job until)).0) (sym is) tt
leaves-up {h} l s (TakeLocal job) reply is =
    subst (λ (r : SlotReply). LeavesUp s (job_call (TakeLocal job) r) (slot_step l s (TakeLocal job)).0) (sym is)
    (go (nat_lt s.local_held l.local_slots))
  where
    go : (b : Bool) → LeavesUp s
        (job_call (TakeLocal job)
        (cond {A = SlotState h × SlotReply} b (record s { local_held = s.local_held + 1 }, Local true) (s, Local false)).1)
        (cond {A = SlotState h × SlotReply} b (record s { local_held = s.local_held + 1 }, Local true) (s, Local false)).0
    go true = λ up. up
    go false = λ up. up
leaves-up l s (GiveLocal job) reply is =
    subst (λ (r : SlotReply). LeavesUp s (job_call (GiveLocal job) r) (slot_step l s (GiveLocal job)).0) (sym is) (λ up. up)

-- where hosts are found down while none is left alone, there is none in the mask
abbrev RulesOut : {h : ℕ} → Limits h → SlotState h → JobCall → Type 0
RulesOut l s (Adds j (Some mask) FindsDown) = AllUp s → (host : ℕ) → host < l.count → in_mask mask host ≡ true → ⊥
RulesOut l s (Adds j None FindsDown) = ⊥
RulesOut l s a = Unit {0}

rules-out : {h : ℕ} (l : Limits h) (s : SlotState h) (call : SlotCall) (reply : SlotReply) → reply ≡ (slot_step l s call).1
    → RulesOut l s (job_call call reply)
rules-out {h} l s (Take job mask now) Down is = λ up host below masked.
    let left : now < slice_index s.until host = (takes-tell h l s job mask now).down.0 (sym is) host below masked in
    let none = up host in
    absurd (omega (arith, left, none))
rules-out l s Draw (Drawn o) is = tt
rules-out l s Draw (Got host) is = tt
rules-out l s Draw Full is = tt
rules-out l s Draw Down is = tt
rules-out l s Draw (Local given) is = tt
rules-out l s Draw Given is = tt
rules-out l s (Take job mask now) (Drawn o) is = tt
rules-out l s (Take job mask now) (Got host) is = tt
rules-out l s (Take job mask now) Full is = tt
rules-out l s (Take job mask now) (Local given) is = tt
rules-out l s (Take job mask now) Given is = tt
rules-out l s (Give host job) (Drawn o) is = tt
rules-out l s (Give host job) (Got other) is = tt
rules-out l s (Give host job) Full is = tt
rules-out l s (Give host job) Down is = tt
rules-out l s (Give host job) (Local given) is = tt
rules-out l s (Give host job) Given is = tt
rules-out l s (GiveBad host job until) (Drawn o) is = tt
rules-out l s (GiveBad host job until) (Got other) is = tt
rules-out l s (GiveBad host job until) Full is = tt
rules-out l s (GiveBad host job until) Down is = tt
rules-out l s (GiveBad host job until) (Local given) is = tt
rules-out l s (GiveBad host job until) Given is = tt
rules-out l s (TakeLocal job) (Drawn o) is = tt
rules-out l s (TakeLocal job) (Got other) is = tt
rules-out l s (TakeLocal job) Full is = tt
rules-out l s (TakeLocal job) Down is = tt
rules-out l s (TakeLocal job) (Local true) is = tt
rules-out l s (TakeLocal job) (Local false) is = tt
rules-out l s (TakeLocal job) Given is = tt
rules-out l s (GiveLocal job) (Drawn o) is = tt
rules-out l s (GiveLocal job) (Got other) is = tt
rules-out l s (GiveLocal job) Full is = tt
rules-out l s (GiveLocal job) Down is = tt
rules-out l s (GiveLocal job) (Local given) is = tt
rules-out l s (GiveLocal job) Given is = tt

-- after the calls so far: no host is left alone, and the rest of each job asks once at most
record Inv {h : ℕ} (l : Limits h) (s : SlotState h) (p : Progress) : Type 0 where
  up : AllUp s
  known : (worker j : ℕ) → p.current worker ≡ Some j → j < l.jobs
  asks : (j : ℕ) → j < l.jobs → Asks (p.past j) (slots_of (p.rest j))

module _ {h : ℕ} (l : Limits h) (r : Reports) (some : 0 < l.count) where
  first-masked : (past : List SlotEvent) (mask : Mask) → wanted l past mask ≡ true → TookNone past → in_mask mask 0 ≡ true
  first-masked past mask is none =
      let at : is_as_wanted past mask 0 ≡ true = all-at (is_as_wanted past mask) 0 l.count is 0 (omega arith) (omega (arith, some)) in
      sym (ap (λ (b : Bool). cond b (not (in_mask mask 0)) (in_mask mask 0)) (none 0)) ∙ at

  -- the next slot event of a job doesn't find hosts down
  not-down : (s : SlotState h) (j : ℕ) (mask : Option Mask) (x : SlotEvent) (past events : List SlotEvent)
      → AllUp s → RulesOut l s (Adds j mask x) → MaskIs mask (wanted l past) → Asks past (x ∷ events) → finds_down (x ∷ []) ≡ false
  not-down s j mask (Takes host) past events up out is asks = refl
  not-down s j mask (Gives host) past events up out is asks = refl
  not-down s j mask (GivesBad host until) past events up out is asks = refl
  not-down s j mask TakesLocal past events up out is asks = refl
  not-down s j mask GivesLocal past events up out is asks = refl
  not-down s j None FindsDown past events up out is asks = absurd out
  not-down s j (Some mask) FindsDown past events up out is asks = elim asks.first [
    | inl none ↦ absurd (out up 0 some (first-masked past mask is none))
    | inr later ↦ absurd (true≢false later)
  ]

  down-more : (x : SlotEvent) (events : List SlotEvent) → finds_down (x ∷ []) ≡ false → finds_down events ≡ false
      → finds_down (x ∷ events) ≡ false
  down-more (Takes host) events one rest = rest
  down-more (Gives host) events one rest = rest
  down-more (GivesBad host until) events one rest = rest
  down-more FindsDown events one rest = one
  down-more TakesLocal events one rest = rest
  down-more GivesLocal events one rest = rest

  stays-up : (s t : SlotState h) (j : ℕ) (mask : Option Mask) (x : SlotEvent) (past events : List SlotEvent)
      → LeavesUp s (Adds j mask x) t → Asks past (x ∷ events) → AllUp s → AllUp t
  stays-up s t j mask (Takes host) past events up asks = up
  stays-up s t j mask (Gives host) past events up asks = up
  stays-up s t j mask (GivesBad host until) past events up asks = absurd (true≢false (sym asks.once))
  stays-up s t j mask FindsDown past events up asks = up
  stays-up s t j mask TakesLocal past events up asks = up
  stays-up s t j mask GivesLocal past events up asks = up

  -- one call more: it keeps this, and what is left of a job behind it finds no hosts down only where what was left before it found none
  record Goes (p q : Progress) (t : SlotState h) : Type 0 where
    inv : Inv l t q
    down : (j : ℕ) → j < l.jobs → finds_down (slots_of (q.rest j)) ≡ false → finds_down (slots_of (p.rest j)) ≡ false

  goes : (s t : SlotState h) (p : Progress) (worker : ℕ) (a : JobCall) → Inv l s p → NextIs l a s.next t.next → LeavesUp s a t
      → RulesOut l s a → Follows r (wanted l) p worker a → Goes p (progress_after p worker a) t
  goes s t p worker (Draws None) inv next up out follows = record {
    inv = record {
      up = up inv.up;
      known = λ v j. set_at-elim (λ (o : Option ℕ). o ≡ Some j → j < l.jobs) p.current worker None v (λ same e. cc)
          (λ other e. inv.known v j e);
      asks = inv.asks;
    };
    down = λ j below e. e;
  }
  goes s t p worker (Draws (Some k)) inv next up out follows = record {
    inv = record {
      up = up inv.up;
      known = λ v j. set_at-elim (λ (o : Option ℕ). o ≡ Some j → j < l.jobs) p.current worker (Some k) v
          (λ same e. let is : k ≡ j = cc in let at : k ≡ s.next = next.0 in let room : s.next < l.jobs = next.1 in
          omega (arith, is, at, room)) (λ other e. inv.known v j e);
      asks = inv.asks;
    };
    down = λ j below e. e;
  }
  goes s t p worker (Waits k mask kind) inv next up out follows =
      record { inv = record { up = up inv.up; known = inv.known; asks = inv.asks }; down = λ j below e. e }
  goes s t p worker Mismatched inv next up out follows = absurd follows
  goes s t p worker (Adds k mask x) inv next up out follows =
      let below = inv.known worker k follows.0 in
      let split = met-splits (p.rest k) x follows.2 in
      let asks : Asks (p.past k) (x ∷ slots_of (after_met (p.rest k))) = subst (Asks (p.past k)) split (inv.asks k below) in
      let not = not-down s k mask x (p.past k) (slots_of (after_met (p.rest k))) inv.up out follows.1 asks in
      record {
        inv = record {
          up = stays-up s t k mask x (p.past k) (slots_of (after_met (p.rest k))) up asks inv.up;
          known = inv.known;
          asks = λ j inside. elim (cases_eq j k) [
            | inl same ↦ subst (λ (i : ℕ). Asks (set_at p.past k (p.past k ++ x ∷ []) i)
                (slots_of (set_at p.rest k (after_met (p.rest k)) i))) (sym same)
                (subst (λ (past : List SlotEvent). Asks past (slots_of (set_at p.rest k (after_met (p.rest k)) k)))
                (sym (set_at-same p.past k (p.past k ++ x ∷ [])))
                (subst (λ (rest : List Act). Asks (p.past k ++ x ∷ []) (slots_of rest))
                (sym (set_at-same p.rest k (after_met (p.rest k))))
                (asks-more (p.past k) (slots_of (after_met (p.rest k))) x asks not)))
            | inr other ↦ subst (λ (past : List SlotEvent). Asks past (slots_of (set_at p.rest k (after_met (p.rest k)) j)))
                (sym (set_at-other p.past k (p.past k ++ x ∷ []) j other))
                (subst (λ (rest : List Act). Asks (p.past j) (slots_of rest))
                (sym (set_at-other p.rest k (after_met (p.rest k)) j other)) (inv.asks j inside))
          ];
        };
        down = λ j inside. elim (cases_eq j k) [
          | inl same ↦ λ e. subst (λ (i : ℕ). finds_down (slots_of (p.rest i)) ≡ false) (sym same)
              (ap finds_down split ∙ down-more x (slots_of (after_met (p.rest k))) not
              (sym (ap (λ (rest : List Act). finds_down (slots_of rest)) (set_at-same p.rest k (after_met (p.rest k))))
              ∙ sym (ap (λ (i : ℕ). finds_down (slots_of (set_at p.rest k (after_met (p.rest k)) i))) same) ∙ e))
          | inr other ↦ λ e. sym (ap (λ (rest : List Act). finds_down (slots_of rest))
              (set_at-other p.rest k (after_met (p.rest k)) j other)) ∙ e
        ];
      }

  up-from : (es : List CallEntry) (s : SlotState h) (o : List Holding) (p : Progress) → Inv l s p → IsLegalFrom l s o es
      → AllFollow r (wanted l) p es
      → ((j : ℕ) → j < l.jobs → IsUsedUp (last_progress p es) j) → (j : ℕ) → j < l.jobs → finds_down (slots_of (p.rest j)) ≡ false
  up-from [] s o p inv legal follow used j below = ap finds_down (none-met (p.rest j) (used j below))
  up-from (e ∷ es) s o p inv legal follow used j below =
      let t = (slot_step l s e.call).0 in
      let g = goes s t p e.caller (job_call_of e) inv (next_is l s e.call e.reply legal.0.reply)
      (leaves-up l s e.call e.reply legal.0.reply) (rules-out l s e.call e.reply legal.0.reply) follow.0 in
      g.down j below (up-from es t (outstanding_then o e) (next_progress p e) g.inv legal.1 follow.1 used j below)

opening-up : (h host : ℕ) → slice_index (opening h).until host ≡ 0
opening-up h host = elim (cases_lt host h) [
  | inl inside ↦ get_or-replicate h host 0 0 inside
  | inr outside ↦ get_or_past (replicate h 0) host 0 (let long = length-replicate {A = ℕ} h 0 in omega (arith, long, outside))
]

pub up-law : UpLaw
up-law h l r calls some agrees asks =
    up-from l r some calls (opening h) [] (no_progress r)
    (record { up = opening-up h; known = λ v j e. cc; asks = λ j below. record { once = asks j below; first = inl (λ host. refl) } })
    agrees.legal agrees.follow agrees.used
