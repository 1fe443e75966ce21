-- What the replies of the slots say of the next job, and of the entries of a refused take.
use Rattle.std.proofs.Common.{◌≡◌, ℕ, zero, suc, ◌+◌, ◌<◌, ◌≤◌, Bool, true, false, ◌&&◌, ◌||◌, not, cond, List, [], ◌∷◌, Option, Some}
use Rattle.std.proofs.Common.{None, nat_lt, length, refl, sym, ap, ◌∙◌, subst, arith}
use Rattle.std.specs.Prelude.{find}
use Rattle.std.specs.List.{range_with_len, list_all}
use Rattle.std.proofs.lemmas.Bool.{ltb-true}
use Rattle.std.proofs.lemmas.List.FromFn.{length-range_with_len}
use Rattle.slot_table.specs.declared.limits.Limits.{Limits}
use Rattle.slot_table.specs.declared.state.SlotState.{SlotState}
use Rattle.slot_table.specs.declared.mask.Mask.{Mask}
use Rattle.slot_table.specs.declared.calls.CallEntry.{CallEntry}
use Rattle.slot_table.specs.declared.calls.SlotCall.{SlotCall}
use Rattle.slot_table.specs.declared.calls.SlotCall.TheVariants.{Draw, Take, Give, GiveBad, TakeLocal, GiveLocal}
use Rattle.slot_table.specs.declared.calls.SlotReply.{SlotReply}
use Rattle.slot_table.specs.declared.calls.SlotReply.TheVariants.{Drawn, Local}
use Rattle.slot_table.specs.Mask.{in_mask}
use Rattle.slot_table.specs.Step.{opening, slot_step, search_order, is_free, is_ruled_out, is_left_alone, is_down, take_free, drawn}
use Rattle.slot_table.specs.History.{Holding, outstanding_then, IsLegalFrom, IsLegal, state_from, state_after}
use Rattle.slot_table.proofs.Draws.{draws-in-order}
use Rattle.farm_machine.specs.Machine.{HostSlot, LocalSlot, JobCall, Draws, Adds, Waits, Mismatched, job_call, job_call_of}
use Rattle.farm_machine.specs.Weave.{AllDrawn}

-- the next job before and after a call
abbrev pub NextIs : {h : ℕ} → Limits h → JobCall → ℕ → ℕ → Type 0
NextIs l (Draws (Some j)) n m = (j ≡ n) × (n < l.jobs) × (m ≡ n + 1)
NextIs l (Draws None) n m = m ≡ n
NextIs l (Adds j mask x) n m = m ≡ n
NextIs l (Waits j mask kind) n m = m ≡ n
NextIs l Mismatched n m = m ≡ n

-- where a take was refused, its mask has an entry
abbrev pub HasRoom : {h : ℕ} → Limits h → JobCall → Type 0
HasRoom l (Waits j (Some mask) HostSlot) = (host : ℕ) × (host < l.count) × (in_mask mask host ≡ true)
HasRoom l (Waits j None HostSlot) = ⊥
HasRoom l (Waits j mask LocalSlot) = Unit {0}
HasRoom l (Draws o) = Unit {0}
HasRoom l (Adds j mask x) = Unit {0}
HasRoom l Mismatched = Unit {0}

some-false : (q : ℕ → Bool) (a n : ℕ) → list_all q (range_with_len a n) ≡ false → (i : ℕ) × (i < a + n) × (q i ≡ false)
some-false q a zero e = cc
some-false q a (suc n) e = go (q a) refl e (some-false q (a + 1) n)
  where
    go : (b : Bool) → q a ≡ b → (b && list_all q (range_with_len (a + 1) n)) ≡ false
        → (list_all q (range_with_len (a + 1) n) ≡ false → (i : ℕ) × (i < a + 1 + n) × (q i ≡ false))
        → (i : ℕ) × (i < a + suc n) × (q i ≡ false)
    go true is e ih = let r = ih e in let below : r.0 < a + 1 + n = r.1 in (r.0, omega arith, r.2)
    go false is e ih = (a, omega arith, is)

not-down : {h : ℕ} (l : Limits h) (s : SlotState h) (m : Mask) (now : ℕ) → is_down l s m now ≡ false
    → (i : ℕ) × (i < l.count) × (in_mask m i ≡ true)
not-down l s m now e = let r = some-false (is_ruled_out s m now) 0 l.count e in let below : r.0 < 0 + l.count = r.1 in
    (r.0, omega arith, masked (in_mask m r.0) (is_left_alone s now r.0) r.2)
  where
    masked : (b a : Bool) → (not b || a) ≡ false → b ≡ true
    masked true a e = refl
    masked false a e = cc

next_take : {h : ℕ} (l : Limits h) (s : SlotState h) (job : ℕ) (m : Mask) (now : ℕ) (o : Option ℕ) (down : Bool)
    → NextIs l (job_call (Take job m now) (take_free s o down).1) s.next (take_free s o down).0.next
next_take l s job m now (Some i) down = refl
next_take l s job m now None true = refl
next_take l s job m now None false = refl

pub next_is : {h : ℕ} (l : Limits h) (s : SlotState h) (call : SlotCall) (reply : SlotReply) → reply ≡ (slot_step l s call).1
    → NextIs l (job_call call reply) s.next (slot_step l s call).0.next
next_is {h} l s Draw reply e =
    subst (λ (k : SlotReply). NextIs l (job_call Draw k) s.next (slot_step l s Draw).0.next) (sym e) (go (nat_lt s.next l.jobs) refl)
  where
    go : (b : Bool) → nat_lt s.next l.jobs ≡ b
        → NextIs l (job_call Draw (cond {A = SlotState h × SlotReply} b (drawn s, Drawn (Some s.next)) (s, Drawn None)).1) s.next
        (cond {A = SlotState h × SlotReply} b (drawn s, Drawn (Some s.next)) (s, Drawn None)).0.next
    go true is = (refl, ltb-true s.next l.jobs is, refl)
    go false is = refl
next_is l s (Take job m now) reply e =
    subst (λ (k : SlotReply). NextIs l (job_call (Take job m now) k) s.next (slot_step l s (Take job m now)).0.next) (sym e)
    (next_take l s job m now (find (is_free l s m now) (search_order l job)) (is_down l s m now))
next_is l s (Give host job) reply e = subst (λ (k : SlotReply). NextIs l (job_call (Give host job) k) s.next s.next) (sym e) refl
next_is l s (GiveBad host job until) reply e =
    subst (λ (k : SlotReply). NextIs l (job_call (GiveBad host job until) k) s.next s.next) (sym e) refl
next_is {h} l s (TakeLocal job) reply e =
    subst (λ (k : SlotReply). NextIs l (job_call (TakeLocal job) k) s.next (slot_step l s (TakeLocal job)).0.next) (sym e)
    (go (nat_lt s.local_held l.local_slots))
  where
    go : (b : Bool) → NextIs l
        (job_call (TakeLocal job)
        (cond {A = SlotState h × SlotReply} b (record s { local_held = s.local_held + 1 }, Local true) (s, Local false)).1) s.next
        (cond {A = SlotState h × SlotReply} b (record s { local_held = s.local_held + 1 }, Local true) (s, Local false)).0.next
    go true = refl
    go false = refl
next_is l s (GiveLocal job) reply e = subst (λ (k : SlotReply). NextIs l (job_call (GiveLocal job) k) s.next s.next) (sym e) refl

pub has_room : {h : ℕ} (l : Limits h) (s : SlotState h) (call : SlotCall) (reply : SlotReply) → reply ≡ (slot_step l s call).1
    → HasRoom l (job_call call reply)
has_room {h} l s Draw reply e = subst (λ (k : SlotReply). HasRoom l (job_call Draw k)) (sym e) (go (nat_lt s.next l.jobs))
  where
    go : (b : Bool) → HasRoom l (job_call Draw (cond {A = SlotState h × SlotReply} b (drawn s, Drawn (Some s.next)) (s, Drawn None)).1)
    go true = tt
    go false = tt
has_room l s (Take job m now) reply e =
    subst (λ (k : SlotReply). HasRoom l (job_call (Take job m now) k)) (sym e)
    (go (is_down l s m now) refl (find (is_free l s m now) (search_order l job)))
  where
    go : (down : Bool) → is_down l s m now ≡ down → (o : Option ℕ) → HasRoom l (job_call (Take job m now) (take_free s o down).1)
    go down is (Some i) = tt
    go true is None = tt
    go false is None = not-down l s m now is
has_room l s (Give host job) reply e = subst (λ (k : SlotReply). HasRoom l (job_call (Give host job) k)) (sym e) tt
has_room l s (GiveBad host job until) reply e = subst (λ (k : SlotReply). HasRoom l (job_call (GiveBad host job until) k)) (sym e) tt
has_room {h} l s (TakeLocal job) reply e =
    subst (λ (k : SlotReply). HasRoom l (job_call (TakeLocal job) k)) (sym e) (go (nat_lt s.local_held l.local_slots))
  where
    go : (b : Bool) → HasRoom l
        (job_call (TakeLocal job)
        (cond {A = SlotState h × SlotReply} b (record s { local_held = s.local_held + 1 }, Local true) (s, Local false)).1)
    go true = tt
    go false = tt
has_room l s (GiveLocal job) reply e = subst (λ (k : SlotReply). HasRoom l (job_call (GiveLocal job) k)) (sym e) tt

pub next_grows : {h : ℕ} (l : Limits h) (a : JobCall) (n m : ℕ) → NextIs l a n m → n ≤ m
next_grows l (Draws (Some j)) n m h = omega arith
next_grows l (Draws None) n m h = omega arith
next_grows l (Adds j mask x) n m h = omega arith
next_grows l (Waits j mask kind) n m h = omega arith
next_grows l Mismatched n m h = omega arith

-- the next number never falls, nor passes the number of jobs
pub grows-from : {h : ℕ} (l : Limits h) (s : SlotState h) (o : List Holding) (es : List CallEntry) → IsLegalFrom l s o es
    → s.next ≤ (state_from l s es).next
grows-from l s o [] legal = omega arith
grows-from l s o (e ∷ es) legal =
    let a : s.next ≤ (slot_step l s e.call).0.next =
    next_grows l (job_call_of e) s.next (slot_step l s e.call).0.next (next_is l s e.call e.reply legal.0.reply) in
    let b : (slot_step l s e.call).0.next ≤ (state_from l (slot_step l s e.call).0 es).next =
    grows-from l (slot_step l s e.call).0 (outstanding_then o e) es legal.1 in
    omega arith

next-bounded : {h : ℕ} (l : Limits h) (a : JobCall) (n m : ℕ) → NextIs l a n m → n ≤ l.jobs → m ≤ l.jobs
next-bounded l (Draws (Some j)) n m h below = let up : m ≡ n + 1 = h.2 in let room : n < l.jobs = h.1 in omega (arith, up, room)
next-bounded l (Draws None) n m h below = omega arith
next-bounded l (Adds j mask x) n m h below = omega arith
next-bounded l (Waits j mask kind) n m h below = omega arith
next-bounded l Mismatched n m h below = omega arith

bounded-from : {h : ℕ} (l : Limits h) (s : SlotState h) (o : List Holding) (es : List CallEntry) → IsLegalFrom l s o es
    → s.next ≤ l.jobs → (state_from l s es).next ≤ l.jobs
bounded-from l s o [] legal below = below
bounded-from l s o (e ∷ es) legal below =
    bounded-from l (slot_step l s e.call).0 (outstanding_then o e) es legal.1
    (next-bounded l (job_call_of e) s.next (slot_step l s e.call).0.next (next_is l s e.call e.reply legal.0.reply) below)

-- every job was drawn exactly where the next number is the number of jobs
pub next-all : {h : ℕ} (l : Limits h) (es : List CallEntry) → IsLegal l es → AllDrawn l es → (state_after l es).next ≡ l.jobs
next-all {h} l es legal all = sym (length-range_with_len 0 (state_after l es).next)
    ∙ ap length (sym (draws-in-order h l es legal) ∙ all) ∙ length-range_with_len 0 l.jobs

pub all-next : {h : ℕ} (l : Limits h) (es : List CallEntry) → IsLegal l es → l.jobs ≤ (state_after l es).next → AllDrawn l es
all-next {h} l es legal full =
    let top : (state_after l es).next ≤ l.jobs = bounded-from l (opening h) [] es legal (omega arith) in
    let is : (state_after l es).next ≡ l.jobs = omega arith in
    draws-in-order h l es legal ∙ ap (range_with_len 0) is
