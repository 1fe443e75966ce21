-- What each call keeps of the agreement between the state and the outstanding grants.
use Rattle.std.proofs.Common.{◌≡◌, ◌≢◌, inl, inr, ℕ, ◌+◌, ◌-◌, ◌<◌, ◌≤◌, length, get_or, Option, Some, None, Bool, true, false, ◌&&◌}
use Rattle.std.proofs.Common.{◌||◌, not, cond, List, [], ◌∷◌, nat_eq, nat_lt, max, refl, sym, ap, ◌∙◌, subst, arith, eq-eqb, ne_eqb}
use Rattle.std.proofs.Common.{true≢false, length-set, get_or-set_other}
use Rattle.std.specs.Prelude.{slice_index, find}
use Rattle.std.proofs.lemmas.Grind.{get_or-set_at}
use Rattle.std.proofs.lemmas.Bool.{ltb-true, and_parts, cases_eq}
use Rattle.std.proofs.lemmas.List.{get_or-replicate, length-replicate}
use Rattle.slot_table.specs.declared.limits.Limits.{Limits}
use Rattle.slot_table.specs.declared.state.SlotState.{SlotState}
use Rattle.slot_table.specs.declared.mask.Mask.{Mask}
use Rattle.slot_table.specs.declared.calls.SlotCall.{SlotCall}
use Rattle.slot_table.specs.declared.calls.SlotCall.TheVariants.{Draw, Take, Give, GiveBad, TakeLocal, GiveLocal}
use Rattle.slot_table.specs.declared.calls.SlotReply.{SlotReply}
use Rattle.slot_table.specs.declared.calls.SlotReply.TheVariants.{Drawn, Local}
use Rattle.slot_table.specs.declared.calls.CallEntry.{CallEntry}
use Rattle.slot_table.specs.Limits.{is_local}
use Rattle.slot_table.specs.Mask.{in_mask}
use Rattle.slot_table.specs.Step.{opening, first_place, search_order, is_left_alone, is_free, is_down, slot_step, take_free, drawn, taken}
use Rattle.slot_table.specs.Step.{given, left_alone}
use Rattle.slot_table.specs.History.{Holding, holding, holding_eq, has, without, count_at, change, changed, outstanding_then}
use Rattle.slot_table.specs.History.{outstanding_from, outstanding, state_from, state_after, may_call, IsLegalFrom, IsLegal}
use Rattle.slot_table.specs.Laws.{StateAgrees}
use Rattle.slot_table.proofs.Holdings.{same-host, count_at-cons, count-without, has-without}
use Rattle.slot_table.proofs.Searches.{Passes, find-passes, search-below}

-- the agreement, and the widths of the arrays, past whose ends nothing is held
pub record Sound {h : ℕ} (l : Limits h) (s : SlotState h) (o : List Holding) : Type 0 where
  pub wide_held : length s.held ≡ h
  pub wide_until : length s.until ≡ h
  pub held : (i : ℕ) → i < h → get_or s.held i 0 ≡ count_at (Some i) o
  pub limit : (i : ℕ) → i < l.count → get_or s.held i 0 ≤ get_or l.limit i 0
  pub local_held : s.local_held ≡ count_at None o
  pub local_limit : s.local_held ≤ l.local_slots
  pub entries : (a : Holding) (i : ℕ) → has a o ≡ true → a.host ≡ Some i → i < l.count
  pub until : (i : ℕ) → i < l.count → is_local l i ≡ true → get_or s.until i 0 ≡ 0
  pub next : s.next ≤ l.jobs

-- an entry that a take may find
abbrev IsFound : {h : ℕ} → Limits h → SlotState h → Option ℕ → Type 0
IsFound l s None = Unit {0}
IsFound l s (Some k) = (k < l.count) × (get_or s.held k 0 < get_or l.limit k 0)

found : {h : ℕ} (l : Limits h) (s : SlotState h) (m : Mask) (now job : ℕ) → IsFound l s (find (is_free l s m now) (search_order l job))
found l s m now job = go (find (is_free l s m now) (search_order l job))
    (find-passes (is_free l s m now) (λ i. nat_lt i l.count) (search_order l job) (search-below (first_place l job) l.count))
  where
    go : (o : Option ℕ) → Passes (is_free l s m now) (λ i. nat_lt i l.count) o → IsFound l s o
    go None passes = tt
    go (Some k) passes =
        let free = and_parts (in_mask m k) (nat_lt (slice_index s.held k) (slice_index l.limit k) && not (is_left_alone s now k))
        passes.0 in
        let room = and_parts (nat_lt (slice_index s.held k) (slice_index l.limit k)) (not (is_left_alone s now k)) free.1 in
        (ltb-true k l.count passes.1, ltb-true (slice_index s.held k) (slice_index l.limit k) room.0)

one-same : (k i : ℕ) → i ≡ k → cond {A = ℕ} (nat_eq k i) 1 0 ≡ 1
one-same k i e = ap (λ (b : Bool). cond {A = ℕ} b 1 0) (eq-eqb k i (sym e))

one-other : (k i : ℕ) → i ≢ k → cond {A = ℕ} (nat_eq k i) 1 0 ≡ 0
one-other k i n = ap (λ (b : Bool). cond {A = ℕ} b 1 0) (ne_eqb k i (λ e. n (sym e)))

sound-taken : {h : ℕ} (l : Limits h) (s : SlotState h) (o : List Holding) (caller job k : ℕ) → l.count ≤ h → Sound l s o
    → IsFound l s (Some k) → Sound l (taken s k) (holding caller job (Some k) ∷ o)
sound-taken {h} l s o caller job k fit sound free = record {
  wide_held = length-set s.held k (get_or s.held k 0 + 1) ∙ sound.wide_held;
  wide_until = sound.wide_until;
  held = λ i inside. let more = count_at-cons (Some i) (holding caller job (Some k)) o in elim (cases_eq i k) [
    | inl e ↦
        let w = sound.wide_held in let is = get_or-set_at s.held k i (get_or s.held k 0 + 1) 0 e (omega arith) in
        let was : get_or s.held k 0 ≡ count_at (Some i) o = ap (λ (j : ℕ). get_or s.held j 0) (sym e) ∙ sound.held i inside in
        let one = one-same k i e in omega (arith, is, was, one, more)
    | inr n ↦
        let is = get_or-set_other s.held k i (get_or s.held k 0 + 1) 0 n in let was = sound.held i inside in
        let none = one-other k i n in omega (arith, is, was, none, more)
  ];
  limit = λ i inside. elim (cases_eq i k) [
    | inl e ↦
        let w = sound.wide_held in let is = get_or-set_at s.held k i (get_or s.held k 0 + 1) 0 e (omega arith) in
        let room : get_or s.held k 0 < get_or l.limit k 0 = free.1 in let at : get_or l.limit i 0 ≡ get_or l.limit k 0 =
        ap (λ (j : ℕ). get_or l.limit j 0) e in omega (arith, is, room, at)
    | inr n ↦ let is = get_or-set_other s.held k i (get_or s.held k 0 + 1) 0 n in let was = sound.limit i inside in omega (arith, is, was)
  ];
  local_held = sound.local_held ∙ sym (count_at-cons None (holding caller job (Some k)) o ∙ zero_more (count_at None o));
  local_limit = sound.local_limit;
  entries = λ a i. here a i (holding_eq a (holding caller job (Some k))) refl;
  until = sound.until;
  next = sound.next;
}
  where
    zero_more : (n : ℕ) → 0 + n ≡ n
    zero_more n = omega arith

    here : (a : Holding) (i : ℕ) (b : Bool) → holding_eq a (holding caller job (Some k)) ≡ b → (b || has a o) ≡ true
        → a.host ≡ Some i → i < l.count
    here a i true e h is = let at : Some k ≡ Some i = sym (same-host a (holding caller job (Some k)) e) ∙ is in
        let at' : k ≡ i = cc in let below : k < l.count = free.0 in omega arith
    here a i false e h is = sound.entries a i h is

sound-given : {h : ℕ} (l : Limits h) (s : SlotState h) (o : List Holding) (caller job k : ℕ) → l.count ≤ h → Sound l s o
    → has (holding caller job (Some k)) o ≡ true → Sound l (given s k) (without (holding caller job (Some k)) o)
sound-given {h} l s o caller job k fit sound is_in =
    let a = holding caller job (Some k) in
    let below : k < l.count = sound.entries a k is_in refl in
    let w = sound.wide_held in
    record {
      wide_held = length-set s.held k (get_or s.held k 0 - 1) ∙ sound.wide_held;
      wide_until = sound.wide_until;
      held = λ i inside. let less = count-without (Some i) a o is_in in elim (cases_eq i k) [
        | inl e ↦
            let was : get_or s.held k 0 ≡ count_at (Some i) o = ap (λ (j : ℕ). get_or s.held j 0) (sym e) ∙ sound.held i inside in
            let is = get_or-set_at s.held k i (get_or s.held k 0 - 1) 0 e (omega arith) in let one = one-same k i e in
            omega (arith, is, was, one, less)
        | inr n ↦
            let is = get_or-set_other s.held k i (get_or s.held k 0 - 1) 0 n in let was = sound.held i inside in
            let none = one-other k i n in omega (arith, is, was, none, less)
      ];
      limit = λ i inside. elim (cases_eq i k) [
        | inl e ↦
            let is = get_or-set_at s.held k i (get_or s.held k 0 - 1) 0 e (omega arith) in let was = sound.limit k below in
            let at : get_or l.limit i 0 ≡ get_or l.limit k 0 = ap (λ (j : ℕ). get_or l.limit j 0) e in omega (arith, is, was, at)
        | inr n ↦ let is = get_or-set_other s.held k i (get_or s.held k 0 - 1) 0 n in let was = sound.limit i inside in
            omega (arith, is, was)
      ];
      local_held = let less : count_at None o ≡ 0 + count_at None (without a o) = count-without None a o is_in in
          let was = sound.local_held in omega (arith, less, was);
      local_limit = sound.local_limit;
      entries = λ b i e is. sound.entries b i (has-without b a o e) is;
      until = sound.until;
      next = sound.next;
    }

sound-left_alone : {h : ℕ} (l : Limits h) (s : SlotState h) (o : List Holding) (k until : ℕ) → Sound l s o → is_local l k ≡ false
    → Sound l (left_alone s k until) o
sound-left_alone l s o k until sound remote = record {
  wide_held = sound.wide_held;
  wide_until = length-set s.until k (max (get_or s.until k 0) until) ∙ sound.wide_until;
  held = sound.held;
  limit = sound.limit;
  local_held = sound.local_held;
  local_limit = sound.local_limit;
  entries = sound.entries;
  until = λ i inside local. let apart : i ≢ k = λ e. true≢false (sym local ∙ ap (is_local l) e ∙ remote) in
      get_or-set_other s.until k i (max (get_or s.until k 0) until) 0 apart ∙ sound.until i inside local;
  next = sound.next;
}

sound-local : {h : ℕ} (l : Limits h) (s : SlotState h) (o : List Holding) (caller job : ℕ) → Sound l s o
    → s.local_held < l.local_slots → Sound l (record s { local_held = s.local_held + 1 }) (holding caller job None ∷ o)
sound-local l s o caller job sound room = record {
  wide_held = sound.wide_held;
  wide_until = sound.wide_until;
  held = λ i inside. let more : count_at (Some i) (holding caller job None ∷ o) ≡ 0 + count_at (Some i) o =
      count_at-cons (Some i) (holding caller job None) o in let was = sound.held i inside in omega (arith, more, was);
  limit = sound.limit;
  local_held = let more : count_at None (holding caller job None ∷ o) ≡ 1 + count_at None o =
      count_at-cons None (holding caller job None) o in let was = sound.local_held in omega (arith, more, was);
  local_limit = omega arith;
  entries = λ a i. here a i (holding_eq a (holding caller job None)) refl;
  until = sound.until;
  next = sound.next;
}
  where
    here : (a : Holding) (i : ℕ) (b : Bool) → holding_eq a (holding caller job None) ≡ b → (b || has a o) ≡ true → a.host ≡ Some i
        → i < l.count
    here a i true e h is = let at : None ≡ Some i = sym (same-host a (holding caller job None) e) ∙ is in cc
    here a i false e h is = sound.entries a i h is

sound-local_back : {h : ℕ} (l : Limits h) (s : SlotState h) (o : List Holding) (caller job : ℕ) → Sound l s o
    → has (holding caller job None) o ≡ true → Sound l (record s { local_held = s.local_held - 1 }) (without (holding caller job None) o)
sound-local_back l s o caller job sound is_in =
    let a = holding caller job None in
    record {
      wide_held = sound.wide_held;
      wide_until = sound.wide_until;
      held = λ i inside. let less : count_at (Some i) o ≡ 0 + count_at (Some i) (without a o) = count-without (Some i) a o is_in in
          let was = sound.held i inside in omega (arith, less, was);
      limit = sound.limit;
      local_held = let less : count_at None o ≡ 1 + count_at None (without a o) = count-without None a o is_in in
          let was = sound.local_held in omega (arith, less, was);
      local_limit = let was = sound.local_limit in omega (arith, was);
      entries = λ b i e is. sound.entries b i (has-without b a o e) is;
      until = sound.until;
      next = sound.next;
    }

sound-take : {h : ℕ} (l : Limits h) (s : SlotState h) (o : List Holding) (caller job : ℕ) (mask : Mask) (now : ℕ) (entry : Option ℕ)
    (down : Bool) → l.count ≤ h → Sound l s o → IsFound l s entry
    → Sound l (take_free s entry down).0 (changed caller o (change (Take job mask now) (take_free s entry down).1))
sound-take l s o caller job mask now (Some k) down fit sound free = sound-taken l s o caller job k fit sound free
sound-take l s o caller job mask now None true fit sound free = sound
sound-take l s o caller job mask now None false fit sound free = sound

pub not-true : (b : Bool) → not b ≡ true → b ≡ false
not-true true e = sym e
not-true false e = refl

sound-call : {h : ℕ} (l : Limits h) (s : SlotState h) (o : List Holding) (caller : ℕ) (call : SlotCall) → l.count ≤ h → Sound l s o
    → may_call l caller o call ≡ true
    → Sound l (slot_step l s call).0 (changed caller o (change call (slot_step l s call).1))
sound-call {h} l s o caller Draw fit sound may = go (nat_lt s.next l.jobs) refl
  where
    go : (b : Bool) → nat_lt s.next l.jobs ≡ b
        → Sound l (cond {A = SlotState h × SlotReply} b (drawn s, Drawn (Some s.next)) (s, Drawn None)).0
        (changed caller o (change Draw (cond {A = SlotState h × SlotReply} b (drawn s, Drawn (Some s.next)) (s, Drawn None)).1))
    go true is = let below : s.next < l.jobs = ltb-true s.next l.jobs is in record {
      wide_held = sound.wide_held;
      wide_until = sound.wide_until;
      held = sound.held;
      limit = sound.limit;
      local_held = sound.local_held;
      local_limit = sound.local_limit;
      entries = sound.entries;
      until = sound.until;
      next = omega arith;
    }
    go false is = sound
sound-call l s o caller (Take job mask now) fit sound may =
    sound-take l s o caller job mask now (find (is_free l s mask now) (search_order l job)) (is_down l s mask now) fit sound
    (found l s mask now job)
sound-call l s o caller (Give host job) fit sound may = sound-given l s o caller job host fit sound may
sound-call l s o caller (GiveBad host job until) fit sound may =
    let parts = and_parts (has (holding caller job (Some host)) o) (not (is_local l host)) may in
    sound-left_alone l (given s host) (without (holding caller job (Some host)) o) host until
    (sound-given l s o caller job host fit sound parts.0) (not-true (is_local l host) parts.1)
sound-call {h} l s o caller (TakeLocal job) fit sound may = go (nat_lt s.local_held l.local_slots) refl
  where
    go : (b : Bool) → nat_lt s.local_held l.local_slots ≡ b
        → Sound l (cond {A = SlotState h × SlotReply} b (record s { local_held = s.local_held + 1 }, Local true) (s, Local false)).0
        (changed caller o (change (TakeLocal job)
        (cond {A = SlotState h × SlotReply} b (record s { local_held = s.local_held + 1 }, Local true) (s, Local false)).1))
    go true is = sound-local l s o caller job sound (ltb-true s.local_held l.local_slots is)
    go false is = sound
sound-call l s o caller (GiveLocal job) fit sound may = sound-local_back l s o caller job sound may

sound-from : {h : ℕ} (l : Limits h) (s : SlotState h) (o : List Holding) (es : List CallEntry) → l.count ≤ h → Sound l s o
    → IsLegalFrom l s o es → Sound l (state_from l s es) (outstanding_from o es)
sound-from l s o [] fit sound legal = sound
sound-from {h} l s o (e ∷ es) fit sound legal =
    sound-from l (slot_step l s e.call).0 (outstanding_then o e) es fit
    (subst (λ (r : SlotReply). Sound l (slot_step l s e.call).0 (changed e.caller o (change e.call r))) (sym legal.0.reply)
    (sound-call l s o e.caller e.call fit sound legal.0.may))
    legal.1

none : (n : ℕ) → 0 ≤ n
none n = omega arith

sound-opening : {h : ℕ} (l : Limits h) → l.count ≤ h → Sound l (opening h) []
sound-opening {h} l fit = record {
  wide_held = length-replicate h 0;
  wide_until = length-replicate h 0;
  held = λ i inside. get_or-replicate h i 0 0 inside;
  limit = λ i inside. let inside' : i < h = omega arith in
      subst (λ (n : ℕ). n ≤ get_or l.limit i 0) (sym (get_or-replicate h i 0 0 inside')) (none (get_or l.limit i 0));
  local_held = refl;
  local_limit = none l.local_slots;
  entries = λ a i e is. cc;
  until = λ i inside local. get_or-replicate h i 0 0 (omega arith);
  next = none l.jobs;
}

pub sound : {h : ℕ} (l : Limits h) (es : List CallEntry) → l.count ≤ h → IsLegal l es → Sound l (state_after l es) (outstanding es)
sound {h} l es fit legal = sound-from l (opening h) [] es fit (sound-opening l fit) legal

pub state-agrees : StateAgrees
state-agrees h l es fit legal =
    let s = sound l es fit legal in record {
      held = λ i inside. s.held i (omega arith);
      limit = s.limit;
      local_held = s.local_held;
      local_limit = s.local_limit;
      entries = s.entries;
      until = s.until;
      next = s.next;
    }
