-- The jobs that a legal history draws.
use Rattle.std.proofs.Common.{◌≡◌, ◌⊎◌, inl, inr, ℕ, suc, ◌+◌, Bool, true, false, cond, List, [], ◌∷◌, Option, Some, None, nat_lt, refl}
use Rattle.std.proofs.Common.{sym, ap, ◌∙◌, arith}
use Rattle.std.specs.Prelude.{find}
use Rattle.std.specs.List.{range_with_len, cons_option}
use Rattle.slot_table.specs.declared.limits.Limits.{Limits}
use Rattle.slot_table.specs.declared.state.SlotState.{SlotState}
use Rattle.slot_table.specs.declared.calls.SlotCall.{SlotCall}
use Rattle.slot_table.specs.declared.calls.SlotCall.TheVariants.{Draw, Take, Give, GiveBad, TakeLocal, GiveLocal}
use Rattle.slot_table.specs.declared.calls.SlotReply.{SlotReply}
use Rattle.slot_table.specs.declared.calls.SlotReply.TheVariants.{Drawn, Local}
use Rattle.slot_table.specs.declared.calls.CallEntry.{CallEntry}
use Rattle.slot_table.specs.Step.{opening, search_order, is_free, is_down, slot_step, take_free, drawn}
use Rattle.slot_table.specs.History.{Holding, outstanding_then, state_from, state_after, IsLegalFrom, job_drawn, jobs_drawn}
use Rattle.slot_table.specs.Laws.{DrawsInOrder}

-- a call draws nothing, or the next job
abbrev DrawsOne : {h : ℕ} → SlotState h → SlotCall → SlotState h × SlotReply → Type 0
DrawsOne s call after = ((job_drawn call after.1 ≡ None) × (after.0.next ≡ s.next))
    ⊎ ((job_drawn call after.1 ≡ Some s.next) × (after.0.next ≡ s.next + 1))

draws-one : {h : ℕ} (l : Limits h) (s : SlotState h) (call : SlotCall) → DrawsOne s call (slot_step l s call)
draws-one {h} l s Draw = go (nat_lt s.next l.jobs)
  where
    go : (b : Bool) → DrawsOne s Draw (cond {A = SlotState h × SlotReply} b (drawn s, Drawn (Some s.next)) (s, Drawn None))
    go true = inr (refl, refl)
    go false = inl (refl, refl)
draws-one {h} l s (Take job mask now) = go (find (is_free l s mask now) (search_order l job)) (is_down l s mask now)
  where
    go : (o : Option ℕ) (down : Bool) → DrawsOne s (Take job mask now) (take_free s o down)
    go (Some k) down = inl (refl, refl)
    go None true = inl (refl, refl)
    go None false = inl (refl, refl)
draws-one l s (Give host job) = inl (refl, refl)
draws-one l s (GiveBad host job until) = inl (refl, refl)
draws-one {h} l s (TakeLocal job) = go (nat_lt s.local_held l.local_slots)
  where
    go : (b : Bool) → DrawsOne s (TakeLocal job)
        (cond {A = SlotState h × SlotReply} b (record s { local_held = s.local_held + 1 }, Local true) (s, Local false))
    go true = inl (refl, refl)
    go false = inl (refl, refl)
draws-one l s (GiveLocal job) = inl (refl, refl)

draws-from : {h : ℕ} (l : Limits h) (s : SlotState h) (o : List Holding) (es : List CallEntry) → IsLegalFrom l s o es
    → (n : ℕ) × ((state_from l s es).next ≡ s.next + n) × (jobs_drawn es ≡ range_with_len s.next n)
draws-from l s o [] legal = (0, omega arith, refl)
draws-from {h} l s o (e ∷ es) legal =
    let after : SlotState h = (slot_step l s e.call).0 in
    let more = draws-from l after (outstanding_then o e) es legal.1 in
    let is : job_drawn e.call e.reply ≡ job_drawn e.call (slot_step l s e.call).1 = ap (job_drawn e.call) legal.0.reply in
    let m = more.0 in
    let end : (state_from l after es).next ≡ after.next + m = more.1 in
    elim (draws-one l s e.call) [
      | inl none ↦ let same : after.next ≡ s.next = none.1 in (
        m,
        omega arith,
        ap (λ (d : Option ℕ). cons_option d (jobs_drawn es)) (is ∙ none.0) ∙ more.2
            ∙ ap (λ (k : ℕ). range_with_len k m) same,
      )
      | inr one ↦ let up : after.next ≡ s.next + 1 = one.1 in (
        suc m,
        omega arith,
        ap (λ (d : Option ℕ). cons_option d (jobs_drawn es)) (is ∙ one.0)
            ∙ ap (λ (ks : List ℕ). s.next ∷ ks) (more.2 ∙ ap (λ (k : ℕ). range_with_len k m) up),
      )
    ]

pub draws-in-order : DrawsInOrder
draws-in-order h l es legal =
    let ds = draws-from l (opening h) [] es legal in
    let n = ds.0 in
    let at : (state_after l es).next ≡ n = let e : (state_after l es).next ≡ 0 + n = ds.1 in omega arith in
    ds.2 ∙ ap (range_with_len 0) (sym at)
