-- A call that may be made can step.
use Rattle.std.proofs.Common.{◌≡◌, ℕ, ◌<◌, ◌≤◌, true, not, List, [], ◌∷◌, ◌++◌, Some, None, refl, sym, subst, arith}
use Rattle.std.proofs.lemmas.Bool.{and_parts}
use Rattle.slot_table.specs.declared.limits.Limits.{Limits}
use Rattle.slot_table.specs.declared.calls.SlotCall.{SlotCall}
use Rattle.slot_table.specs.declared.calls.SlotCall.TheVariants.{Draw, Take, Give, GiveBad, TakeLocal, GiveLocal}
use Rattle.slot_table.specs.declared.calls.CallEntry.{CallEntry}
use Rattle.slot_table.specs.Limits.{is_local}
use Rattle.slot_table.specs.Step.{opening, slot_step, IsHeld, CanStep}
use Rattle.slot_table.specs.History.{entry, holding, has, outstanding, state_after, may_call, IsLegal}
use Rattle.slot_table.specs.Laws.{PermittedSteps}
use Rattle.slot_table.proofs.Holdings.{counted}
use Rattle.slot_table.proofs.Histories.{legal-more}
use Rattle.slot_table.proofs.Keeps.{sound, not-true}

-- what is outstanding is held
pub is-held : {h : ℕ} (l : Limits h) (es : List CallEntry) (caller job host : ℕ) → l.count ≤ h → IsLegal l es
    → has (holding caller job (Some host)) (outstanding es) ≡ true → IsHeld l (state_after l es) host
is-held {h} l es caller job host fit legal is_in =
    let s = sound l es fit legal in
    let below : host < l.count = s.entries (holding caller job (Some host)) host is_in refl in
    let inside : host < h = omega arith in record {
      entry = below;
      held = subst (λ (n : ℕ). 0 < n) (sym (s.held host inside)) (counted (holding caller job (Some host)) (outstanding es) is_in);
    }

pub can-step : {h : ℕ} (l : Limits h) (es : List CallEntry) (caller : ℕ) (call : SlotCall) → l.count ≤ h → IsLegal l es
    → may_call l caller (outstanding es) call ≡ true → CanStep l (state_after l es) call
can-step l es caller Draw fit legal may = tt
can-step l es caller (Take job mask now) fit legal may = tt
can-step l es caller (Give host job) fit legal may = is-held l es caller job host fit legal may
can-step l es caller (GiveBad host job until) fit legal may =
    let parts = and_parts (has (holding caller job (Some host)) (outstanding es)) (not (is_local l host)) may in
    (is-held l es caller job host fit legal parts.0, not-true (is_local l host) parts.1)
can-step l es caller (TakeLocal job) fit legal may = tt
can-step l es caller (GiveLocal job) fit legal may = let s = sound l es fit legal in
    subst (λ (n : ℕ). 0 < n) (sym s.local_held) (counted (holding caller job None) (outstanding es) may)

-- and the history with it is legal
pub legal-call : {h : ℕ} (l : Limits h) (es : List CallEntry) (caller : ℕ) (call : SlotCall) → IsLegal l es
    → may_call l caller (outstanding es) call ≡ true → IsLegal l (es ++ entry caller call (slot_step l (state_after l es) call).1 ∷ [])
legal-call {h} l es caller call legal may =
    legal-more l (opening h) [] es (entry caller call (slot_step l (state_after l es) call).1) legal record { reply = refl; may = may }

pub permitted-steps : PermittedSteps
permitted-steps h l es caller call fit legal may =
    record { can = can-step l es caller call fit legal may; legal = legal-call l es caller call legal may }
