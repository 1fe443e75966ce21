-- What the slots of one thread keep at each call.
use Rattle.std.proofs.Common.{◌≡◌, ℕ, Bool, true, false, ◌&&◌, not, Some, List, [], ◌∷◌, ◌++◌, sym, ap, ◌∙◌, subst}
use Rattle.slot_table.specs.declared.limits.Limits.{Limits}
use Rattle.slot_table.specs.declared.state.SlotState.{SlotState}
use Rattle.slot_table.specs.declared.calls.SlotCall.{SlotCall}
use Rattle.slot_table.specs.declared.calls.SlotReply.{SlotReply}
use Rattle.slot_table.specs.declared.calls.CallEntry.{CallEntry}
use Rattle.slot_table.specs.Limits.{AreValid}
use Rattle.slot_table.specs.Step.{opening, slot_step, CanStep}
use Rattle.slot_table.specs.Limits.{is_local}
use Rattle.slot_table.specs.declared.calls.SlotCall.TheVariants.{GiveBad}
use Rattle.slot_table.specs.History.{entry, holding, has, outstanding, state_after, may_call}
use Rattle.slot_table.specs.Laws.{NothingIsFull}
use Rattle.slot_table.specs.Log.{Log, IsKept}
use Rattle.slot_table.proofs.Callers.{calls_by-append}
use Rattle.slot_table.proofs.Histories.{state_from-append, legal-more}
use Rattle.slot_table.proofs.Permits.{can-step}
use Rattle.slot_table.proofs.Frees.{free-where-all-is-back}

-- one more call
pub kept-more : {h : ℕ} (l l' : Limits h) (es es' : List CallEntry) (s s' : SlotState h) (call : SlotCall) (reply : SlotReply)
    → IsKept l es s → may_call l 0 (outstanding es) call ≡ true → l' ≡ l → slot_step l s call ≡ (s', reply)
    → es' ≡ es ++ entry 0 call reply ∷ [] → IsKept l' es' s'
kept-more {h} l l' es es' s s' call reply kept may same step more =
    let at : slot_step l (state_after l es) call ≡ (s', reply) = ap (λ (x : SlotState h). slot_step l x call) (sym kept.state) ∙ step in
    subst (λ (k : Limits h). IsKept k es' s') (sym same)
    (subst (λ (xs : List CallEntry). IsKept l xs s') (sym more) record {
      legal = legal-more l (opening h) [] es (entry 0 call reply) kept.legal record
          { reply = sym (ap (λ (p : SlotState h × SlotReply). p.1) at); may = may };
      state = sym (state_from-append l (opening h) es (entry 0 call reply ∷ []) ∙ ap (λ (p : SlotState h × SlotReply). p.0) at);
      own = calls_by-append 0 es (entry 0 call reply ∷ []) ∙ ap (λ (xs : List CallEntry). xs ++ entry 0 call reply ∷ []) kept.own;
    })

-- what is given back can be
pub kept-can : {h : ℕ} (l : Limits h) (es : List CallEntry) (s : SlotState h) (call : SlotCall) → AreValid l → IsKept l es s
    → may_call l 0 (outstanding es) call ≡ true → CanStep l s call
kept-can {h} l es s call limits kept may =
    subst (λ (x : SlotState h). CanStep l x call) (sym kept.state) (can-step l es 0 call limits.entries kept.legal may)

-- where all is back, nothing is full
pub kept-free : {h : ℕ} (l : Limits h) (es : List CallEntry) (s : SlotState h) → AreValid l → IsKept l es s → outstanding es ≡ []
    → NothingIsFull l s
kept-free {h} l es s limits kept none =
    subst (λ (x : SlotState h). NothingIsFull l x) (sym kept.state) (free-where-all-is-back h l es limits kept.legal none)

-- what is known of the calls that contracts see is known of those that are stored
pub stored : {h : ℕ} (l : Limits h) (caller : ℕ) (call : SlotCall) (kept seen : Log h) → kept ≡ seen
    → may_call l caller (outstanding seen.mine) call ≡ true → may_call l caller (outstanding kept.mine) call ≡ true
stored {h} l caller call kept seen is may = subst (λ (v : Log h). may_call l caller (outstanding v.mine) call ≡ true) (sym is) may

-- the same of a call that leaves an entry alone: the grant is outstanding, and the entry isn't local
pub stored-bad : {h : ℕ} (host job until : ℕ) (kept seen : Log h) → kept ≡ seen
    → has (holding 0 job (Some host)) (outstanding seen.mine) ≡ true → is_local seen.limits host ≡ false
    → may_call kept.limits 0 (outstanding kept.mine) (GiveBad host job until) ≡ true
stored-bad {h} host job until kept seen is is_in remote =
    let P : Log h → Type 0 = λ v. may_call v.limits 0 (outstanding v.mine) (GiveBad host job until) ≡ true in
    subst P (sym is) (ap (λ (b : Bool). b && not (is_local seen.limits host)) is_in ∙ ap not remote)
