-- What all steps of the machine keep, and the laws of a run.
use Rattle.std.proofs.Common.{◌≡◌, inl, inr, ℕ, ◌+◌, true, false, ◌&&◌, cond, List, [], ◌∷◌, ◌++◌}
use Rattle.std.proofs.Common.{nat_eq, refl, sym, ap, ◌∙◌, subst, arith, append_assoc}
use Rattle.std.specs.List.{range_with_len}
use Rattle.std.proofs.lemmas.Bool.{cases_lt}
use Rattle.slot_table.specs.declared.limits.Limits.{Limits}
use Rattle.slot_table.specs.declared.state.SlotState.{SlotState}
use Rattle.slot_table.specs.Step.{slot_step}
use Rattle.slot_table.specs.History.{Holding, Change, change}
use Rattle.slot_table.specs.History.{changed, outstanding_then, outstanding_from, outstanding, state_from, IsLegalFrom}
use Rattle.slot_table.specs.Laws.{SlotsAgree}
use Rattle.slot_table.proofs.Keeps.{state-agrees}
use Rattle.slot_table.proofs.Draws.{draws-in-order}
use Rattle.farm_machine.specs.Acts.{Act, Did, Loan}
use Rattle.farm_machine.specs.Jobs.{Job}
use Rattle.farm_machine.specs.Course.{Course}
use Rattle.farm_machine.specs.Machine.{job_call_of, JobState, NotBegun, Begun}
use Rattle.farm_machine.specs.Machine.{Returned, FarmState, start, FarmStep, Calls, Does, Returns, with_act, after}
use Rattle.farm_machine.specs.Machine.{after_steps, calls_in, Farm, IsAllowedFrom}
use Rattle.farm_machine.specs.Farm.{farm_of, IsOf, is_loan, lent, Kept, KeptLaw, PrefixLaw, RunLaw}
use Rattle.course_laws.proofs.Courses.{nothing-out, loan-did}
use Rattle.farm_laws.proofs.Draws.{next_is}
use Rattle.farm_laws.proofs.Grants.{none-outstanding}
use Rattle.farm_laws.proofs.Kept.{effect, change-is, may-call, moved, lent-none, Called, called}

-- what all these steps keep
record AllKept {h : ℕ} (l : Limits h) (jobs : ℕ → Job) (o : List Holding) (w : FarmState h) (ss : List FarmStep) : Type 0 where
  legal : IsLegalFrom l w.slots o (calls_in ss)
  slots : (after_steps l w ss).slots ≡ state_from l w.slots (calls_in ss)
  kept : Kept (farm_of l jobs) l (outstanding_from o (calls_in ss)) (after_steps l w ss)

steps : {h : ℕ} (l : Limits h) (jobs : ℕ → Job) → IsOf l jobs → (ss : List FarmStep) (o : List Holding) (w : FarmState h)
    → Kept (farm_of l jobs) l o w → IsAllowedFrom (farm_of l jobs) l w ss → AllKept l jobs o w ss
steps l jobs of [] o w kept allowed = record { legal = tt; slots = refl; kept = kept }
steps {h} l jobs of (Calls e ∷ ss) o w kept (may, allowed) =
    let s : SlotState h = (slot_step l w.slots e.call).0 in
    let c : Called l jobs o w s e.caller (job_call_of e) =
    called l jobs of o w s e.caller (job_call_of e) kept (next_is l w.slots e.call e.reply may.0) may.1 in
    let is : change e.call e.reply ≡ effect (job_call_of e) = change-is e.call e.reply c.matched in
    let k : Kept (farm_of l jobs) l (outstanding_then o e) (after l w (Calls e)) =
    subst (λ (z : Change). Kept (farm_of l jobs) l (changed e.caller o z) (after l w (Calls e))) (sym is) c.kept in
    let more : AllKept l jobs (outstanding_then o e) (after l w (Calls e)) ss =
    steps l jobs of ss (outstanding_then o e) (after l w (Calls e)) k allowed in
    record {
      legal = (record { reply = may.0; may = may-call l e.caller o e.call e.reply c.matched c.is_out c.remote }, more.legal);
      slots = more.slots;
      kept = more.kept;
    }
steps l jobs of (Does j d ∷ ss) o w kept (may, allowed) =
    let v = may.0 in
    let acts = may.1 in
    let begun : w.jobs j ≡ Begun v acts = may.2 in
    let is : with_act (w.jobs j) (Did d) ≡ Begun v (acts ++ Did d ∷ []) = ap (λ (st : JobState). with_act st (Did d)) begun in
    let k : Kept (farm_of l jobs) l o (after l w (Does j d)) =
    moved (farm_of l jobs) l o o w w.slots j v acts (with_act (w.jobs j) (Did d)) kept refl begun
    (λ waiting. let k : Begun v (acts ++ Did d ∷ []) ≡ NotBegun = sym is ∙ waiting in cc)
    (λ u a begins. let k : Begun v (acts ++ Did d ∷ []) ≡ Begun u a = sym is ∙ begins in let by : u ≡ v = cc in
    let same : acts ++ Did d ∷ [] ≡ a = cc in (
      by,
      (
        may.3.0,
        may.3.1,
        subst (λ (z : List Act). Course (jobs j) (z ++ may.3.0) may.3.1) same
            (subst (λ (z : List Act). Course (jobs j) z may.3.1) (sym (append_assoc acts (Did d ∷ []) may.3.0)) may.3.2),
      ),
    ))
    (λ y at. kept.lent y ∙ ap (λ (st : JobState). lent st y) (ap w.jobs at ∙ begun)
    ∙ ap (λ (loan : Loan). cond (nat_eq y.caller v && is_loan loan y.host) 1 0) (sym (loan-did acts d))
    ∙ ap (λ (st : JobState). lent st y) (sym is))
    (λ y apart. refl) in
    let more : AllKept l jobs o (after l w (Does j d)) ss = steps l jobs of ss o (after l w (Does j d)) k allowed in
    record { legal = more.legal; slots = more.slots; kept = more.kept }
steps l jobs of (Returns j end ∷ ss) o w kept (may, allowed) =
    let v = may.0 in
    let acts = may.1 in
    let begun : w.jobs j ≡ Begun v acts = may.2 in
    let k : Kept (farm_of l jobs) l o (after l w (Returns j end)) =
    moved (farm_of l jobs) l o o w w.slots j v acts (Returned end) kept refl begun (λ waiting. cc) (λ u a begins. cc)
    (λ y at. kept.lent y ∙ ap (λ (st : JobState). lent st y) (ap w.jobs at ∙ begun)
    ∙ lent-none v acts y (nothing-out (jobs j) acts end may.3))
    (λ y apart. refl) in
    let more : AllKept l jobs o (after l w (Returns j end)) ss = steps l jobs of ss o (after l w (Returns j end)) k allowed in
    record { legal = more.legal; slots = more.slots; kept = more.kept }

kept-start : {h : ℕ} (l : Limits h) (jobs : ℕ → Job) → Kept (farm_of l jobs) l [] (start h)
kept-start l jobs = record {
  ahead = λ j above. refl;
  drawn = λ j below. absurd (omega arith);
  below = omega arith;
  one = λ v j k a b is is'. cc;
  course = λ j v acts is. cc;
  lent = λ x. refl;
}

pub kept-law : KeptLaw
kept-law h l jobs ss of allowed =
    let all : AllKept l jobs [] (start h) ss = steps l jobs of ss [] (start h) (kept-start l jobs) allowed in
    let calls = calls_in ss in record {
      legal = all.legal;
      slots = all.slots;
      order = draws-in-order h l calls all.legal ∙ ap (λ (s : SlotState h). range_with_len 0 s.next) (sym all.slots);
      agree = λ fit. subst (λ (s : SlotState h). SlotsAgree l s (outstanding calls)) (sym all.slots) (state-agrees h l calls fit all.legal);
      kept = all.kept;
    }

front-allowed : {h : ℕ} (f : Farm) (l : Limits h) (s : FarmState h) (front rest : List FarmStep)
    → IsAllowedFrom f l s (front ++ rest) → IsAllowedFrom f l s front
front-allowed f l s [] rest allowed = tt
front-allowed f l s (step ∷ front) rest allowed = (allowed.0, front-allowed f l (after l s step) front rest allowed.1)

pub prefix-law : PrefixLaw
prefix-law h l jobs front rest of allowed = let a = front-allowed (farm_of l jobs) l (start h) front rest allowed in
    (a, kept-law h l jobs front of a)

pub run-law : RunLaw
run-law h l jobs ss of run =
    let kept = (kept-law h l jobs ss of run.allowed).kept in
    none-outstanding (outstanding (calls_in ss)) (λ x. kept.lent x ∙ elim (cases_lt x.job l.jobs) [
      | inl below ↦ ap (λ (st : JobState). lent st x) (run.returned x.job below).1
      | inr above ↦ let top = kept.below in ap (λ (st : JobState). lent st x) (kept.ahead x.job (omega arith))
    ])
