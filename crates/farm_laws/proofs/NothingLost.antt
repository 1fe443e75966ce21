-- The weave has all calls, all that each job does, and its return.
use Rattle.std.proofs.Common.{◌≡◌, ◌≢◌, inl, inr, ℕ, ◌+◌, ◌<◌, ◌≤◌, Bool, true, false, cond, List, [], ◌∷◌, ◌++◌, Option, Some, None}
use Rattle.std.proofs.Common.{nat_eq, nat_lt, refl, sym, ap, ◌∙◌, arith, eq-eqb, ne_eqb}
use Rattle.std.proofs.lemmas.Bool.{lt-ltb, cases_eq}
use Rattle.std.proofs.lemmas.Bool.Decides.{nat_tests}
use Rattle.slot_table.specs.declared.limits.Limits.{Limits}
use Rattle.slot_table.specs.declared.state.SlotState.{SlotState}
use Rattle.slot_table.specs.declared.calls.CallEntry.{CallEntry}
use Rattle.slot_table.specs.Step.{opening, slot_step}
use Rattle.slot_table.specs.History.{Holding, outstanding_then, IsLegalFrom, state_from, state_after}
use Rattle.farm_machine.specs.declared.reports.End.{End}
use Rattle.farm_machine.specs.Acts.{SlotEvent, Act, Did, Met, next_met, after_met}
use Rattle.farm_machine.specs.Machine.{Wants, JobCall, Draws, Adds, Waits, Mismatched, job_call_of, set_at, FarmStep, calls_in, acts_in}
use Rattle.farm_machine.specs.Machine.{ends_in, met_by}
use Rattle.farm_machine.specs.Weave.{Reports, Progress, no_progress, progress_after, next_progress, last_progress, Follows, AllFollow}
use Rattle.farm_machine.specs.Weave.{IsUsedUp, steps_until_met, steps_behind, weave_from, NothingLostLaw}
use Rattle.farm_laws.proofs.SetAt.{set_at-elim, set_at-same, set_at-other}
use Rattle.farm_laws.proofs.Draws.{NextIs, next_is, next-all}

-- the acts without the deeds in front of the first slot event
abbrev from_met : List Act → List Act
from_met [] = []
from_met (Did d ∷ acts) = from_met acts
from_met (Met x ∷ acts) = Met x ∷ acts

none-left : (acts : List Act) → next_met acts ≡ None → from_met acts ≡ []
none-left [] e = refl
none-left (Did d ∷ acts) e = none-left acts e
none-left (Met x ∷ acts) e = cc

met-front : (acts : List Act) (x : SlotEvent) → next_met acts ≡ Some x → Met x ∷ after_met acts ≡ from_met acts
met-front [] x e = cc
met-front (Did d ∷ acts) x e = met-front acts x e
met-front (Met y ∷ acts) x e = let same : y ≡ x = cc in ap (λ (z : SlotEvent). Met z ∷ acts) (sym same)

-- what is still to be woven of a job: before its draw all that is left, and after it what no earlier call was followed by
abbrev left : Bool → List Act → List Act
left drawn acts = cond drawn (from_met acts) acts

until-own : (j i : ℕ) (end : End) (acts : List Act) (more : List FarmStep) → nat_eq i j ≡ true → acts_in j more ≡ from_met acts
    → acts_in j (steps_until_met i end acts ++ more) ≡ acts
until-own j i end [] more e h = h
until-own j i end (Did d ∷ acts) more e h =
    ap (λ (b : Bool). cond {A = List Act} b (Did d ∷ []) [] ++ acts_in j (steps_until_met i end acts ++ more)) e
    ∙ ap (λ (l : List Act). Did d ∷ l) (until-own j i end acts more e h)
until-own j i end (Met x ∷ acts) more e h = h

until-other : (j i : ℕ) (end : End) (acts : List Act) (more : List FarmStep) → nat_eq i j ≡ false
    → acts_in j (steps_until_met i end acts ++ more) ≡ acts_in j more
until-other j i end [] more e = refl
until-other j i end (Did d ∷ acts) more e =
    ap (λ (b : Bool). cond {A = List Act} b (Did d ∷ []) [] ++ acts_in j (steps_until_met i end acts ++ more)) e
    ∙ until-other j i end acts more e
until-other j i end (Met x ∷ acts) more e = refl

not-below : (j n : ℕ) → n ≤ j → nat_lt j n ≡ false
not-below j n above = grind (arith, nat_tests)

below-next : (j n : ℕ) → j ≢ n → nat_lt j (n + 1) ≡ nat_lt j n
below-next j n apart = grind (arith, nat_tests)

-- the jobs of workers were drawn
abbrev Known : ℕ → Progress → Type 0
Known n p = (v j : ℕ) → p.current v ≡ Some j → j < n

known-after : {h : ℕ} (l : Limits h) (p : Progress) (v n m : ℕ) (a : JobCall) → NextIs l a n m → Known n p → Known m (progress_after p v a)
known-after l p v n m (Draws None) next known =
    λ w j. set_at-elim (λ o. o ≡ Some j → j < m) p.current v None w (λ at is. cc) (λ other is. let below : j < n = known w j is in
    omega (arith, below, next))
known-after l p v n m (Draws (Some i)) next known = λ w j. set_at-elim (λ o. o ≡ Some j → j < m) p.current v (Some i) w
    (λ at is. let e : i ≡ j = cc in let first : i ≡ n = next.0 in let up : m ≡ n + 1 = next.2 in omega (arith, e, first, up))
    (λ other is. let below : j < n = known w j is in let up : m ≡ n + 1 = next.2 in omega (arith, below, up))
known-after l p v n m (Adds i mask x) next known = λ w j is. let below : j < n = known w j is in omega (arith, below, next)
known-after l p v n m (Waits i mask kind) next known = λ w j is. let below : j < n = known w j is in omega (arith, below, next)
known-after l p v n m Mismatched next known = λ w j is. let below : j < n = known w j is in omega (arith, below, next)

step : {h : ℕ} (l : Limits h) (r : Reports) (wants : Wants) (j : ℕ) (p : Progress) (v n m : ℕ) (a : JobCall) (more : List FarmStep)
    → NextIs l a n m → Known n p → Follows r wants p v a
    → acts_in j more ≡ left (nat_lt j m) ((progress_after p v a).rest j)
    → met_by j a ++ acts_in j (steps_behind r (progress_after p v a) a ++ more) ≡ left (nat_lt j n) (p.rest j)
step l r wants j p v n m (Draws None) more next known follows ih = ih ∙ ap (λ (k : ℕ). left (nat_lt j k) (p.rest j)) next
step l r wants j p v n m (Draws (Some i)) more next known follows ih =
    let at : i ≡ n = next.0 in
    let up : m ≡ n + 1 = next.2 in
    elim (cases_eq i j) [
      | inl e ↦
          let now : nat_lt j m ≡ true = lt-ltb j m (omega (arith, e, at, up)) in
          let before : nat_lt j n ≡ false = not-below j n (omega (arith, e, at)) in
          until-own j i (r.ends i) (p.rest i) more (eq-eqb i j e) (ih ∙ ap (λ (b : Bool). left b (p.rest j)) now
          ∙ ap (λ (k : ℕ). from_met (p.rest k)) (sym e)) ∙ ap p.rest e ∙ sym (ap (λ (b : Bool). left b (p.rest j)) before)
      | inr apart ↦
          let same : nat_lt j (n + 1) ≡ nat_lt j n = below-next j n (λ e. apart (at ∙ sym e)) in
          until-other j i (r.ends i) (p.rest i) more (ne_eqb i j apart) ∙ ih ∙ ap (λ (k : ℕ). left (nat_lt j k) (p.rest j)) up
          ∙ ap (λ (b : Bool). left b (p.rest j)) same
    ]
step l r wants j p v n m (Adds i mask x) more next known follows ih =
    let rest : ℕ → List Act = set_at p.rest i (after_met (p.rest i)) in
    elim (cases_eq i j) [
      | inl e ↦
          let under : i < n = known v i follows.0 in
          let now : nat_lt j m ≡ true = lt-ltb j m (omega (arith, e, under, next)) in
          let before : nat_lt j n ≡ true = lt-ltb j n (omega (arith, e, under)) in
          let own : acts_in j (steps_until_met i (r.ends i) (rest i) ++ more) ≡ rest i =
          until-own j i (r.ends i) (rest i) more (eq-eqb i j e) (ih ∙ ap (λ (b : Bool). left b (rest j)) now
          ∙ ap (λ (k : ℕ). from_met (rest k)) (sym e)) in
          ap (λ (b : Bool). cond {A = List Act} b (Met x ∷ []) [] ++ acts_in j (steps_until_met i (r.ends i) (rest i) ++ more))
          (eq-eqb i j e)
          ∙ ap (λ (z : List Act). Met x ∷ z) (own ∙ set_at-same p.rest i (after_met (p.rest i)))
          ∙ met-front (p.rest i) x follows.2 ∙ ap (λ (k : ℕ). from_met (p.rest k)) e ∙ sym (ap (λ (b : Bool). left b (p.rest j)) before)
      | inr apart ↦
          ap (λ (b : Bool). cond {A = List Act} b (Met x ∷ []) [] ++ acts_in j (steps_until_met i (r.ends i) (rest i) ++ more))
          (ne_eqb i j apart)
          ∙ until-other j i (r.ends i) (rest i) more (ne_eqb i j apart) ∙ ih
          ∙ ap (left (nat_lt j m)) (set_at-other p.rest i (after_met (p.rest i)) j (λ e. apart (sym e)))
          ∙ ap (λ (k : ℕ). left (nat_lt j k) (p.rest j)) next
    ]
step l r wants j p v n m (Waits i mask kind) more next known follows ih = ih ∙ ap (λ (k : ℕ). left (nat_lt j k) (p.rest j)) next
step l r wants j p v n m Mismatched more next known follows ih = absurd follows

acts-from : {h : ℕ} (l : Limits h) (r : Reports) (wants : Wants) (j : ℕ) (es : List CallEntry) (p : Progress) (s : SlotState h)
    (o : List Holding) → IsLegalFrom l s o es → Known s.next p → AllFollow r wants p es
    → j < (state_from l s es).next → IsUsedUp (last_progress p es) j → acts_in j (weave_from r p es) ≡ left (nat_lt j s.next) (p.rest j)
acts-from l r wants j [] p s o legal known follow drawn used =
    sym (ap (λ (b : Bool). left b (p.rest j)) (lt-ltb j s.next drawn) ∙ none-left (p.rest j) used)
acts-from {h} l r wants j (e ∷ es) p s o legal known follow drawn used =
    let t : SlotState h = (slot_step l s e.call).0 in
    let next = next_is l s e.call e.reply legal.0.reply in
    step l r wants j p e.caller s.next t.next (job_call_of e) (weave_from r (next_progress p e) es) next known follow.0
    (acts-from l r wants j es (next_progress p e) t (outstanding_then o e) legal.1
    (known-after l p e.caller s.next t.next (job_call_of e) next known) follow.1 drawn used)

-- the ends that are still to be woven of a job: none where it was drawn and has no slot event left, and else its report's
abbrev due : Bool → Option SlotEvent → End → List End
due true None end = []
due true (Some x) end = end ∷ []
due false next end = end ∷ []

ends-own : (j i : ℕ) (end : End) (acts : List Act) (more : List FarmStep) → nat_eq i j ≡ true
    → ends_in j more ≡ due true (next_met acts) end → ends_in j (steps_until_met i end acts ++ more) ≡ end ∷ []
ends-own j i end [] more e h = ap (λ (b : Bool). cond {A = List End} b (end ∷ []) [] ++ ends_in j more) e ∙ ap (λ (l : List End). end ∷ l) h
ends-own j i end (Did d ∷ acts) more e h = ends-own j i end acts more e h
ends-own j i end (Met x ∷ acts) more e h = h

ends-other : (j i : ℕ) (end : End) (acts : List Act) (more : List FarmStep) → nat_eq i j ≡ false
    → ends_in j (steps_until_met i end acts ++ more) ≡ ends_in j more
ends-other j i end [] more e = ap (λ (b : Bool). cond {A = List End} b (end ∷ []) [] ++ ends_in j more) e
ends-other j i end (Did d ∷ acts) more e = ends-other j i end acts more e
ends-other j i end (Met x ∷ acts) more e = refl

step-ends : {h : ℕ} (l : Limits h) (r : Reports) (wants : Wants) (j : ℕ) (p : Progress) (v n m : ℕ) (a : JobCall)
    (more : List FarmStep) → NextIs l a n m → Known n p → Follows r wants p v a
    → ends_in j more ≡ due (nat_lt j m) (next_met ((progress_after p v a).rest j)) (r.ends j)
    → ends_in j (steps_behind r (progress_after p v a) a ++ more) ≡ due (nat_lt j n) (next_met (p.rest j)) (r.ends j)
step-ends l r wants j p v n m (Draws None) more next known follows ih =
    ih ∙ ap (λ (k : ℕ). due (nat_lt j k) (next_met (p.rest j)) (r.ends j)) next
step-ends l r wants j p v n m (Draws (Some i)) more next known follows ih =
    let at : i ≡ n = next.0 in
    let up : m ≡ n + 1 = next.2 in
    elim (cases_eq i j) [
      | inl e ↦
          let now : nat_lt j m ≡ true = lt-ltb j m (omega (arith, e, at, up)) in
          let before : nat_lt j n ≡ false = not-below j n (omega (arith, e, at)) in
          ends-own j i (r.ends i) (p.rest i) more (eq-eqb i j e) (ih ∙ ap (λ (b : Bool). due b (next_met (p.rest j)) (r.ends j)) now
          ∙ ap (λ (k : ℕ). due true (next_met (p.rest k)) (r.ends k)) (sym e))
          ∙ ap (λ (k : ℕ). r.ends k ∷ []) e ∙ sym (ap (λ (b : Bool). due b (next_met (p.rest j)) (r.ends j)) before)
      | inr apart ↦
          let same : nat_lt j (n + 1) ≡ nat_lt j n = below-next j n (λ e. apart (at ∙ sym e)) in
          ends-other j i (r.ends i) (p.rest i) more (ne_eqb i j apart) ∙ ih
          ∙ ap (λ (k : ℕ). due (nat_lt j k) (next_met (p.rest j)) (r.ends j)) up
          ∙ ap (λ (b : Bool). due b (next_met (p.rest j)) (r.ends j)) same
    ]
step-ends l r wants j p v n m (Adds i mask x) more next known follows ih =
    let rest : ℕ → List Act = set_at p.rest i (after_met (p.rest i)) in
    elim (cases_eq i j) [
      | inl e ↦
          let under : i < n = known v i follows.0 in
          let now : nat_lt j m ≡ true = lt-ltb j m (omega (arith, e, under, next)) in
          let before : nat_lt j n ≡ true = lt-ltb j n (omega (arith, e, under)) in
          ends-own j i (r.ends i) (rest i) more (eq-eqb i j e) (ih ∙ ap (λ (b : Bool). due b (next_met (rest j)) (r.ends j)) now
          ∙ ap (λ (k : ℕ). due true (next_met (rest k)) (r.ends k)) (sym e))
          ∙ sym (ap (λ (b : Bool). due b (next_met (p.rest j)) (r.ends j)) before
          ∙ ap (λ (k : ℕ). due true (next_met (p.rest k)) (r.ends k)) (sym e)
          ∙ ap (λ (o : Option SlotEvent). due true o (r.ends i)) follows.2)
      | inr apart ↦
          ends-other j i (r.ends i) (rest i) more (ne_eqb i j apart) ∙ ih
          ∙ ap (λ (acts : List Act). due (nat_lt j m) (next_met acts) (r.ends j))
          (set_at-other p.rest i (after_met (p.rest i)) j (λ e. apart (sym e)))
          ∙ ap (λ (k : ℕ). due (nat_lt j k) (next_met (p.rest j)) (r.ends j)) next
    ]
step-ends l r wants j p v n m (Waits i mask kind) more next known follows ih =
    ih ∙ ap (λ (k : ℕ). due (nat_lt j k) (next_met (p.rest j)) (r.ends j)) next
step-ends l r wants j p v n m Mismatched more next known follows ih = absurd follows

ends-from : {h : ℕ} (l : Limits h) (r : Reports) (wants : Wants) (j : ℕ) (es : List CallEntry) (p : Progress) (s : SlotState h)
    (o : List Holding) → IsLegalFrom l s o es → Known s.next p → AllFollow r wants p es
    → j < (state_from l s es).next → IsUsedUp (last_progress p es) j
    → ends_in j (weave_from r p es) ≡ due (nat_lt j s.next) (next_met (p.rest j)) (r.ends j)
ends-from l r wants j [] p s o legal known follow drawn used =
    sym (ap (λ (b : Bool). due b (next_met (p.rest j)) (r.ends j)) (lt-ltb j s.next drawn)
    ∙ ap (λ (next : Option SlotEvent). due true next (r.ends j)) used)
ends-from {h} l r wants j (e ∷ es) p s o legal known follow drawn used =
    let t : SlotState h = (slot_step l s e.call).0 in
    let next = next_is l s e.call e.reply legal.0.reply in
    step-ends l r wants j p e.caller s.next t.next (job_call_of e) (weave_from r (next_progress p e) es) next known follow.0
    (ends-from l r wants j es (next_progress p e) t (outstanding_then o e) legal.1
    (known-after l p e.caller s.next t.next (job_call_of e) next known) follow.1 drawn used)

until-calls : (i : ℕ) (end : End) (acts : List Act) (more : List FarmStep) → calls_in (steps_until_met i end acts ++ more) ≡ calls_in more
until-calls i end [] more = refl
until-calls i end (Did d ∷ acts) more = until-calls i end acts more
until-calls i end (Met x ∷ acts) more = refl

behind-calls : (r : Reports) (p : Progress) (a : JobCall) (more : List FarmStep) → calls_in (steps_behind r p a ++ more) ≡ calls_in more
behind-calls r p (Draws None) more = refl
behind-calls r p (Draws (Some j)) more = until-calls j (r.ends j) (p.rest j) more
behind-calls r p (Adds j mask x) more = until-calls j (r.ends j) (p.rest j) more
behind-calls r p (Waits j mask kind) more = refl
behind-calls r p Mismatched more = refl

pub calls-from : (r : Reports) (es : List CallEntry) (p : Progress) → calls_in (weave_from r p es) ≡ es
calls-from r [] p = refl
calls-from r (e ∷ es) p =
    ap (λ (l : List CallEntry). e ∷ l) (behind-calls r (next_progress p e) (job_call_of e) (weave_from r (next_progress p e) es)
    ∙ calls-from r es (next_progress p e))

pub nothing-lost : NothingLostLaw
nothing-lost h l r wants calls agrees = record {
  calls = calls-from r calls (no_progress r);
  acts = λ j below. acts-from l r wants j calls (no_progress r) (opening h) [] agrees.legal none agrees.follow (inside j below)
      (agrees.used j below) ∙ ap (λ (b : Bool). left b (r.acts j)) (first j);
  ends = λ j below. ends-from l r wants j calls (no_progress r) (opening h) [] agrees.legal none agrees.follow (inside j below)
      (agrees.used j below) ∙ ap (λ (b : Bool). due b (next_met (r.acts j)) (r.ends j)) (first j);
}
  where
    none : Known 0 (no_progress r)
    none v k is = cc

    first : (j : ℕ) → nat_lt j 0 ≡ false
    first j = not-below j 0 (omega arith)

    inside : (j : ℕ) → j < l.jobs → j < (state_after l calls).next
    inside j below = let last : (state_after l calls).next ≡ l.jobs = next-all l calls agrees.legal agrees.drawn in
        omega (arith, last, below)
