-- All workers' own calls make a list that agrees.
use Rattle.std.proofs.Common.{◌≡◌, ◌≢◌, ◌⊎◌, inl, inr, ℕ, ◌+◌, ◌<◌, ◌≤◌, Bool, true, false, cond, List, [], ◌∷◌, ◌++◌, Option, Some, None}
use Rattle.std.proofs.Common.{nat_eq, nat_lt, refl, sym, ap, ◌∙◌, subst, arith, eq-eqb, append_assoc}
use Rattle.std.specs.Prelude.{find}
use Rattle.std.proofs.lemmas.Bool.{ltb-false, cases_lt, cases_eq}
use Rattle.slot_table.specs.declared.limits.Limits.{Limits}
use Rattle.slot_table.specs.declared.state.SlotState.{SlotState}
use Rattle.slot_table.specs.declared.calls.CallEntry.{CallEntry}
use Rattle.slot_table.specs.declared.calls.SlotCall.{SlotCall}
use Rattle.slot_table.specs.declared.calls.SlotCall.TheVariants.{Draw, Take, Give, GiveBad, TakeLocal, GiveLocal}
use Rattle.slot_table.specs.declared.calls.SlotReply.{SlotReply}
use Rattle.slot_table.specs.declared.calls.SlotReply.TheVariants.{Drawn, Local}
use Rattle.slot_table.specs.Step.{opening, slot_step, search_order, is_free, is_down, take_free, drawn}
use Rattle.slot_table.specs.History.{entry, Holding, outstanding_then, IsLegalFrom, state_from, state_after, calls_by}
use Rattle.farm_machine.specs.Acts.{SlotEvent, slots_of}
use Rattle.farm_machine.specs.Machine.{Wants, JobCall, Draws, Adds, Waits, Mismatched, job_call, job_call_of}
use Rattle.farm_machine.specs.Weave.{Reports, OwnAgrees}
use Rattle.farm_machine.specs.Own.{ServedBy, Serves, DoneJob, Each, DoesJobs, AreApart, IsReported, HasNumber}
use Rattle.farm_machine.specs.Driver.{DriverLaw}
use Rattle.farm_laws.proofs.Draws.{NextIs, next_is, grows-from, all-next}
use Rattle.farm_laws.proofs.Callers.{callers}
use Rattle.farm_laws.proofs.Worker.{each-map, worker}

-- the call drew this job
abbrev pub DrawsIt : ℕ → JobCall → Type 0
DrawsIt j (Draws job) = job ≡ Some j
DrawsIt j a = ⊥

-- the job was drawn in this list
abbrev pub IsDrawnIn : ℕ → List CallEntry → Type 0
IsDrawnIn j [] = ⊥
IsDrawnIn j (e ∷ es) = DrawsIt j (job_call_of e) ⊎ IsDrawnIn j es

abbrev IsNone : JobCall → Type 0
IsNone (Draws None) = Unit {0}
IsNone a = ⊥

none-full : {h : ℕ} (l : Limits h) (s : SlotState h) (call : SlotCall) (reply : SlotReply) → reply ≡ (slot_step l s call).1
    → IsNone (job_call call reply) → l.jobs ≤ s.next
none-full {h} l s Draw reply e h' = go (nat_lt s.next l.jobs) refl (subst (λ (r : SlotReply). IsNone (job_call Draw r)) e h')
  where
    go : (b : Bool) → nat_lt s.next l.jobs ≡ b
        → IsNone (job_call Draw (cond {A = SlotState h × SlotReply} b (drawn s, Drawn (Some s.next)) (s, Drawn None)).1) → l.jobs ≤ s.next
    go true is k = absurd k
    go false is k = ltb-false s.next l.jobs is
none-full {h} l s (Take job m now) reply e h' =
    go (find (is_free l s m now) (search_order l job)) (is_down l s m now)
    (subst (λ (r : SlotReply). IsNone (job_call (Take job m now) r)) e h')
  where
    go : (o : Option ℕ) (down : Bool) → IsNone (job_call (Take job m now) (take_free s o down).1) → l.jobs ≤ s.next
    go (Some k) down z = absurd z
    go None true z = absurd z
    go None false z = absurd z
none-full l s (Give host job) reply e h' = absurd (subst (λ (r : SlotReply). IsNone (job_call (Give host job) r)) e h')
none-full l s (GiveBad host job until) reply e h' = absurd (subst (λ (r : SlotReply). IsNone (job_call (GiveBad host job until) r)) e h')
none-full {h} l s (TakeLocal job) reply e h' =
    go (nat_lt s.local_held l.local_slots) (subst (λ (r : SlotReply). IsNone (job_call (TakeLocal job) r)) e h')
  where
    go : (b : Bool) → IsNone (job_call (TakeLocal job)
        (cond {A = SlotState h × SlotReply} b (record s { local_held = s.local_held + 1 }, Local true) (s, Local false)).1)
        → l.jobs ≤ s.next
    go true z = absurd z
    go false z = absurd z
none-full l s (GiveLocal job) reply e h' = absurd (subst (λ (r : SlotReply). IsNone (job_call (GiveLocal job) r)) e h')

abbrev HasNone : List CallEntry → Type 0
HasNone [] = ⊥
HasNone (e ∷ es) = IsNone (job_call_of e) ⊎ HasNone es

-- a draw of no job comes where all were drawn
all-drawn : {h : ℕ} (l : Limits h) (s : SlotState h) (o : List Holding) (es : List CallEntry) → IsLegalFrom l s o es → HasNone es
    → l.jobs ≤ (state_from l s es).next
all-drawn l s o [] legal none = absurd none
all-drawn l s o (e ∷ es) legal none =
    elim none [
      | inl here ↦
          let a : l.jobs ≤ s.next = none-full l s e.call e.reply legal.0.reply here in
          let b : s.next ≤ (state_from l s (e ∷ es)).next = grows-from l s o (e ∷ es) legal in
          omega arith
      | inr there ↦ all-drawn l (slot_step l s e.call).0 (outstanding_then o e) es legal.1 there
    ]

drawn-step : {h : ℕ} (l : Limits h) (j : ℕ) (a : JobCall) (n m : ℕ) (R : Type 0) → NextIs l a n m → n ≤ j → (m ≤ j → R) → DrawsIt j a ⊎ R
drawn-step l j (Draws (Some k)) n m R next above rest =
    elim (cases_eq k j) [
      | inl e ↦ inl (ap Some e)
      | inr apart ↦
          inr (rest (let at : k ≡ n = next.0 in let up : m ≡ n + 1 = next.2 in omega arith))
    ]
drawn-step l j (Draws None) n m R next above rest = inr (rest (omega arith))
drawn-step l j (Adds i mask x) n m R next above rest = inr (rest (omega arith))
drawn-step l j (Waits i mask kind) n m R next above rest = inr (rest (omega arith))
drawn-step l j Mismatched n m R next above rest = inr (rest (omega arith))

-- what is below the next job was drawn
drawn-in : {h : ℕ} (l : Limits h) (s : SlotState h) (o : List Holding) (es : List CallEntry) (j : ℕ) → IsLegalFrom l s o es
    → s.next ≤ j → j < (state_from l s es).next → IsDrawnIn j es
drawn-in l s o [] j legal above below = omega arith
drawn-in l s o (e ∷ es) j legal above below =
    drawn-step l j (job_call_of e) s.next (slot_step l s e.call).0.next (IsDrawnIn j es) (next_is l s e.call e.reply legal.0.reply)
    above (λ up. drawn-in l (slot_step l s e.call).0 (outstanding_then o e) es j legal.1 up below)

-- and it was drawn by someone
drawn-by : (j : ℕ) (es : List CallEntry) → IsDrawnIn j es → (w : ℕ) × IsDrawnIn j (calls_by w es)
drawn-by j [] d = absurd d
drawn-by j (e ∷ es) d =
    elim d [
      | inl here ↦ (
        e.caller,
        subst (λ (b : Bool). IsDrawnIn j (cond b (e ∷ calls_by e.caller es) (calls_by e.caller es)))
            (sym (eq-eqb e.caller e.caller refl)) (inl here),
      )
      | inr there ↦ let r = drawn-by j es there in (r.0, go (nat_eq e.caller r.0) (calls_by r.0 es) r.1)
    ]
  where
    go : (b : Bool) (mine : List CallEntry) → IsDrawnIn j mine → IsDrawnIn j (cond b (e ∷ mine) mine)
    go true mine h = inr h
    go false mine h = h

none-by : (w : ℕ) (es : List CallEntry) → HasNone (calls_by w es) → HasNone es
none-by w [] h = h
none-by w (e ∷ es) h = go (nat_eq e.caller w) h (none-by w es)
  where
    go : (b : Bool) → HasNone (cond b (e ∷ calls_by w es) (calls_by w es)) → (HasNone (calls_by w es) → HasNone es)
        → IsNone (job_call_of e) ⊎ HasNone es
    go true h ih = elim h [ inl here ↦ inl here | inr there ↦ inr (ih there) ]
    go false h ih = inr (ih h)

none-last : (es : List CallEntry) (w : ℕ) → HasNone (es ++ entry w Draw (Drawn None) ∷ [])
none-last [] w = inl tt
none-last (e ∷ es) w = inr (none-last es w)

-- the calls that serve a job draw nothing
serves-draws : (wants : Wants) (w i j : ℕ) (calls more : List CallEntry) (past xs : List SlotEvent) → Serves wants w i past xs calls
    → IsDrawnIn j (calls ++ more) → IsDrawnIn j more
serves-draws wants w i j [] more past xs h d = d
serves-draws wants w i j (e ∷ es) more past [] h d = absurd h
serves-draws wants w i j (e ∷ es) more past (x ∷ xs) h d =
    go (job_call_of e) h.1 d (λ now d. serves-draws wants w i j es more (past ++ x ∷ []) xs now d)
    (λ later d. serves-draws wants w i j es more past (x ∷ xs) later d)
  where
    go : (a : JobCall) → ServedBy wants i past x a (Serves wants w i (past ++ x ∷ []) xs es) (Serves wants w i past (x ∷ xs) es)
        → DrawsIt j a ⊎ IsDrawnIn j (es ++ more)
        → (Serves wants w i (past ++ x ∷ []) xs es → IsDrawnIn j (es ++ more) → IsDrawnIn j more)
        → (Serves wants w i past (x ∷ xs) es → IsDrawnIn j (es ++ more) → IsDrawnIn j more) → IsDrawnIn j more
    go (Adds k mask y) h d now later = elim d [ inl no_ ↦ absurd no_ | inr there ↦ now h.3 there ]
    go (Waits k mask kind) h d now later = elim d [ inl no_ ↦ absurd no_ | inr there ↦ later h.3 there ]
    go (Draws o) h d now later = absurd h
    go Mismatched h d now later = absurd h

jobs-have : (wants : Wants) (w j : ℕ) (ss : List DoneJob) (es : List CallEntry) → DoesJobs wants w ss es
    → IsDrawnIn j (es ++ entry w Draw (Drawn None) ∷ []) → HasNumber j ss
jobs-have wants w j [] es h d = go (subst (λ (xs : List CallEntry). IsDrawnIn j (xs ++ entry w Draw (Drawn None) ∷ [])) h d)
  where
    go : (None ≡ Some j) ⊎ ⊥ → ⊥
    go (inl e) = cc
    go (inr e) = e
jobs-have wants w j (s ∷ ss) es (calls, more, is, serves, segments) d =
    let tail = entry w Draw (Drawn None) ∷ [] in
    let d' : (Some s.number ≡ Some j) ⊎ IsDrawnIn j ((calls ++ more) ++ tail) =
    subst (λ (xs : List CallEntry). IsDrawnIn j (xs ++ tail)) is d in
    elim d' [
      | inl here ↦ inl (let e : s.number ≡ j = cc in e)
      | inr there ↦ inr (jobs-have wants w j ss more segments
          (serves-draws wants w s.number j calls (more ++ tail) [] (slots_of s.acts) serves
          (subst (λ (xs : List CallEntry). IsDrawnIn j xs) (append_assoc calls more tail) there)))
    ]

-- numbers are drawn in order
abbrev pub AscBy : JobCall → ℕ → (ℕ → Type 0) → Type 0
AscBy (Draws (Some j)) k R = (k ≤ j) × R (j + 1)
AscBy (Draws None) k R = R k
AscBy (Adds j mask x) k R = R k
AscBy (Waits j mask kind) k R = R k
AscBy Mismatched k R = R k

abbrev pub Ascend : List CallEntry → ℕ → Type 0
Ascend [] k = Unit {0}
Ascend (e ∷ es) k = AscBy (job_call_of e) k (Ascend es)

asc-step : {h : ℕ} (l : Limits h) (a : JobCall) (n m : ℕ) (R : ℕ → Type 0) → NextIs l a n m → R m → AscBy a n R
asc-step l (Draws (Some j)) n m R next r = (
  let at : j ≡ n = next.0 in omega arith,
  let at : j ≡ n = next.0 in let up : m ≡ n + 1 = next.2 in
      let e : m ≡ j + 1 = omega arith in subst R e r,
)
asc-step l (Draws None) n m R next r = subst R next r
asc-step l (Adds j mask x) n m R next r = subst R next r
asc-step l (Waits j mask kind) n m R next r = subst R next r
asc-step l Mismatched n m R next r = subst R next r

pub asc-legal : {h : ℕ} (l : Limits h) (s : SlotState h) (o : List Holding) (es : List CallEntry) → IsLegalFrom l s o es → Ascend es s.next
asc-legal l s o [] legal = tt
asc-legal l s o (e ∷ es) legal =
    asc-step l (job_call_of e) s.next (slot_step l s e.call).0.next (Ascend es) (next_is l s e.call e.reply legal.0.reply)
    (asc-legal l (slot_step l s e.call).0 (outstanding_then o e) es legal.1)

pub asc-less : (es : List CallEntry) (k m : ℕ) → m ≤ k → Ascend es k → Ascend es m
asc-less [] k m le h = tt
asc-less (e ∷ es) k m le h = go (job_call_of e) h (asc-less es k m le)
  where
    go : (a : JobCall) → AscBy a k (Ascend es) → (Ascend es k → Ascend es m) → AscBy a m (Ascend es)
    go (Draws (Some j)) h ih = (let below : k ≤ j = h.0 in omega arith, h.1)
    go (Draws None) h ih = ih h
    go (Adds j mask x) h ih = ih h
    go (Waits j mask kind) h ih = ih h
    go Mismatched h ih = ih h

pub asc-by : (w : ℕ) (es : List CallEntry) (k : ℕ) → Ascend es k → Ascend (calls_by w es) k
asc-by w [] k h = tt
asc-by w (e ∷ es) k h = go (nat_eq e.caller w) h (λ i r. asc-by w es i r)
  where
    keep : (a : JobCall) (m : ℕ) → AscBy a m (Ascend es) → ((i : ℕ) → Ascend es i → Ascend (calls_by w es) i)
        → AscBy a m (Ascend (calls_by w es))
    keep (Draws (Some j)) m h ih = (h.0, ih (j + 1) h.1)
    keep (Draws None) m h ih = ih m h
    keep (Adds j mask x) m h ih = ih m h
    keep (Waits j mask kind) m h ih = ih m h
    keep Mismatched m h ih = ih m h

    drop : (a : JobCall) (m : ℕ) → AscBy a m (Ascend es) → Ascend es m
    drop (Draws (Some j)) m h = asc-less es (j + 1) m (let below : m ≤ j = h.0 in omega arith) h.1
    drop (Draws None) m h = h
    drop (Adds j mask x) m h = h
    drop (Waits j mask kind) m h = h
    drop Mismatched m h = h

    go : (b : Bool) → AscBy (job_call_of e) k (Ascend es) → ((i : ℕ) → Ascend es i → Ascend (calls_by w es) i)
        → Ascend (cond b (e ∷ calls_by w es) (calls_by w es)) k
    go true h ih = keep (job_call_of e) k h ih
    go false h ih = ih k (drop (job_call_of e) k h)

serves-asc : (wants : Wants) (w i : ℕ) (calls more : List CallEntry) (k : ℕ) (past xs : List SlotEvent)
    → Serves wants w i past xs calls → Ascend (calls ++ more) k → Ascend more k
serves-asc wants w i [] more k past xs h a = a
serves-asc wants w i (e ∷ es) more k past [] h a = absurd h
serves-asc wants w i (e ∷ es) more k past (x ∷ xs) h a =
    go (job_call_of e) h.1 a (λ now a. serves-asc wants w i es more k (past ++ x ∷ []) xs now a)
    (λ later a. serves-asc wants w i es more k past (x ∷ xs) later a)
  where
    go : (q : JobCall) → ServedBy wants i past x q (Serves wants w i (past ++ x ∷ []) xs es) (Serves wants w i past (x ∷ xs) es)
        → AscBy q k (Ascend (es ++ more))
        → (Serves wants w i (past ++ x ∷ []) xs es → Ascend (es ++ more) k → Ascend more k)
        → (Serves wants w i past (x ∷ xs) es → Ascend (es ++ more) k → Ascend more k) → Ascend more k
    go (Adds j mask y) h a now later = now h.3 a
    go (Waits j mask kind) h a now later = later h.3 a
    go (Draws o) h a now later = absurd h
    go Mismatched h a now later = absurd h

-- so no worker reports a job twice
pub jobs-apart : (wants : Wants) (w : ℕ) (ss : List DoneJob) (es tail : List CallEntry) (k : ℕ) → DoesJobs wants w ss es
    → Ascend (es ++ tail) k → AreApart ss × Each (λ s. k ≤ s.number) ss
jobs-apart wants w [] es tail k h a = (tt, tt)
jobs-apart wants w (s ∷ ss) es tail k (calls, more, is, serves, segments) a =
    let j = s.number in
    let a' : (k ≤ j) × Ascend ((calls ++ more) ++ tail) (j + 1) = subst (λ (xs : List CallEntry). Ascend (xs ++ tail) k) is a in
    let below : k ≤ j = a'.0 in
    let ih : AreApart ss × Each (λ t. j + 1 ≤ t.number) ss =
    jobs-apart wants w ss more tail (j + 1) segments
    (serves-asc wants w j calls (more ++ tail) (j + 1) [] (slots_of s.acts) serves
    (subst (λ (xs : List CallEntry). Ascend xs (j + 1)) (append_assoc calls more tail) a'.1)) in (
      (each-map (λ t. j + 1 ≤ t.number) (λ t. t.number ≢ j) ss (λ t above e. let u : j + 1 ≤ t.number = above in omega arith) ih.1, ih.0),
      (below, each-map (λ t. j + 1 ≤ t.number) (λ t. k ≤ t.number) ss (λ t above. let u : j + 1 ≤ t.number = above in omega arith) ih.1),
    )

by-number : (r : Reports) (w j : ℕ) (ss : List DoneJob) → Each (IsReported r w) ss → HasNumber j ss → r.worker j ≡ w
by-number r w j [] h has = absurd has
by-number r w j (s ∷ ss) h has = elim has [ inl e ↦ ap r.worker (sym e) ∙ h.0.0 | inr there ↦ by-number r w j ss h.1 there ]

pub driver : DriverLaw
driver h l wants n done log legal worked =
    record { found = found; agrees = λ r is_in. (callers h l r wants log legal (all-next l log legal full)).1 (own r is_in) }
  where
    full : l.jobs ≤ (state_after l log).next
    full =
        let first = worked.each 0 worked.some in
        all-drawn l (opening h) [] log legal (none-by 0 log (subst HasNone (sym first.2) (none-last first.0 0)))

    drawn-all : (j : ℕ) → j < l.jobs → IsDrawnIn j log
    drawn-all j below = let top = full in drawn-in l (opening h) [] log j legal (omega arith) (omega arith)

    found : (j : ℕ) → j < l.jobs → (w : ℕ) × (w < n) × HasNumber j (done w)
    found j below =
        let d = drawn-by j log (drawn-all j below) in
        let w = d.0 in
        elim (cases_lt w n) [
          | inl inside ↦ let e = worked.each w inside in
              (w, inside, jobs-have wants w j (done w) e.0 e.1 (subst (λ (es : List CallEntry). IsDrawnIn j es) e.2 d.1))
          | inr outside ↦ absurd (subst (λ (es : List CallEntry). IsDrawnIn j es) (worked.others w outside) d.1)
        ]

    own : (r : Reports) → ((w : ℕ) → w < n → Each (IsReported r w) (done w)) → (w : ℕ) → OwnAgrees l r wants w (calls_by w log)
    own r is_in w = elim (cases_lt w n) [
      | inl inside ↦
          let e = worked.each w inside in
          let asc : Ascend (e.0 ++ entry w Draw (Drawn None) ∷ []) 0 =
          subst (λ (es : List CallEntry). Ascend es 0) e.2 (asc-by w log 0 (asc-legal l (opening h) [] log legal)) in
          subst (λ (es : List CallEntry). OwnAgrees l r wants w es) (sym e.2)
          (worker h l r wants w (done w) e.0 e.1 (jobs-apart wants w (done w) e.0 (entry w Draw (Drawn None) ∷ []) 0 e.1 asc).0
          (is_in w inside)
          (λ j below by. let f = found j below in let same : f.0 ≡ w = sym (by-number r f.0 j (done f.0) (is_in f.0 f.1) f.2)
          ∙ by in subst (λ (u : ℕ). HasNumber j (done u)) same f.2))
      | inr outside ↦ subst (λ (es : List CallEntry). OwnAgrees l r wants w es) (sym (worked.others w outside)) record {
        follow = tt;
        used = λ j below by. let f = found j below in let same : f.0 ≡ w = sym (by-number r f.0 j (done f.0) (is_in f.0 f.1) f.2)
            ∙ by in let inside : f.0 < n = f.1 in absurd (omega arith);
      }
    ]
