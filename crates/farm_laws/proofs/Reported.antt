-- Of what the workers did there are reports, one for each job.
use Rattle.std.proofs.Common.{◌≡◌, ◌≢◌, ◌⊎◌, inl, inr, ℕ, ◌+◌, ◌<◌, ◌≤◌, Bool, true, false, cond, List, [], ◌∷◌, ◌++◌, Option, Some, None}
use Rattle.std.proofs.Common.{nat_eq, refl, sym, ap, ◌∙◌, subst, arith, eq-eqb, ne_eqb, true≢false}
use Rattle.std.proofs.lemmas.Bool.{eqb-true}
use Rattle.slot_table.specs.declared.calls.CallEntry.{CallEntry}
use Rattle.slot_table.specs.declared.calls.SlotCall.TheVariants.{Draw}
use Rattle.slot_table.specs.declared.calls.SlotReply.TheVariants.{Drawn}
use Rattle.slot_table.specs.Step.{opening}
use Rattle.slot_table.specs.History.{entry, calls_by}
use Rattle.farm_machine.specs.declared.reports.Why5.TheVariants.{Memory}
use Rattle.farm_machine.specs.declared.reports.End.{End}
use Rattle.farm_machine.specs.declared.reports.End.TheVariants.{Failed}
use Rattle.farm_machine.specs.Acts.{Act}
use Rattle.farm_machine.specs.Course.{Course}
use Rattle.farm_machine.specs.Machine.{Wants, JobCall, Draws, Adds, Waits, Mismatched, job_call_of}
use Rattle.farm_machine.specs.Weave.{Reports, Agrees}
use Rattle.farm_machine.specs.Farm.{wanted}
use Rattle.farm_machine.specs.Own.{DoneJob, Each, DoesJobs, AreApart, IsReported, HasNumber}
use Rattle.farm_machine.specs.Driver.{WorkersRunLaw}
use Rattle.farm_laws.proofs.Drivers.{DrawsIt, IsDrawnIn, AscBy, Ascend, asc-less, asc-legal, asc-by, jobs-apart, driver}
use Rattle.farm_laws.proofs.Worker.{each-map, each-both}
use Rattle.farm_laws.proofs.Farms.{weave-law, all-back}

-- whether the call drew this job, and the caller of the first call that did
abbrev draws_it : ℕ → JobCall → Bool
draws_it j (Draws (Some i)) = nat_eq i j
draws_it j other = false

abbrev drawer : ℕ → List CallEntry → ℕ
drawer j [] = 0
drawer j (e ∷ es) = cond (draws_it j (job_call_of e)) e.caller (drawer j es)

it-draws : (j : ℕ) (a : JobCall) → DrawsIt j a → draws_it j a ≡ true
it-draws j (Draws (Some i)) d = let e : i ≡ j = cc in eq-eqb i j e
it-draws j (Draws None) d = cc
it-draws j (Adds i mask x) d = absurd d
it-draws j (Waits i mask kind) d = absurd d
it-draws j Mismatched d = absurd d

-- what is drawn from k on is k or above
drawn-above : (j : ℕ) (es : List CallEntry) (k : ℕ) → Ascend es k → IsDrawnIn j es → k ≤ j
drawn-above j [] k asc d = absurd d
drawn-above j (e ∷ es) k asc d = go (job_call_of e) asc d (λ i. drawn-above j es i)
  where
    go : (a : JobCall) → AscBy a k (Ascend es) → DrawsIt j a ⊎ IsDrawnIn j es → ((i : ℕ) → Ascend es i → IsDrawnIn j es → i ≤ j) → k ≤ j
    go (Draws (Some i)) asc (inl is) ih = let e : i ≡ j = cc in let below : k ≤ i = asc.0 in omega (arith, e, below)
    go (Draws (Some i)) asc (inr there) ih = let below : k ≤ i = asc.0 in let above : i + 1 ≤ j = ih (i + 1) asc.1 there in
        omega (arith, below, above)
    go (Draws None) asc (inl is) ih = cc
    go (Draws None) asc (inr there) ih = ih k asc there
    go (Adds i mask x) asc (inl is) ih = absurd is
    go (Adds i mask x) asc (inr there) ih = ih k asc there
    go (Waits i mask kind) asc (inl is) ih = absurd is
    go (Waits i mask kind) asc (inr there) ih = ih k asc there
    go Mismatched asc (inl is) ih = absurd is
    go Mismatched asc (inr there) ih = ih k asc there

-- what holds behind a call
behind : (a : JobCall) (es : List CallEntry) (k : ℕ) → AscBy a k (Ascend es) → Ascend es k
behind (Draws (Some i)) es k asc = asc-less es (i + 1) k (let below : k ≤ i = asc.0 in omega arith) asc.1
behind (Draws None) es k asc = asc
behind (Adds i mask x) es k asc = asc
behind (Waits i mask kind) es k asc = asc
behind Mismatched es k asc = asc

behind-draw : (j : ℕ) (a : JobCall) (es : List CallEntry) (k : ℕ) → draws_it j a ≡ true → AscBy a k (Ascend es) → IsDrawnIn j es → ⊥
behind-draw j (Draws (Some i)) es k is asc there = let e : i ≡ j = eqb-true i j is in
    let above : i + 1 ≤ j = drawn-above j es (i + 1) asc.1 there in absurd (omega (arith, e, above))
behind-draw j (Draws None) es k is asc there = true≢false (sym is)
behind-draw j (Adds i mask x) es k is asc there = true≢false (sym is)
behind-draw j (Waits i mask kind) es k is asc there = true≢false (sym is)
behind-draw j Mismatched es k is asc there = true≢false (sym is)

own-drawn : (w j : ℕ) (es : List CallEntry) → IsDrawnIn j (calls_by w es) → IsDrawnIn j es
own-drawn w j [] d = absurd d
own-drawn w j (e ∷ es) d = go (nat_eq e.caller w) d (own-drawn w j es)
  where
    go : (b : Bool) → IsDrawnIn j (cond b (e ∷ calls_by w es) (calls_by w es)) → (IsDrawnIn j (calls_by w es) → IsDrawnIn j es)
        → DrawsIt j (job_call_of e) ⊎ IsDrawnIn j es
    go true (inl here) ih = inl here
    go true (inr there) ih = inr (ih there)
    go false d ih = inr (ih d)

-- the drawer of a job is the worker that drew it
drawer-is : (w j : ℕ) (es : List CallEntry) (k : ℕ) → Ascend es k → IsDrawnIn j (calls_by w es) → drawer j es ≡ w
drawer-is w j [] k asc d = absurd d
drawer-is w j (e ∷ es) k asc d =
    go (nat_eq e.caller w) refl (draws_it j (job_call_of e)) refl d (λ d. drawer-is w j es k (behind (job_call_of e) es k asc) d)
  where
    go : (b : Bool) → nat_eq e.caller w ≡ b → (t : Bool) → draws_it j (job_call_of e) ≡ t
        → IsDrawnIn j (cond b (e ∷ calls_by w es) (calls_by w es)) → (IsDrawnIn j (calls_by w es) → drawer j es ≡ w)
        → cond t e.caller (drawer j es) ≡ w
    go true own true is d ih = eqb-true e.caller w own
    go true own false is (inl here) ih = absurd (true≢false (sym (it-draws j (job_call_of e) here) ∙ is))
    go true own false is (inr there) ih = ih there
    go false own true is d ih = absurd (behind-draw j (job_call_of e) es k is asc (own-drawn w j es d))
    go false own false is d ih = ih d

abbrev lookup : ℕ → List DoneJob → Option DoneJob
lookup j [] = None
lookup j (job ∷ jobs) = cond (nat_eq job.number j) (Some job) (lookup j jobs)

looked-up : (jobs : List DoneJob) → AreApart jobs → Each (λ job. lookup job.number jobs ≡ Some job) jobs
looked-up [] apart = tt
looked-up (job ∷ jobs) apart = (
  ap (λ (b : Bool). cond b (Some job) (lookup job.number jobs)) (eq-eqb job.number job.number refl),
  each-both (λ other. other.number ≢ job.number) (λ other. lookup other.number jobs ≡ Some other)
      (λ other. lookup other.number (job ∷ jobs) ≡ Some other) jobs
      (λ other n is. ap (λ (b : Bool). cond b (Some job) (lookup other.number jobs))
      (ne_eqb job.number other.number (λ e. n (sym e))) ∙ is) apart.0 (looked-up jobs apart.1),
)

drawn-behind : (j : ℕ) (es more : List CallEntry) → IsDrawnIn j more → IsDrawnIn j (es ++ more)
drawn-behind j [] more d = d
drawn-behind j (e ∷ es) more d = inr (drawn-behind j es more d)

drawn-before : (j : ℕ) (es more : List CallEntry) → IsDrawnIn j es → IsDrawnIn j (es ++ more)
drawn-before j [] more d = absurd d
drawn-before j (e ∷ es) more (inl here) = inl here
drawn-before j (e ∷ es) more (inr there) = inr (drawn-before j es more there)

-- a worker drew each of its jobs
jobs-drawn : (wants : Wants) (w : ℕ) (jobs : List DoneJob) (es : List CallEntry) → DoesJobs wants w jobs es
    → Each (λ job. IsDrawnIn job.number es) jobs
jobs-drawn wants w [] es h = tt
jobs-drawn wants w (job ∷ jobs) es (calls, more, is, serves, rest) =
    let P : List CallEntry → Type 0 = λ xs. Each (λ other. IsDrawnIn other.number xs) (job ∷ jobs) in
    subst P (sym is) (
      inl refl,
      each-map (λ other. IsDrawnIn other.number more)
          (λ other. IsDrawnIn other.number (entry w Draw (Drawn (Some job.number)) ∷ (calls ++ more))) jobs
          (λ other d. inr (drawn-behind other.number calls more d)) (jobs-drawn wants w jobs more rest),
    )

abbrev acts_of : Option DoneJob → List Act
acts_of None = []
acts_of (Some job) = job.acts

abbrev end_of : Option DoneJob → End
end_of None = Failed Memory
end_of (Some job) = job.end

-- the reports of what the workers did
abbrev reports_of : (ℕ → List DoneJob) → List CallEntry → Reports
reports_of done calls = record {
  worker = λ j. drawer j calls;
  acts = λ j. acts_of (lookup j (done (drawer j calls)));
  ends = λ j. end_of (lookup j (done (drawer j calls)));
}

abbrev HasAll : Reports → ℕ → DoneJob → Type 0
HasAll r w job = IsReported r w job × (r.ends job.number ≡ job.end)

-- what holds of each holds of the one with this number
at-number : (P : DoneJob → Type 0) (j : ℕ) (jobs : List DoneJob) → Each P jobs → HasNumber j jobs
    → (job : DoneJob) × (job.number ≡ j) × P job
at-number P j [] each has = absurd has
at-number P j (job ∷ jobs) each (inl here) = (job, here, each.0)
at-number P j (job ∷ jobs) each (inr there) = at-number P j jobs each.1 there

pub workers-run : WorkersRunLaw
workers-run h l jobs n done calls of legal worked did =
    record {
      reports = r;
      workers = workers;
      reported = reported;
      courses = courses;
      agrees = agrees;
      run = weave-law h l jobs r calls of courses agrees;
      back = all-back h l jobs r calls of courses agrees;
    }
  where
    r : Reports
    r = reports_of done calls

    reported : (w : ℕ) → w < n → Each (HasAll r w) (done w)
    reported w inside =
        let one = worked.each w inside in
        let asc : Ascend calls 0 = asc-legal l (opening h) [] calls legal in
        let own : Ascend (one.0 ++ entry w Draw (Drawn None) ∷ []) 0 =
        subst (λ (es : List CallEntry). Ascend es 0) one.2 (asc-by w calls 0 asc) in
        let drawn : Each (λ job. drawer job.number calls ≡ w) (done w) =
        each-map (λ job. IsDrawnIn job.number one.0) (λ job. drawer job.number calls ≡ w) (done w)
        (λ job d. drawer-is w job.number calls 0 asc
        (subst (λ (es : List CallEntry). IsDrawnIn job.number es) (sym one.2)
        (drawn-before job.number one.0 (entry w Draw (Drawn None) ∷ []) d)))
        (jobs-drawn (wanted l) w (done w) one.0 one.1) in
        each-both (λ job. drawer job.number calls ≡ w) (λ job. lookup job.number (done w) ≡ Some job) (HasAll r w) (done w)
        (λ job by is.
        let at : lookup job.number (done (drawer job.number calls)) ≡ Some job = ap (λ (v : ℕ). lookup job.number (done v)) by
        ∙ is in ((by, ap acts_of at), ap end_of at))
        drawn (looked-up (done w) (jobs-apart (wanted l) w (done w) one.0 (entry w Draw (Drawn None) ∷ []) 0 one.1 own).0)

    workers : (j : ℕ) → j < l.jobs → r.worker j < n
    workers j below =
        let f = (driver h l (wanted l) n done calls legal worked).found j below in
        let w = f.0 in
        let one = at-number (λ job. r.worker job.number ≡ w) j (done w)
        (each-map (HasAll r w) (λ job. r.worker job.number ≡ w) (done w) (λ job all. all.0.0) (reported w f.1)) f.2 in
        subst (λ (v : ℕ). v < n) (sym (ap r.worker (sym one.1) ∙ one.2)) f.1

    agrees : Agrees l r (wanted l) calls
    agrees = (driver h l (wanted l) n done calls legal worked).agrees r
        (λ w inside. each-map (HasAll r w) (IsReported r w) (done w) (λ job all. all.0) (reported w inside))

    courses : (j : ℕ) → j < l.jobs → Course (jobs j) (r.acts j) (r.ends j)
    courses j below =
        let f = (driver h l (wanted l) n done calls legal worked).found j below in
        let w = f.0 in
        let both : Each (λ job. Course (jobs job.number) (r.acts job.number) (r.ends job.number)) (done w) =
        each-both (HasAll r w) (λ job. Course (jobs job.number) job.acts job.end)
        (λ job. Course (jobs job.number) (r.acts job.number) (r.ends job.number)) (done w)
        (λ job all course. subst (λ (acts : List Act). Course (jobs job.number) acts (r.ends job.number)) (sym all.0.1)
        (subst (λ (end : End). Course (jobs job.number) job.acts end) (sym all.1) course))
        (reported w f.1) (did w f.1) in
        let one = at-number (λ job. Course (jobs job.number) (r.acts job.number) (r.ends job.number)) j (done w) both f.2 in
        subst (λ (k : ℕ). Course (jobs k) (r.acts k) (r.ends k)) one.1 one.2
