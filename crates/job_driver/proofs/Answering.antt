-- What each job's runs left and what its exchanges were given.
use Rattle.std.proofs.Common.{◌≡◌, inl, inr, ℕ, zero, suc, ◌+◌, ◌<◌, Bool, true, false, cond, List, [], ◌∷◌, Some, length, map, refl, sym}
use Rattle.std.proofs.Common.{ap, ◌∙◌, subst, arith, nat_eq, eq-eqb}
use Rattle.std.specs.Prelude.{All, slice_get}
use Rattle.std.proofs.lemmas.List.Elements.{All-nil, All-cons, All-head, All-tail}
use Rattle.std.proofs.lemmas.Bool.{true≢false}
use Rattle.std.proofs.lemmas.List.Sums.{sum_by-cons}
use Rattle.std.proofs.lemmas.Option.{slice_get_cases}
use Rattle.edge_traits.specs.Causes.{Rose, RoseBy}
use Rattle.edge_traits.proofs.CountLemmas.{just-rose}
use Rattle.farm_machine.specs.declared.reports.End.{End}
use Rattle.farm_machine.specs.declared.reports.End.TheVariants.{Done, Failed}
use Rattle.farm_machine.specs.declared.reports.Why5.TheVariants.{Station, Put, Broke, NoHost, Memory, Fetch}
use Rattle.farm_machine.specs.declared.reports.Places.{Places}
use Rattle.farm_machine.specs.declared.reports.Report.{Report}
use Rattle.farm_machine.specs.Acts.{Act}
use Rattle.farm_machine.specs.Honest.{Peers, Programs, AllRan}
use Rattle.farm_machine.specs.Numbered.{advanced, untimed}
use Rattle.farm_machine.specs.Own.{DoneJob, Each, IsReported}
use Rattle.farm_machine.specs.Weave.{Reports}
use Rattle.course_laws.specs.Answers.{AllGiven}
use Rattle.course_laws.specs.Laws.{is_own_end}
use Rattle.course_laws.specs.Returns.{is_done_or_wanted}
use Rattle.course_laws.proofs.Given.{given-front, given-split, ran-front, ran-split}
use Rattle.job_driver.specs.Driven.{acts_by, reports_by}
use Rattle.job_driver.specs.Works.{untimed_job, AreReportsOf, RoseTogether, RoseInAll, ends_so, is_station_failure, is_keeper_failure}

-- what holds of all reports of a worker holds of the one at a place, where it is the worker's
pub all-own : (P : Report → Type 0) (w : ℕ) (xs : List Report) (k : ℕ) (r : Report)
    → All P (reports_by w xs) → slice_get xs k ≡ Some r → r.worker ≡ w → P r
all-own P w [] k r all at by = absurd (grind (arith, at))
all-own P w (x ∷ xs) zero r all at by = go (nat_eq x.worker w) refl all
  where
    same : x ≡ r
    same = grind (arith, at)

    go : (b : Bool) → nat_eq x.worker w ≡ b → All P (cond b (x ∷ reports_by w xs) (reports_by w xs)) → P r
    go true is all = subst P same (All-head P x (reports_by w xs) all)
    go false is all = absurd (true≢false (sym (eq-eqb x.worker w (ap (λ (q : Report). q.worker) same ∙ by)) ∙ is))
all-own P w (x ∷ xs) (suc k) r all at by = go (nat_eq x.worker w) all (λ rest. all-own P w xs k r rest at by)
  where
    go : (b : Bool) → All P (cond b (x ∷ reports_by w xs) (reports_by w xs)) → (All P (reports_by w xs) → P r) → P r
    go true all more = more (All-tail P x (reports_by w xs) all)
    go false all more = more all

-- what the acts of reports keep to, those of each do
pub given-by : (peers : Peers) (read : Reports) (rs : List Report)
    → AllGiven peers (acts_by read rs) → All (λ r. AllGiven peers (read.acts r.number)) rs
given-by peers read [] all = All-nil (λ r. AllGiven peers (read.acts r.number))
given-by peers read (r ∷ rs) all =
    All-cons (λ q. AllGiven peers (read.acts q.number)) r rs (given-front peers (read.acts r.number) (acts_by read rs) all)
    (given-by peers read rs (given-split peers (read.acts r.number) (acts_by read rs) all).1)

pub ran-by : (programs : Programs) (read : Reports) (rs : List Report)
    → AllRan programs (acts_by read rs) → All (λ r. AllRan programs (read.acts r.number)) rs
ran-by programs read [] all = All-nil (λ r. AllRan programs (read.acts r.number))
ran-by programs read (r ∷ rs) all =
    All-cons (λ q. AllRan programs (read.acts q.number)) r rs (ran-front programs (read.acts r.number) (acts_by read rs) all)
    (ran-by programs read rs (ran-split programs (read.acts r.number) (acts_by read rs) all).1)

-- what holds of the number, the acts and the end of each job of a worker holds of those that are read for its reports
pub reports-each : (P : ℕ → List Act → End → Type 0) (w : ℕ) (read : Reports) (done : List DoneJob) (at : Places) (rs : List Report)
    → AreReportsOf w at done rs → Each (λ job. IsReported read w job × (read.ends job.number ≡ job.end)) (map untimed_job done)
    → Each (λ job. P job.number (untimed job.acts) job.end) done
    → All (λ r. (read.worker r.number ≡ w) × P r.number (read.acts r.number) (read.ends r.number)) rs
reports-each P w read [] at [] all told each = All-nil
    (λ r. (read.worker r.number ≡ w) × P r.number (read.acts r.number) (read.ends r.number))
reports-each P w read [] at (r ∷ rs) all told each = absurd all
reports-each P w read (job ∷ done) at [] all told each = absurd all
reports-each P w read (job ∷ done) at (r ∷ rs) all told each =
    let own = all.0 in
    let first = told.0 in
    let acts : read.acts r.number ≡ untimed job.acts = ap read.acts own.number ∙ first.0.1 in
    let end : read.ends r.number ≡ job.end = ap read.ends own.number ∙ first.1 in
    let same : P r.number (untimed job.acts) job.end = subst (λ (k : ℕ). P k (untimed job.acts) job.end) (sym own.number) each.0 in
    All-cons (λ q. (read.worker q.number ≡ w) × P q.number (read.acts q.number) (read.ends q.number)) r rs (
      ap read.worker own.number ∙ first.0.0,
      subst (λ (xs : List Act). P r.number xs (read.ends r.number)) (sym acts)
          (subst (P r.number (untimed job.acts)) (sym end) same),
    )
    (reports-each P w read done (advanced at job.acts) rs all.1 told.1 each.1)

-- what no report ends with none does
pub calm-by : (p : End → Bool) (rs : List Report) → ends_so p rs ≡ 0 → All (λ r. p r.end ≡ false) rs
calm-by p [] none = All-nil (λ r. p r.end ≡ false)
calm-by p (r ∷ rs) none =
    let sums : cond (p r.end) 1 0 + ends_so p rs ≡ 0 = sym (sum_by-cons (λ (q : Report). cond (p q.end) 1 0) r rs) ∙ none in
    All-cons (λ q. p q.end ≡ false) r rs (first (p r.end) sums) (calm-by p rs (rest (p r.end) sums))
  where
    first : (b : Bool) → cond b 1 0 + ends_so p rs ≡ 0 → b ≡ false
    first true sums = absurd (omega (arith, sums))
    first false sums = refl

    rest : (b : Bool) → cond b 1 0 + ends_so p rs ≡ 0 → ends_so p rs ≡ 0
    rest true sums = absurd (omega (arith, sums))
    rest false sums = omega (arith, sums)

-- what didn't rise didn't rise by any number
none-rose : (number a b : ℕ) → RoseBy number a b → ¬ (Rose a b) → number ≡ 0
none-rose zero a b rose not = refl
none-rose (suc number) a b rose not = absurd (not (omega (arith, rose)))

pub none-together : (number a a' b b' : ℕ) → RoseTogether number a a' b b' → ¬ (Rose a a') → ¬ (Rose b b') → number ≡ 0
none-together number a a' b b' rose not not' =
    let one = none-rose rose.first a a' rose.rose not in
    let two = none-rose rose.second b b' rose.rose_too not' in
    let enough = rose.enough in
    omega (arith, one, two, enough)

pub none-in-all : (number a a' b b' : ℕ) → RoseInAll number a a' b b' → ¬ (Rose a a') → ¬ (Rose b b') → number ≡ 0
none-in-all number a a' b b' rose not not' =
    let one = none-rose rose.first a a' (just-rose rose.first a a' rose.rose) not in
    let two = none-rose rose.second b b' (just-rose rose.second b b' rose.rose_too) not' in
    let all = rose.all in
    omega (arith, one, two, all)

-- an end that no host, station or keeper is the cause of
pub returned-well : (end : End) → is_own_end end ≡ true → is_station_failure end ≡ false → is_keeper_failure end ≡ false
    → is_done_or_wanted end ≡ true
returned-well (Done status note err out by) own station keeper = refl
returned-well (Failed Station) own station keeper = absurd (true≢false station)
returned-well (Failed Put) own station keeper = absurd (true≢false keeper)
returned-well (Failed Fetch) own station keeper = absurd (true≢false keeper)
returned-well (Failed (Broke host cause)) own station keeper = absurd (true≢false (sym own))
returned-well (Failed NoHost) own station keeper = absurd (true≢false (sym own))
returned-well (Failed Memory) own station keeper = refl

pub some-at : {X : Type 0} (xs : List X) (k : ℕ) → k < length xs → (x : X) × (slice_get xs k ≡ Some x)
some-at xs k below = elim (slice_get_cases xs k).1 [
  | inl there ↦ (there.0, there.2)
  | inr past ↦ absurd (let above = past.0 in omega (arith, above, below))
]
