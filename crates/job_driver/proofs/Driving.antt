-- What all workers did together.
use Rattle.std.proofs.Common.{◌≡◌, inl, inr, ℕ, zero, suc, ◌+◌, ◌<◌, ◌≤◌, IsTrue, List, [], ◌∷◌, ◌++◌, Some, None, length, get_or, drop}
use Rattle.std.proofs.Common.{map, refl, sym, ap, ◌∙◌, subst, arith}
use Rattle.std.specs.Prelude.{All, slice_get, slice_index}
use Rattle.std.specs.List.{sum_by, range_with_len}
use Rattle.std.specs.List.Sorted.{IsPermutation, IsNonDecreasingBy}
use Rattle.std.proofs.lemmas.Bool.{cases_lt}
use Rattle.std.proofs.lemmas.List.{append-nil, length-map}
use Rattle.std.proofs.lemmas.List.FromFn.{length-range_with_len}
use Rattle.std.proofs.lemmas.List.Elements.{All-head, All-tail}
use Rattle.std.proofs.lemmas.List.Sums.{sum_by-cons}
use Rattle.std.proofs.lemmas.List.Sorted.{All-permutation, IsPermutation-sym, sum_by-IsPermutation}
use Rattle.farm_types.specs.declared.jobs.JobConfig.{JobConfig}
use Rattle.slot_table.specs.declared.limits.Limits.{Limits}
use Rattle.slot_table.specs.declared.state.SlotState.{SlotState}
use Rattle.slot_table.specs.declared.calls.CallEntry.{CallEntry}
use Rattle.slot_table.specs.declared.calls.SlotCall.TheVariants.{Draw}
use Rattle.slot_table.specs.declared.calls.SlotReply.TheVariants.{Drawn}
use Rattle.slot_table.specs.Step.{opening}
use Rattle.slot_table.specs.Limits.{AreValid}
use Rattle.slot_table.specs.History.{entry, IsLegal, state_after, outstanding, calls_by, jobs_drawn}
use Rattle.slot_table.specs.Laws.{SlotsAgree}
use Rattle.slot_table.proofs.Histories.{legal-front}
use Rattle.slot_table.proofs.Keeps.{state-agrees}
use Rattle.edge_traits.specs.declared.entries.Put.{Put}
use Rattle.edge_traits.specs.Deeds.{exchanges_in, puts_in, moments_in, DidIn, MayAll}
use Rattle.farm_machine.specs.Honest.{AllRan}
use Rattle.edge_traits.specs.Keepers.{IsIdle}
use Rattle.edge_traits.specs.Told.{Grew, SameRelation, SameRelation3}
use Rattle.farm_machine.specs.declared.reports.End.{End}
use Rattle.farm_machine.specs.declared.reports.Report.{Report}
use Rattle.farm_machine.specs.Acts.{Act, Entries, deeds_of}
use Rattle.farm_machine.specs.Course.{Course}
use Rattle.farm_machine.specs.Driver.{AllWorked, WorkersRun}
use Rattle.farm_machine.specs.Farm.{wanted, IsOf}
use Rattle.farm_machine.specs.Jobs.{Job, AreLimitsOf}
use Rattle.farm_machine.specs.Moments.{AreMoments}
use Rattle.farm_machine.specs.Numbered.{no_places, added, untimed}
use Rattle.farm_machine.specs.Own.{DoneJob, Each, DoesJobs}
use Rattle.farm_machine.specs.Reading.{IsReadAs, AreRead}
use Rattle.farm_laws.proofs.Drivers.{asc-legal, asc-by}
use Rattle.farm_laws.proofs.Reported.{workers-run}
use Rattle.job_run.proofs.Lists.{moments-append}
use Rattle.job_run.specs.Gives.{LeavesAlone}
use Rattle.job_run.specs.Courses.{IsJobCourse}
use Rattle.farm_machine.specs.Usable.{job_at}
use Rattle.job_driver.specs.Works.{untimed_job, all_acts, AreReportsOf, WorkedOff, AreCaused, CountsGoOn}
use Rattle.course_laws.proofs.Puts.{puts-last}
use Rattle.course_laws.proofs.Staying.{stays-here}
use Rattle.farm_machine.specs.Devices.{Devices}
use Rattle.job_driver.specs.Driven.{reports_by, events_of, acts_by, puts_by, CountsOf, AreWithinLimits, KitDid, JobsRan}
use Rattle.job_run.proofs.Tabled.{is-walked}
use Rattle.job_driver.proofs.Countings.{no_entries, entries-added, entries-untimed, acts-read, counts-read}
use Rattle.job_driver.proofs.Working.{numbers_of}
use Rattle.job_driver.proofs.Drawing.{drawn-append}
use Rattle.job_driver.proofs.Stepping.{numbers-drawn}
use Rattle.job_driver.proofs.Sorting.{SameSums, up-same, up-range, up-from, sum-below}
use Rattle.job_driver.proofs.Joining.{Joins, drawn-sums}
use Rattle.job_driver.proofs.Rising.{Rise, rise-range, rise-drawn, Has, same-reports, rise-by, has-at, has-each, own-by, by-own}
use Rattle.job_driver.proofs.Answering.{reports-each, some-at}
use Rattle.job_driver.proofs.ReportReading.{reads-each, events-numbered, by-worker}

-- a worker with the jobs that it did
abbrev pub WorkedFor : {K : Type 0} → Devices K → (ℕ → Job) → ℕ → Limits 16 → ℕ → List Report → List CallEntry → K → K → List DoneJob
    → Type 0
WorkedFor d jobs period l worker reports mine old new done =
    (w : WorkedOff (d.peers old) (d.programs old) jobs period l worker reports mine (d.shows old) (d.shows new)) × (w.works.done ≡ done)

-- what stays the same of a kit, and that no put is pending
pub record Stays {K : Type 0} (d : Devices K) (old new : K) : Type 0 where
  pub idle : IsIdle (d.shows new).keeper
  pub peers : SameRelation (d.peers old) (d.peers new)
  pub programs : SameRelation3 (d.programs old) (d.programs new)

each-untimed : (jobs : ℕ → Job) (done : List DoneJob) → Each (λ job. IsJobCourse (jobs job.number) (untimed job.acts) job.end) done
    → Each (λ job. Course (jobs job.number) job.acts job.end) (map untimed_job done)
each-untimed jobs [] each = tt
each-untimed jobs (job ∷ done) each = (is-walked (jobs job.number) (untimed job.acts) job.end each.0, each-untimed jobs done each.1)

limits-of-jobs : (l : Limits 16) (words : List (List (List ℕ))) (config : JobConfig) → AreLimitsOf l config.hosts
    → IsOf l (job_at words config)
limits-of-jobs l words config of = record { count = λ j below. sym of.count; local = λ j host below inside. sym (of.local host inside) }

sum-map : (f : ℕ → ℕ) (rs : List Report) → sum_by f (numbers_of rs) ≡ sum_by (λ r. f r.number) rs
sum-map f [] = refl
sum-map f (r ∷ rs) = let a = sum_by-cons f r.number (numbers_of rs) in let b = sum_by-cons (λ (q : Report). f q.number) r rs
    in let c = sum-map f rs in omega (arith, a, b, c)

sum-ones : {X : Type 0} (f : X → ℕ) → ((x : X) → f x ≡ 1) → (xs : List X) → sum_by f xs ≡ length xs
sum-ones f one [] = refl
sum-ones f one (x ∷ xs) = let a = sum_by-cons f x xs in let b = one x in let c = sum-ones f one xs in omega (arith, a, b, c)

-- the last draw draws nothing
drawn-last : (w : ℕ) (calls mine : List CallEntry) → mine ≡ calls ++ entry w Draw (Drawn None) ∷ [] → jobs_drawn mine ≡ jobs_drawn calls
drawn-last w calls mine is = ap jobs_drawn is ∙ drawn-append calls (entry w Draw (Drawn None) ∷ []) ∙ append-nil (jobs_drawn calls)

moments-last : (period w : ℕ) (calls mine : List CallEntry) (moments : List ℕ) → mine ≡ calls ++ entry w Draw (Drawn None) ∷ []
    → AreMoments period calls moments → AreMoments period mine moments
moments-last period w calls mine moments is all =
    subst (λ (es : List CallEntry). AreMoments period es moments) (sym is)
    (subst (λ (ms : List ℕ). AreMoments period (calls ++ entry w Draw (Drawn None) ∷ []) ms) (append-nil moments)
    (moments-append period calls (entry w Draw (Drawn None) ∷ []) moments [] all ([], [], refl, refl, refl)))

-- the report at a place has its number
range-number : (rs : List Report) (a m j : ℕ) (r : Report) → numbers_of rs ≡ range_with_len a m → slice_get rs j ≡ Some r → r.number ≡ a + j
range-number [] a m j r is at = absurd (grind (arith, at))
range-number (q ∷ rs) a zero j r is at = absurd (let e = ap length is in omega (arith, e))
range-number (q ∷ rs) a (suc m) zero r is at =
    let e : q ≡ r = grind (arith, at) in
    let f : q.number ≡ a = ap (λ (ks : List ℕ). get_or ks zero 0) is in
    let g = ap (λ (x : Report). x.number) e in
    omega (arith, f, g)
range-number (q ∷ rs) a (suc m) (suc j) r is at =
    let rest = range-number rs (a + 1) m j r (ap (λ (ks : List ℕ). drop 1 ks) is) at in
    omega (arith, rest)

-- what holds of all holds of the one at a place
all-get : (P : Report → Type 0) (rs : List Report) (j : ℕ) (r : Report) → All P rs → slice_get rs j ≡ Some r → P r
all-get P [] j r all at = absurd (grind (arith, at))
all-get P (q ∷ rs) zero r all at = subst P (let e : q ≡ r = grind (arith, at) in e) (All-head P q rs all)
all-get P (q ∷ rs) (suc j) r all at = all-get P rs j r (All-tail P q rs all) at

abbrev DidInOf : {K : Type 0} → Devices K → K → K → List Act → Type 0
DidInOf d old new acts = DidIn (d.shows old) (d.shows new) (deeds_of acts)

abbrev MayOf : {K : Type 0} → Devices K → K → K → List Act → Type 0
MayOf d old new acts = IsTrue (d.shows new).dialer.exchanges.known → MayAll (d.peers old) (exchanges_in (deeds_of acts))

module _ {K : Type 0} (d : Devices K) (l : Limits 16) (words : List (List (List ℕ))) (config : JobConfig) (n : ℕ) (R : ℕ → List Report)
    (H : List CallEntry) (V N : ℕ → K)
    (some : 0 < n) (valid : AreValid l) (of : AreLimitsOf l config.hosts) (legal : IsLegal l H)
    (others : (caller : ℕ) → n ≤ caller → calls_by caller H ≡ [])
    (worked : (i : ℕ) → i < n → WorkedOff (d.peers (V i)) (d.programs (V i)) (job_at words config) config.period l i (R i) (calls_by i H)
    (d.shows (V i)) (d.shows (N i)))
    (stays : (i : ℕ) → i < n → Stays d (V i) (N i)) where
  abbrev jobs : ℕ → Job
  jobs = job_at words config

  abbrev For : ℕ → List DoneJob → Type 0
  For i done = WorkedFor d jobs config.period l i (R i) (calls_by i H) (V i) (N i) done

  pub family : (i : ℕ) → (done : List DoneJob) × (i < n → For i done)
  family i = elim (cases_lt i n) [
    | inl below ↦ ((worked i below).works.done, λ again. (worked i below, refl))
    | inr above ↦ ([], λ below. absurd (omega (arith, above, below)))
  ]

  pub done : ℕ → List DoneJob
  done i = (family i).0

  facts : (i : ℕ) → i < n → For i (done i)
  unfolding done
  facts i below = (family i).1 below

  all-worked : AllWorked (wanted l) n (λ i. map untimed_job (done i)) H
  all-worked = record {
    some = some;
    each = λ i below.
        let f = facts i below in
        (f.0.calls, subst (λ (ds : List DoneJob). DoesJobs (wanted l) i (map untimed_job ds) f.0.calls) f.1 f.0.works.does, f.0.last);
    others = others;
  }

  pub run : WorkersRun l jobs n (λ i. map untimed_job (done i)) H
  run = workers-run 16 l jobs n (λ i. map untimed_job (done i)) H (limits-of-jobs l words config of) legal all-worked
      (λ i below. let f = facts i below in each-untimed jobs (done i)
      (subst (λ (ds : List DoneJob). Each (λ job. IsJobCourse (jobs job.number) (untimed job.acts) job.end) ds) f.1 f.0.works.courses))

  -- after legal calls no host has more slots given out than its limit
  within : (front : List CallEntry) → IsLegal l front → AreWithinLimits l (outstanding front)
  within front so_far =
      let agree : SlotsAgree l (state_after l front) (outstanding front) = state-agrees 16 l front valid.entries so_far in
      record {
        hosts = λ host below. subst (λ (m : ℕ). m ≤ slice_index l.limit host) (agree.held host below) (agree.limit host below);
        local = subst (λ (m : ℕ). m ≤ l.local_slots) agree.local_held agree.local_limit;
      }

  drawn : (i : ℕ) → i < n → numbers_of (R i) ≡ jobs_drawn (calls_by i H)
  drawn i below =
      let f = worked i below in
      numbers-drawn f.works ∙ sym (drawn-last i f.calls (calls_by i H) f.last)

  drawn-all : (f : ℕ → ℕ) (all : List Report) → Joins n R all → sum_by (λ r. f r.number) all ≡ sum_by f (range_with_len 0 l.jobs)
  drawn-all f all joins =
      joins.sums (λ r. f r.number)
      ∙ sum-below (λ i. sum_by (λ (r : Report). f r.number) (R i)) (λ i. sum_by f (jobs_drawn (calls_by i H))) 0 n
      (λ i below. sym (sum-map f (R i)) ∙ ap (sum_by f) (drawn i (omega (arith, below))))
      ∙ drawn-sums f n H others ∙ ap (sum_by f) run.agrees.drawn

  -- there is one report for each job
  pub total : (all : List Report) → Joins n R all → length all ≡ l.jobs
  total all joins = sym (sum-ones (λ (r : Report). 1) (λ r. refl) all) ∙ drawn-all (λ k. 1) all joins
      ∙ sum-ones (λ (k : ℕ). 1) (λ k. refl) (range_with_len 0 l.jobs) ∙ length-range_with_len 0 l.jobs

  module _ (all sorted : List Report) (joins : Joins n R all) (moved : IsPermutation all sorted)
      (order : IsNonDecreasingBy (λ (r : Report). r.number) sorted) where
    sums : SameSums (numbers_of sorted) (range_with_len 0 l.jobs)
    sums f = sum-map f sorted ∙ sum_by-IsPermutation (λ (r : Report). f r.number) all sorted moved ∙ drawn-all f all joins

    numbers : numbers_of sorted ≡ range_with_len 0 l.jobs
    numbers = up-same 0 0 (numbers_of sorted) (range_with_len 0 l.jobs)
        (up-from (λ (r : Report). r.number) sorted 0 (λ x below. omega arith) order) (up-range 0 l.jobs) sums

    abbrev entries : ℕ → Entries
    entries i = added no_entries (all_acts (done i))

    read-all : All (λ r. IsReadAs entries r r.number run.reports) sorted
    read-all = All-permutation (λ r. IsReadAs entries r r.number run.reports) all sorted moved
        (joins.each (λ r. IsReadAs entries r r.number run.reports)
        (λ i below.
        let f = facts i below in
        reads-each i run.reports entries (done i) no_places no_entries (R i)
        (record { runs = refl; fetches = refl; exchanges = refl; puts = refl }) refl
        (subst (λ (ds : List DoneJob). AreReportsOf i no_places ds (R i)) f.1 f.0.works.reported) (run.reported i below)))

    number-at : (j : ℕ) (r : Report) → slice_get sorted j ≡ Some r → r.number ≡ j
    number-at j r is = let e = range-number sorted 0 l.jobs j r numbers is in omega (arith, e)

    are-read : AreRead l entries sorted run.reports
    are-read = record {
      one = sym (length-map sorted (λ (r : Report). r.number)) ∙ ap length numbers ∙ length-range_with_len 0 l.jobs;
      each = λ j r is. subst (λ (k : ℕ). IsReadAs entries r k run.reports) (number-at j r is)
          (all-get (λ r. IsReadAs entries r r.number run.reports) sorted j r read-all is);
    }

    -- a worker's reports, in the order of the jobs
    pub own : (i : ℕ) → i < n → reports_by i sorted ≡ R i
    own i below =
        let f = worked i below in
        let rise : Rise 0 (numbers_of (R i)) = subst (Rise 0) (sym (drawn i below))
        (rise-drawn (calls_by i H) 0 (asc-by i H 0 (asc-legal l (opening 16) [] H legal))) in
        let rise' : Rise 0 (numbers_of (reports_by i sorted)) = rise-by i 0 sorted (subst (Rise 0) (sym numbers) (rise-range 0 l.jobs)) in
        let by : All (λ r. r.worker ≡ i) (R i) = by-worker i f.works.done no_places (R i) f.works.reported in
        let theirs : All (λ r. r.worker ≡ i → Has r (R i)) sorted = All-permutation (λ r. r.worker ≡ i → Has r (R i)) all sorted moved
        (joins.each (λ r. r.worker ≡ i → Has r (R i)) (λ k inside. others-own i k inside)) in
        let mine : All (λ r. Has r sorted) (R i) = joins.part i below (λ r. Has r sorted)
        (All-permutation (λ r. Has r sorted) sorted all (IsPermutation-sym all sorted moved)
        (λ k x inside. has-at sorted k x inside)) in
        same-reports 0 0 (reports_by i sorted) (R i) rise' rise (by-own i (R i) sorted theirs)
        (own-by i (R i) sorted by (has-each (R i) sorted mine))
      where
        others-own : (i k : ℕ) → k < n → All (λ r. r.worker ≡ i → Has r (R i)) (R k)
        others-own i k inside at x below same =
            let g = worked k inside in
            let by : (get_or (R k) at x).worker ≡ k = by-worker k g.works.done no_places (R k) g.works.reported at x below in
            subst (λ (m : ℕ). Has (get_or (R k) at x) (R m)) (sym by ∙ same) (has-at (R k) at x below)

    pub kit-did : (i : ℕ) → i < n → KitDid d config.period i run.reports sorted (entries i) (calls_by i H) (V i) (N i)
    kit-did i below =
        let f = facts i below in
        let w = f.0 in
        let acts = all_acts (done i) in
        let is : all_acts w.works.done ≡ acts = ap all_acts f.1 in
        record {
          acts = all_acts (done i);
          of_jobs = acts-read i run.reports (done i) no_places (R i)
              (subst (λ (ds : List DoneJob). AreReportsOf i no_places ds (R i)) f.1 w.works.reported) (run.reported i below)
              ∙ ap (acts_by run.reports) (sym (own i below));
          did = subst (λ (told : List Act). DidInOf d (V i) (N i) told) is w.works.did;
          named = ap events_of (own i below) ∙ events-numbered i (done i) no_places (R i)
              (subst (λ (ds : List DoneJob). AreReportsOf i no_places ds (R i)) f.1 w.works.reported);
          entries_are = entries-added (all_acts (done i));
          drew = record { before = w.calls; last = w.last };
          moments = subst (λ (told : List Act). AreMoments config.period (calls_by i H) (moments_in (deeds_of told))) is
              (moments-last config.period i w.calls (calls_by i H) (moments_in (deeds_of (all_acts w.works.done))) w.last w.works.moments);
          leaves = subst (LeavesAlone config.period) is w.works.leaves;
          may = subst (λ (told : List Act). MayOf d (V i) (N i) told) is w.works.may;
          ran = subst (AllRan (d.programs (V i))) is w.works.ran;
          caused = subst (λ (rs : List Report). AreCaused rs (d.shows (V i)) (d.shows (N i))) (sym (own i below)) w.works.caused;
          later = w.works.later;
          idle = (stays i below).idle;
          peers = (stays i below).peers;
          programs = (stays i below).programs;
        }

    counts-of : (i : ℕ) → i < n → CountsOf jobs run.reports (reports_by i sorted) (d.shows (V i)) (d.shows (N i))
    counts-of i below =
        let f = facts i below in
        subst (λ (rs : List Report). CountsOf jobs run.reports rs (d.shows (V i)) (d.shows (N i))) (sym (own i below))
        (counts-read jobs i run.reports (done i) no_places (R i) (d.shows (V i)) (d.shows (N i))
        (subst (λ (ds : List DoneJob). AreReportsOf i no_places ds (R i)) f.1 f.0.works.reported) (run.reported i below)
        (subst (λ (ds : List DoneJob). CountsGoOn jobs ds (d.shows (V i)) (d.shows (N i))) f.1 f.0.works.counts))

    -- a worker's new puts are those of its jobs
    puts-of : (i : ℕ) → i < n → Grew (d.shows (V i)).keeper.puts (d.shows (N i)).keeper.puts (puts_by run.reports (reports_by i sorted))
    puts-of i below =
        let k = kit-did i below in
        let same : puts_in (deeds_of k.acts) ≡ puts_by run.reports (reports_by i sorted) =
        ap (λ (es : Entries). es.puts) (sym (entries-untimed k.acts)) ∙ ap (λ (acts : List Act). puts_in (deeds_of acts)) k.of_jobs in
        subst (λ (ps : List Put). Grew (d.shows (V i)).keeper.puts (d.shows (N i)).keeper.puts ps) same k.did.puts

    -- what holds of the acts and ends of each worker's jobs holds of those of each job
    told-each : (Q : ℕ → ℕ → List Act → End → Type 0) → ((i : ℕ) → i < n
        → Each (λ job. Q i job.number (untimed job.acts) job.end) (done i)) → (j : ℕ) → j < l.jobs
        → Q (run.reports.worker j) j (run.reports.acts j) (run.reports.ends j)
    told-each Q each j below =
        let told : All (λ r. Q (run.reports.worker r.number) r.number (run.reports.acts r.number)
        (run.reports.ends r.number)) sorted = All-permutation
        (λ r. Q (run.reports.worker r.number) r.number (run.reports.acts r.number) (run.reports.ends r.number)) all sorted moved
        (joins.each (λ r. Q (run.reports.worker r.number) r.number (run.reports.acts r.number) (run.reports.ends r.number))
        (λ i inside.
        let f = facts i inside in
        by-reports i (R i) (reports-each (Q i) i run.reports (done i) no_places (R i)
        (subst (λ (ds : List DoneJob). AreReportsOf i no_places ds (R i)) f.1 f.0.works.reported) (run.reported i inside)
        (each i inside)))) in
        let here = some-at sorted j (let one = are-read.one in omega (arith, one, below)) in
        subst (λ (k : ℕ). Q (run.reports.worker k) k (run.reports.acts k) (run.reports.ends k)) (number-at j here.0 here.1)
        (all-get (λ r. Q (run.reports.worker r.number) r.number (run.reports.acts r.number)
        (run.reports.ends r.number)) sorted j here.0 told here.1)
      where
        by-reports : (i : ℕ) (rs : List Report) → All (λ r. (run.reports.worker r.number ≡ i)
            × Q i r.number (run.reports.acts r.number) (run.reports.ends r.number)) rs
            → All (λ r. Q (run.reports.worker r.number) r.number (run.reports.acts r.number) (run.reports.ends r.number)) rs
        by-reports i rs own at x inside = let one = own at x inside
            in subst (λ (k : ℕ). Q k (get_or rs at x).number (run.reports.acts (get_or rs at x).number)
            (run.reports.ends (get_or rs at x).number)) (sym one.0) one.1

    courses-each : (j : ℕ) → j < l.jobs → IsJobCourse (jobs j) (run.reports.acts j) (run.reports.ends j)
    courses-each j below = told-each (λ i k acts end. IsJobCourse (jobs k) acts end) theirs j below
      where
        theirs : (i : ℕ) → i < n → Each (λ job. IsJobCourse (jobs job.number) (untimed job.acts) job.end) (done i)
        theirs i inside =
            let f = facts i inside in
            subst (λ (ds : List DoneJob). Each (λ job. IsJobCourse (jobs job.number) (untimed job.acts) job.end) ds) f.1 f.0.works.courses

    pub ran-all : (last : SlotState 16) (old new : List K) → last ≡ state_after l H
        → ((i : ℕ) (other : K) → i < n → (get_or old i other ≡ V i) × (get_or new i other ≡ N i))
        → length new ≡ length old
        → ((place : ℕ) (other : K) → n ≤ place → place < length old → get_or new place other ≡ get_or old place other)
        → JobsRan d l jobs config.period n sorted H last old new
    ran-all last old new last_is kits same unused =
        record {
          valid = valid;
          entries = entries;
          read = run.reports;
          are_read = are-read;
          by_workers = run.workers;
          courses = courses-each;
          agrees = run.agrees;
          run = run.run;
          delivered = λ j before rest x below is.
              puts-last (jobs j) before x rest (run.reports.ends j)
              (subst (λ (acts : List Act). Course (jobs j) acts (run.reports.ends j)) is (run.courses j below));
          stays_here = λ j below here. stays-here (jobs j) (run.reports.acts j) (run.reports.ends j) here (run.courses j below);
          never_above = λ front rest is. within front (legal-front l (opening 16) [] front rest
              (subst (λ (es : List CallEntry). IsLegal l es) is legal));
          back = run.back;
          others = others;
          puts_are = λ i other below.
              let k = kits i other below in
              let ps = puts_by run.reports (reports_by i sorted) in
              subst (λ (x : K). Grew (d.shows x).keeper.puts (d.shows (get_or new i other)).keeper.puts ps) (sym k.0)
              (subst (λ (x : K). Grew (d.shows (V i)).keeper.puts (d.shows x).keeper.puts ps) (sym k.1) (puts-of i below));
          counts = λ i other below.
              let k = kits i other below in
              subst (λ (x : K). CountsOf jobs run.reports (reports_by i sorted) (d.shows x) (d.shows (get_or new i other))) (sym k.0)
              (subst (λ (x : K). CountsOf jobs run.reports (reports_by i sorted) (d.shows (V i)) (d.shows x)) (sym k.1)
              (counts-of i below));
          last_is = last_is;
          kits = λ i other below.
              let k = kits i other below in
              subst (λ (x : K). KitDid d config.period i run.reports sorted (entries i) (calls_by i H) x (get_or new i other)) (sym k.0)
              (subst (λ (x : K). KitDid d config.period i run.reports sorted (entries i) (calls_by i H) (V i) x) (sym k.1)
              (kit-did i below));
          same = same;
          unused = unused;
        }
