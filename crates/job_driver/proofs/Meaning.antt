-- What every run of jobs means.
use Rattle.std.proofs.Common.{◌≡◌, ℕ, ◌<◌, true, false, IsTrue, List, ◌∷◌, Some, ap, ◌∙◌, subst, arith}
use Rattle.std.specs.Prelude.{All, slice_get, slice_index, slice_index_or, None}
use Rattle.slot_table.specs.declared.limits.Limits.{Limits}
use Rattle.slot_table.specs.declared.state.SlotState.{SlotState}
use Rattle.slot_table.specs.declared.calls.CallEntry.{CallEntry}
use Rattle.slot_table.specs.History.{state_after, outstanding, count_at, calls_by}
use Rattle.slot_table.specs.Laws.{SlotsAgree}
use Rattle.slot_table.proofs.Keeps.{state-agrees}
use Rattle.edge_traits.specs.Deeds.{put}
use Rattle.edge_traits.specs.Kits.{KitView}
use Rattle.farm_machine.specs.declared.reports.End.{End}
use Rattle.farm_machine.specs.declared.reports.Report.{Report}
use Rattle.farm_machine.specs.Acts.{Act, Did}
use Rattle.farm_machine.specs.Course.{Course}
use Rattle.farm_machine.specs.Honest.{Peers, Programs, AllRan}
use Rattle.farm_machine.specs.Jobs.{Job}
use Rattle.farm_machine.specs.Reading.{IsReadAs}
use Rattle.course_laws.specs.Answers.{AllGiven, AnswersBy}
use Rattle.course_laws.specs.Laws.{is_own_end}
use Rattle.course_laws.specs.Returns.{IsCalm, is_done_or_wanted, NoneBroke, IsUnbroken}
use Rattle.course_laws.proofs.Compilers.{put-answer, end-answer}
use Rattle.course_laws.proofs.Fallbacks.{own as never-by-host}
use Rattle.course_laws.proofs.Given.{given-front, ran-front, given-untimed, ran-untimed}
use Rattle.course_laws.proofs.Unbroken.{unbroken-law}
use Rattle.farm_laws.proofs.Draws.{next-all}
use Rattle.farm_laws.proofs.Up.{up-law}
use Rattle.job_run.proofs.Tabled.{is-walked}
use Rattle.farm_machine.specs.Devices.{Devices}
use Rattle.job_driver.specs.Driven.{reports_by, KitDid, JobsRan}
use Rattle.job_driver.specs.Means.{HasAnswers, RunMeans, RunMeansLaw}
use Rattle.job_driver.specs.Works.{ends_so, is_station_failure, is_keeper_failure, is_fetch_failure}
use Rattle.job_driver.proofs.Countings.{stands-by, found-by}
use Rattle.job_driver.proofs.Answering.{all-own, given-by, ran-by, calm-by, none-together, none-in-all, returned-well, some-at}

module _ {K : Type 0} (d : Devices K) (l : Limits 16) (jobs : ℕ → Job) (period workers : ℕ) (reports : List Report)
    (history : List CallEntry) (last : SlotState 16) (old new : List K)
    (ran : JobsRan d l jobs period workers reports history last old new) where
  abbrev worker : ℕ → ℕ
  worker j = ran.read.worker j

  abbrev acts : ℕ → List Act
  acts j = ran.read.acts j

  abbrev end : ℕ → End
  end j = ran.read.ends j

  -- the kit of a job's worker, before and after
  abbrev before_kit : ℕ → K → K
  before_kit j other = slice_index_or old (worker j) other

  abbrev after_kit : ℕ → K → K
  after_kit j other = slice_index_or new (worker j) other

  abbrev peers : ℕ → K → Peers
  peers j other = d.peers (before_kit j other)

  abbrev programs : ℕ → K → Programs
  programs j other = d.programs (before_kit j other)

  report-at : (j : ℕ) → j < l.jobs → (r : Report) × (slice_get reports j ≡ Some r)
  report-at j below = some-at reports j (let one = ran.are_read.one in omega (arith, one, below))

  read-at : (j : ℕ) (below : j < l.jobs) → IsReadAs ran.entries (report-at j below).0 j ran.read
  read-at j below = ran.are_read.each j (report-at j below).0 (report-at j below).1

  -- what holds of all reports of a job's worker holds of the job's
  of-worker : (P : Report → Type 0) (j : ℕ) (below : j < l.jobs) → All P (reports_by (worker j) reports) → P (report-at j below).0
  of-worker P j below all =
      all-own P (worker j) reports j (report-at j below).0 all (report-at j below).1 (read-at j below).worker

  kit : (j : ℕ) (other : K) → j < l.jobs
      → KitDid d period (worker j) ran.read reports (ran.entries (worker j)) (calls_by (worker j) history)
      (before_kit j other) (after_kit j other)
  kit j other below = ran.kits (worker j) other (ran.by_workers j below)

  course : (j : ℕ) → j < l.jobs → Course (jobs j) (acts j) (end j)
  course j below = is-walked (jobs j) (acts j) (end j) (ran.courses j below)

  gave : (j : ℕ) (other : K) → j < l.jobs → IsTrue (d.shows (after_kit j other)).dialer.exchanges.known
      → AllGiven (peers j other) (acts j)
  gave j other below known =
      let did = kit j other below in
      let mine = reports_by (worker j) reports in
      subst (λ (k : ℕ). AllGiven (peers j other) (acts k)) (read-at j below).number
      (of-worker (λ r. AllGiven (peers j other) (acts r.number)) j below
      (given-by (peers j other) ran.read mine
      (subst (AllGiven (peers j other)) did.of_jobs (given-untimed (peers j other) did.acts (did.may known)))))

  left : (j : ℕ) (other : K) → j < l.jobs → AllRan (programs j other) (acts j)
  left j other below =
      let did = kit j other below in
      let mine = reports_by (worker j) reports in
      subst (λ (k : ℕ). AllRan (programs j other) (acts k)) (read-at j below).number
      (of-worker (λ r. AllRan (programs j other) (acts r.number)) j below
      (ran-by (programs j other) ran.read mine
      (subst (AllRan (programs j other)) did.of_jobs (ran-untimed (programs j other) did.acts did.ran))))

  -- a job that no host fails
  well : (j : ℕ) (other : K) → j < l.jobs → is_own_end (end j) ≡ true
      → IsCalm (d.shows (before_kit j other)) (d.shows (after_kit j other)) → is_done_or_wanted (end j) ≡ true
  well j other below own calm =
      let caused = (kit j other below).caused in
      let a : KitView = d.shows (before_kit j other) in
      let c : KitView = d.shows (after_kit j other) in
      let mine = reports_by (worker j) reports in
      let station = of-worker (λ r. is_station_failure r.end ≡ false) j below
      (calm-by is_station_failure mine
      (none-in-all (ends_so is_station_failure mine) a.station.faults c.station.faults a.station.overruns c.station.overruns
      caused.station calm.station calm.station_overruns)) in
      let keeper = of-worker (λ r. is_keeper_failure r.end ≡ false) j below
      (calm-by is_keeper_failure mine
      (none-together (ends_so is_keeper_failure mine) a.keeper.faults c.keeper.faults a.keeper.overruns c.keeper.overruns
      caused.keeper calm.keeper calm.keeper_overruns)) in
      let is = (read-at j below).end in
      returned-well (end j) own (subst (λ (e : End). is_station_failure e ≡ false) is station)
      (subst (λ (e : End). is_keeper_failure e ≡ false) is keeper)

  unbroken : ((i : ℕ) → i < l.jobs → NoneBroke (jobs i) (acts i)) → (i : ℕ) → i < l.jobs → IsUnbroken (acts i) (end i)
  unbroken none i below = unbroken-law (jobs i) (acts i) (end i) (course i below) (none i below)

  own : (j : ℕ) → j < l.jobs → 0 < l.count → ((i : ℕ) → i < l.jobs → NoneBroke (jobs i) (acts i)) → is_own_end (end j) ≡ true
  own j below some none =
      (unbroken none j below).own (up-law 16 l ran.read history some ran.agrees (λ i inside. (unbroken none i inside).asks) j below)

  objects : (j : ℕ) (other : K) → j < l.jobs
      → HasAnswers (peers j other) (programs j other) (d.shows (after_kit j other)) (jobs j) (acts j)
  objects j other below before rest x known honest is =
      put-answer (peers j other) (programs j other) (jobs j) before x rest (end j) honest
      (given-front (peers j other) before (Did (put x) ∷ rest) (subst (AllGiven (peers j other)) is (gave j other below known)))
      (ran-front (programs j other) before (Did (put x) ∷ rest) (subst (AllRan (programs j other)) is (left j other below)))
      (subst (λ (xs : List Act). Course (jobs j) xs (end j)) is (course j below))

  ends : (j : ℕ) (other : K) → j < l.jobs
      → AnswersBy (peers j other) (programs j other) (d.shows (after_kit j other)) (jobs j) (acts j) (end j)
  ends j other below known honest =
      end-answer (peers j other) (programs j other) (jobs j) (acts j) (end j) honest
      (gave j other below known) (left j other below) (course j below)

  agree : SlotsAgree l (state_after l history) (outstanding history)
  agree = state-agrees 16 l history ran.valid.entries ran.agrees.legal

  pub meaning : RunMeans d l jobs workers reports ran.read last old new
  meaning = record {
    courses = course;
    of_table = λ j below. (ran.courses j below).of_table;
    all_drawn = ap (λ (s : SlotState 16). s.next) ran.last_is ∙ next-all l history ran.agrees.legal ran.agrees.drawn;
    none_held = λ host below.
        ap (λ (s : SlotState 16). slice_index s.held host) ran.last_is ∙ agree.held host below ∙ ap (count_at (Some host)) ran.back;
    none_local = ap (λ (s : SlotState 16). s.local_held) ran.last_is ∙ agree.local_held ∙ ap (count_at None) ran.back;
    may_give = gave;
    may_leave = left;
    honest_objects = objects;
    honest_ends = ends;
    returns = λ j other below fallback calm.
        well j other below (never-by-host (jobs j) (acts j) (end j) (course j below) fallback) calm;
    returns_unbroken = λ j other below some none calm. well j other below (own j below some none) calm;
    stands = λ i other below none.
        stands-by jobs ran.read (reports_by i reports) (d.shows (slice_index_or old i other)) (d.shows (slice_index_or new i other))
        (calm-by is_station_failure (reports_by i reports) none) (ran.counts i other below);
    found = λ i other below none.
        found-by jobs ran.read (reports_by i reports) (d.shows (slice_index_or old i other)) (d.shows (slice_index_or new i other))
        (calm-by is_fetch_failure (reports_by i reports) none) (ran.counts i other below);
  }

pub means : {K : Type 0} (d : Devices K) → RunMeansLaw d
means d l jobs period workers reports history last old new ran =
    meaning d l jobs period workers reports history last old new ran
