-- One job more of a worker.
use Rattle.std.proofs.Common.{◌≡◌, inl, inr, ℕ, ◌+◌, ◌*◌, ◌<◌, ◌≤◌, Bool, cond, List, [], ◌∷◌, ◌++◌, Some, length, map, refl, sym, ap, ◌∙◌}
use Rattle.std.proofs.Common.{subst, append_assoc, arith}
use Rattle.std.specs.Prelude.{All}
use Rattle.std.proofs.lemmas.List.{append-nil}
use Rattle.std.proofs.lemmas.List.Sums.{sum_by-append}
use Rattle.slot_table.specs.declared.limits.Limits.{Limits}
use Rattle.slot_table.specs.declared.calls.CallEntry.{CallEntry}
use Rattle.slot_table.specs.declared.calls.SlotCall.TheVariants.{Draw}
use Rattle.slot_table.specs.declared.calls.SlotReply.TheVariants.{Drawn}
use Rattle.slot_table.specs.History.{entry}
use Rattle.edge_traits.specs.declared.cause.Cause.TheVariants.{Dial, Send as CutSend, Recv, Truncated, BadReply, Stopped}
use Rattle.edge_traits.specs.Causes.{Rose, RoseBy, RoseJust, OneRose, Still}
use Rattle.edge_traits.specs.Keepers.{KeeperView}
use Rattle.edge_traits.specs.Stations.{StationView, StationStill}
use Rattle.edge_traits.specs.Kits.{KitView}
use Rattle.edge_traits.proofs.CountLemmas.{RoseBy-then, RoseBy-later, just-once}
use Rattle.farm_machine.specs.declared.reports.Why5.TheVariants.{Station, Put, Broke, NoHost, Memory, Fetch}
use Rattle.farm_machine.specs.declared.reports.End.{End}
use Rattle.farm_machine.specs.declared.reports.End.TheVariants.{Done, Failed}
use Rattle.farm_machine.specs.declared.reports.Places.{Places}
use Rattle.farm_machine.specs.declared.reports.Report.{Report}
use Rattle.farm_machine.specs.Acts.{Act, slots_of}
use Rattle.farm_machine.specs.Causes.{HasEndCause, StationStands, KitLater}
use Rattle.farm_machine.specs.Honest.{Peers, Programs}
use Rattle.farm_machine.specs.Jobs.{Job}
use Rattle.farm_machine.specs.Machine.{Wants}
use Rattle.farm_machine.specs.Numbered.{advanced, no_places}
use Rattle.farm_machine.specs.Own.{DoneJob, Each, Serves, DoesJobs}
use Rattle.job_run.specs.Events.{events_max}
use Rattle.job_run.specs.Stands.{KeeperStands}
use Rattle.job_run.proofs.Lists.{advanced-append}
use Rattle.job_driver.specs.Works.{all_acts, IsReportOf, AreReportsOf, is_station_failure, is_keeper_failure, is_put_failure}
use Rattle.job_driver.specs.Works.{is_fetch_failure, is_dial_failure, ends_so, RoseTogether, RoseInAll, RoseUpTo, AreCaused, Works}

-- what a worker did so far, and the places that come next
pub record WorksTo {h : ℕ} (peers : Peers) (programs : Programs) (jobs : ℕ → Job) (period : ℕ) (l : Limits h) (worker : ℕ)
    (reports : List Report) (calls : List CallEntry) (old new : KitView) (places : Places) : Type 0 where
  pub works : Works peers programs jobs period l worker reports calls old new
  pub places_are : places ≡ advanced no_places (all_acts works.done)

abbrev pub numbers_of : List Report → List ℕ
numbers_of reports = map (λ report. report.number) reports

-- whatever is above all numbers of the reports is no less than how many they are
abbrev pub AreFew : List Report → Type 0
AreFew reports = (bound : ℕ) → All (λ number. number < bound) (numbers_of reports) → length reports ≤ bound

abbrev pub AreWithin : ℕ → List Report → Type 0
AreWithin jobs reports = All (λ number. number < jobs) (numbers_of reports)

-- a job adds at most `events_max` entries of each kind
pub record AreCounted (places : Places) (reports : List Report) : Type 0 where
  pub runs : places.runs ≤ events_max * length reports
  pub fetches : places.fetches ≤ events_max * length reports
  pub exchanges : places.exchanges ≤ events_max * length reports
  pub puts : places.puts ≤ events_max * length reports

-- lists with one element more
pub acts-more : (done : List DoneJob) (job : DoneJob) → all_acts (done ++ job ∷ []) ≡ all_acts done ++ job.acts
acts-more [] job = append-nil job.acts
acts-more (d ∷ done) job = ap (λ (acts : List Act). d.acts ++ acts) (acts-more done job)
    ∙ sym (append_assoc d.acts (all_acts done) job.acts)

pub each-more : (P : DoneJob → Type 0) (done : List DoneJob) (job : DoneJob) → Each P done → P job → Each P (done ++ job ∷ [])
each-more P [] job all one = (one, tt)
each-more P (d ∷ done) job all one = (all.0, each-more P done job all.1 one)

pub reports-more : (w : ℕ) (done : List DoneJob) (at : Places) (rs : List Report) (job : DoneJob) (r : Report)
    → AreReportsOf w at done rs → IsReportOf w (advanced at (all_acts done)) job r → AreReportsOf w at (done ++ job ∷ []) (rs ++ r ∷ [])
reports-more w [] at [] job r all one = (one, tt)
reports-more w [] at (q ∷ rs) job r all one = absurd all
reports-more w (d ∷ done) at [] job r all one = absurd all
reports-more w (d ∷ done) at (q ∷ rs) job r all one = (
  all.0,
  reports-more w done (advanced at d.acts) rs job r all.1
      (subst (λ (p : Places). IsReportOf w p job r) (advanced-append at d.acts (all_acts done)) one),
)

pub does-more : (wants : Wants) (w : ℕ) (done : List DoneJob) (es calls : List CallEntry) (job : DoneJob)
    → DoesJobs wants w done es → Serves wants w job.number [] (slots_of job.acts) calls
    → DoesJobs wants w (done ++ job ∷ []) (es ++ entry w Draw (Drawn (Some job.number)) ∷ calls)
does-more wants w [] es calls job does serves = (
  calls,
  [],
  ap (λ (xs : List CallEntry). xs ++ entry w Draw (Drawn (Some job.number)) ∷ calls) does
      ∙ ap (λ (xs : List CallEntry). entry w Draw (Drawn (Some job.number)) ∷ xs) (sym (append-nil calls)),
  serves,
  refl,
)
does-more wants w (d ∷ done) es calls job (first, more, is, serves, rest) s =
    let e : CallEntry = entry w Draw (Drawn (Some job.number)) in
    let f : CallEntry = entry w Draw (Drawn (Some d.number)) in (
      first,
      more ++ e ∷ calls,
      ap (λ (xs : List CallEntry). xs ++ e ∷ calls) is
          ∙ ap (λ (xs : List CallEntry). f ∷ xs) (append_assoc first more (e ∷ calls)),
      serves,
      does-more wants w done more calls job rest s,
    )

-- counts with one report more
one-more : (is : End → Bool) (rs : List Report) (r : Report) → ends_so is (rs ++ r ∷ []) ≡ ends_so is rs + cond (is r.end) 1 0
one-more is rs r = let s = sum_by-append (λ (q : Report). cond (is q.end) 1 0) rs (r ∷ []) in grind (arith, s)

rose-none : (n m a b c : ℕ) → m ≡ n + 0 → RoseBy n a b → b ≤ c → RoseBy m a c
rose-none n m a b c is rose later = subst (λ (k : ℕ). RoseBy k a c) (let e : n ≡ m = omega (arith, is) in e)
    (RoseBy-later n a b c rose later)

rose-one : (n m a b c : ℕ) → m ≡ n + 1 → RoseBy n a b → Rose b c → RoseBy m a c
rose-one n m a b c is rose more = subst (λ (k : ℕ). RoseBy k a c) (sym is) (RoseBy-then n 1 a b c rose more)

both-later : (n m a b c a' b' c' : ℕ) → m ≡ n + 0 → RoseTogether n a b a' b' → b ≤ c → b' ≤ c' → RoseTogether m a c a' c'
both-later n m a b c a' b' c' is rose later later' = record {
  first = rose.first;
  second = rose.second;
  enough = let e = rose.enough in omega (arith, e, is);
  rose = RoseBy-later rose.first a b c rose.rose later;
  rose_too = RoseBy-later rose.second a' b' c' rose.rose_too later';
}

both-first : (n m a b c a' b' c' : ℕ) → m ≡ n + 1 → RoseTogether n a b a' b' → Rose b c → b' ≤ c' → RoseTogether m a c a' c'
both-first n m a b c a' b' c' is rose more later' = record {
  first = rose.first + 1;
  second = rose.second;
  enough = let e = rose.enough in omega (arith, e, is);
  rose = RoseBy-then rose.first 1 a b c rose.rose more;
  rose_too = RoseBy-later rose.second a' b' c' rose.rose_too later';
}

both-second : (n m a b c a' b' c' : ℕ) → m ≡ n + 1 → RoseTogether n a b a' b' → b ≤ c → Rose b' c' → RoseTogether m a c a' c'
both-second n m a b c a' b' c' is rose later more = record {
  first = rose.first;
  second = rose.second + 1;
  enough = let e = rose.enough in omega (arith, e, is);
  rose = RoseBy-later rose.first a b c rose.rose later;
  rose_too = RoseBy-then rose.second 1 a' b' c' rose.rose_too more;
}

module _ (n n' : ℕ) (a b c : StationView) (rose : RoseInAll n a.faults b.faults a.overruns b.overruns) where
  abbrev StationRose : Type 0
  StationRose = RoseInAll n' a.faults c.faults a.overruns c.overruns

  station-same : n' ≡ n + 0 → StationStill b c → StationRose
  station-same is still = record {
    first = rose.first;
    second = rose.second;
    all = let all = rose.all in omega (arith, all, is);
    rose = subst (RoseJust rose.first a.faults) (sym still.faults) rose.rose;
    rose_too = subst (RoseJust rose.second a.overruns) (sym still.overruns) rose.rose_too;
  }

  station-once : n' ≡ n + 1 → OneRose b.faults c.faults b.overruns c.overruns → StationRose
  station-once is once = elim once [
    | inl h ↦ record {
      first = rose.first + 1;
      second = rose.second;
      all = let all = rose.all in omega (arith, all, is);
      rose = just-once rose.first a.faults b.faults c.faults rose.rose h.0;
      rose_too = subst (RoseJust rose.second a.overruns) (sym h.1) rose.rose_too;
    }
    | inr h ↦ record {
      first = rose.first;
      second = rose.second + 1;
      all = let all = rose.all in omega (arith, all, is);
      rose = subst (RoseJust rose.first a.faults) (sym h.0) rose.rose;
      rose_too = just-once rose.second a.overruns b.overruns c.overruns rose.rose_too h.1;
    }
  ]

  pub station-more : (end : End) → n' ≡ n + cond (is_station_failure end) 1 0 → StationStands end b c → StationRose
  station-more (Failed Station) is stands = station-once is stands
  station-more (Done status note err out by) is stands = station-same is stands
  station-more (Failed Put) is stands = station-same is stands
  station-more (Failed Fetch) is stands = station-same is stands
  station-more (Failed (Broke host why)) is stands = station-same is stands
  station-more (Failed NoHost) is stands = station-same is stands
  station-more (Failed Memory) is stands = station-same is stands

module _ (n n' : ℕ) (acts : List Act) (a b c : KeeperView) (rose : RoseUpTo n a.overruns b.overruns) where
  missing-same : n ≤ n' → Still b.overruns c.overruns → RoseUpTo n' a.overruns c.overruns
  missing-same is still = record {
    by = rose.by;
    most = let most = rose.most in omega (arith, most, is);
    rose = subst (RoseJust rose.by a.overruns) (sym still) rose.rose;
  }

  pub missing-more : (end : End) → n' ≡ n + cond (is_fetch_failure end) 1 0 → KeeperStands end acts b c
      → RoseUpTo n' a.overruns c.overruns
  missing-more (Failed Fetch) is stands = elim stands [
    | inl still ↦ missing-same (omega (arith, is)) still
    | inr once ↦ record {
      by = rose.by + 1;
      most = let most = rose.most in omega (arith, most, is);
      rose = just-once rose.by a.overruns b.overruns c.overruns rose.rose once;
    }
  ]
  missing-more (Done status note err out by) is stands = missing-same (omega (arith, is)) stands.overruns
  missing-more (Failed Put) is stands = missing-same (omega (arith, is)) stands
  missing-more (Failed Station) is stands = missing-same (omega (arith, is)) stands.overruns
  missing-more (Failed (Broke host why)) is stands = missing-same (omega (arith, is)) stands.overruns
  missing-more (Failed NoHost) is stands = missing-same (omega (arith, is)) stands.overruns
  missing-more (Failed Memory) is stands = missing-same (omega (arith, is)) stands.overruns

module _ (n n' : ℕ) (a b c : KitView) (rose : RoseTogether n a.keeper.faults b.keeper.faults a.keeper.overruns b.keeper.overruns)
    (later : KitLater b c) where
  abbrev KeeperRose : Type 0
  KeeperRose = RoseTogether n' a.keeper.faults c.keeper.faults a.keeper.overruns c.keeper.overruns

  keeper-same : n' ≡ n + 0 → KeeperRose
  keeper-same is = both-later n n' a.keeper.faults b.keeper.faults c.keeper.faults a.keeper.overruns b.keeper.overruns c.keeper.overruns is
      rose later.keeper later.keeper_overruns

  keeper-first : n' ≡ n + 1 → Rose b.keeper.faults c.keeper.faults → KeeperRose
  keeper-first is r = both-first n n' a.keeper.faults b.keeper.faults c.keeper.faults a.keeper.overruns b.keeper.overruns c.keeper.overruns
      is rose r later.keeper_overruns

  pub keeper-more : (end : End) → n' ≡ n + cond (is_keeper_failure end) 1 0 → HasEndCause end b c → KeeperRose
  keeper-more (Failed Put) is cause = keeper-first is cause
  keeper-more (Failed Fetch) is cause = elim cause [
    | inl r ↦ keeper-first is r
    | inr r ↦ both-second n n' a.keeper.faults b.keeper.faults c.keeper.faults a.keeper.overruns b.keeper.overruns c.keeper.overruns is rose
        later.keeper r
  ]
  keeper-more (Done status note err out by) is cause = keeper-same is
  keeper-more (Failed Station) is cause = keeper-same is
  keeper-more (Failed (Broke host why)) is cause = keeper-same is
  keeper-more (Failed NoHost) is cause = keeper-same is
  keeper-more (Failed Memory) is cause = keeper-same is

module _ (n n' : ℕ) (a b c : KitView) (rose : RoseBy n a.dialer.faults b.dialer.faults) (later : KitLater b c) where
  dialer-same : n' ≡ n + 0 → RoseBy n' a.dialer.faults c.dialer.faults
  dialer-same is = rose-none n n' a.dialer.faults b.dialer.faults c.dialer.faults is rose later.dialer

  pub dialer-more : (end : End) → n' ≡ n + cond (is_dial_failure end) 1 0 → HasEndCause end b c → RoseBy n' a.dialer.faults c.dialer.faults
  dialer-more (Failed (Broke host Dial)) is cause = rose-one n n' a.dialer.faults b.dialer.faults c.dialer.faults is rose cause
  dialer-more (Failed (Broke host CutSend)) is cause = dialer-same is
  dialer-more (Failed (Broke host Recv)) is cause = dialer-same is
  dialer-more (Failed (Broke host (Truncated have))) is cause = dialer-same is
  dialer-more (Failed (Broke host (BadReply at fault))) is cause = dialer-same is
  dialer-more (Failed (Broke host Stopped)) is cause = dialer-same is
  dialer-more (Done status note err out by) is cause = dialer-same is
  dialer-more (Failed Station) is cause = dialer-same is
  dialer-more (Failed Put) is cause = dialer-same is
  dialer-more (Failed Fetch) is cause = dialer-same is
  dialer-more (Failed NoHost) is cause = dialer-same is
  dialer-more (Failed Memory) is cause = dialer-same is

module _ (n n' : ℕ) (a b c : KitView) (rose : RoseBy n a.keeper.faults b.keeper.faults) (later : KitLater b c) where
  put-same : n' ≡ n + 0 → RoseBy n' a.keeper.faults c.keeper.faults
  put-same is = rose-none n n' a.keeper.faults b.keeper.faults c.keeper.faults is rose later.keeper

  pub put-more : (end : End) → n' ≡ n + cond (is_put_failure end) 1 0 → HasEndCause end b c → RoseBy n' a.keeper.faults c.keeper.faults
  put-more (Failed Put) is cause = rose-one n n' a.keeper.faults b.keeper.faults c.keeper.faults is rose cause
  put-more (Done status note err out by) is cause = put-same is
  put-more (Failed Station) is cause = put-same is
  put-more (Failed (Broke host why)) is cause = put-same is
  put-more (Failed Fetch) is cause = put-same is
  put-more (Failed NoHost) is cause = put-same is
  put-more (Failed Memory) is cause = put-same is

pub caused-more : (rs : List Report) (r : Report) (acts : List Act) (a b c : KitView) → AreCaused rs a b → HasEndCause r.end b c
    → StationStands r.end b.station c.station → KeeperStands r.end acts b.keeper c.keeper → KitLater b c → AreCaused (rs ++ r ∷ []) a c
caused-more rs r acts a b c all cause station keeper later = record {
  station = station-more (ends_so is_station_failure rs) (ends_so is_station_failure (rs ++ r ∷ [])) a.station b.station c.station
      all.station r.end (one-more is_station_failure rs r) station;
  missing = missing-more (ends_so is_fetch_failure rs) (ends_so is_fetch_failure (rs ++ r ∷ [])) acts a.keeper b.keeper c.keeper
      all.missing r.end (one-more is_fetch_failure rs r) keeper;
  keeper = keeper-more (ends_so is_keeper_failure rs) (ends_so is_keeper_failure (rs ++ r ∷ [])) a b c all.keeper later r.end
      (one-more is_keeper_failure rs r) cause;
  puts = put-more (ends_so is_put_failure rs) (ends_so is_put_failure (rs ++ r ∷ [])) a b c all.puts later r.end
      (one-more is_put_failure rs r) cause;
  dialer = dialer-more (ends_so is_dial_failure rs) (ends_so is_dial_failure (rs ++ r ∷ [])) a b c all.dialer later r.end
      (one-more is_dial_failure rs r) cause;
}
