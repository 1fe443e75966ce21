-- The entries of jobs, and how the counts of a kit go on from job to job.
use Rattle.std.proofs.Common.{◌≡◌, ℕ, false, List, [], ◌∷◌, ◌++◌, map, refl, sym, ap, ◌∙◌, subst, append_assoc}
use Rattle.std.specs.Prelude.{All}
use Rattle.std.proofs.lemmas.Bool.{true≢false}
use Rattle.std.proofs.lemmas.List.{append-nil}
use Rattle.std.proofs.lemmas.List.Elements.{All-head, All-tail}
use Rattle.edge_traits.specs.Causes.{Still}
use Rattle.edge_traits.specs.Stations.{StationView, StationStill}
use Rattle.edge_traits.specs.declared.entries.Run.{Run}
use Rattle.edge_traits.specs.declared.entries.Fetch.{Fetch}
use Rattle.edge_traits.specs.declared.entries.Exchange.{Exchange}
use Rattle.edge_traits.specs.declared.entries.Put.{Put}
use Rattle.edge_traits.specs.Deeds.{ran, fetched, exchanged, put, timed, runs_in, fetches_in, exchanges_in, puts_in}
use Rattle.edge_traits.specs.Keepers.{KeeperView}
use Rattle.edge_traits.specs.Kits.{KitView}
use Rattle.farm_machine.specs.declared.reports.End.{End}
use Rattle.farm_machine.specs.declared.reports.End.TheVariants.{Done, Failed}
use Rattle.farm_machine.specs.declared.reports.Why5.TheVariants.{Station, Put as NotPut, Broke, NoHost, Memory, Fetch as NotFetched}
use Rattle.farm_machine.specs.declared.reports.Places.{Places}
use Rattle.farm_machine.specs.declared.reports.Report.{Report}
use Rattle.farm_machine.specs.Acts.{Act, Did, Met, Entries, deeds_of}
use Rattle.farm_machine.specs.Causes.{StationStands}
use Rattle.farm_machine.specs.Jobs.{Job, source_name}
use Rattle.farm_machine.specs.Numbered.{advanced, added, untimed}
use Rattle.farm_machine.specs.Own.{DoneJob, Each, IsReported}
use Rattle.farm_machine.specs.Weave.{Reports}
use Rattle.job_run.proofs.Lists.{untimed-append}
use Rattle.job_run.specs.Stands.{HasNoExchange, KeepsStill, KeeperStands, FetchEnds}
use Rattle.job_driver.specs.Driven.{entries_of, acts_by, CountsOf}
use Rattle.job_driver.specs.Works.{untimed_job, all_acts, AreReportsOf, is_station_failure, is_fetch_failure, CountsTell, CountsGoOn}

-- ---- entries

-- before a worker's first job
abbrev pub no_entries : Entries
no_entries = record { runs = []; fetches = []; exchanges = []; puts = [] }

abbrev with_lists : List Run → List Fetch → List Exchange → List Put → Entries
with_lists runs fetches exchanges puts = record { runs = runs; fetches = fetches; exchanges = exchanges; puts = puts }

same-lists : {r r' : List Run} {f f' : List Fetch} {x x' : List Exchange} {p p' : List Put}
    → r ≡ r' → f ≡ f' → x ≡ x' → p ≡ p' → with_lists r f x p ≡ with_lists r' f' x' p'
same-lists {r} {r'} {f} {f'} {x} {x'} {p} {p'} a b c d =
    ap (λ (s : List Run). with_lists s f x p) a ∙ ap (λ (s : List Fetch). with_lists r' s x p) b
    ∙ ap (λ (s : List Exchange). with_lists r' f' s p) c ∙ ap (λ (s : List Put). with_lists r' f' x' s) d

abbrev joined : Entries → Entries → Entries
joined es fs = with_lists (es.runs ++ fs.runs) (es.fetches ++ fs.fetches) (es.exchanges ++ fs.exchanges) (es.puts ++ fs.puts)

added-joined : (es : Entries) (acts : List Act) → added es acts ≡ joined es (entries_of acts)
added-joined es [] =
    same-lists (sym (append-nil es.runs)) (sym (append-nil es.fetches)) (sym (append-nil es.exchanges)) (sym (append-nil es.puts))
added-joined es (Did (ran x) ∷ acts) =
    added-joined (record es { runs = es.runs ++ x ∷ [] }) acts
    ∙ same-lists (append_assoc es.runs (x ∷ []) (runs_in (deeds_of acts))) refl refl refl
added-joined es (Did (fetched x) ∷ acts) =
    added-joined (record es { fetches = es.fetches ++ x ∷ [] }) acts
    ∙ same-lists refl (append_assoc es.fetches (x ∷ []) (fetches_in (deeds_of acts))) refl refl
added-joined es (Did (exchanged x) ∷ acts) =
    added-joined (record es { exchanges = es.exchanges ++ x ∷ [] }) acts
    ∙ same-lists refl refl (append_assoc es.exchanges (x ∷ []) (exchanges_in (deeds_of acts))) refl
added-joined es (Did (put x) ∷ acts) =
    added-joined (record es { puts = es.puts ++ x ∷ [] }) acts
    ∙ same-lists refl refl refl (append_assoc es.puts (x ∷ []) (puts_in (deeds_of acts)))
added-joined es (Did (timed moment) ∷ acts) = added-joined es acts
added-joined es (Met x ∷ acts) = added-joined es acts

-- what is added to no entries are those that the acts add
pub entries-added : (acts : List Act) → added no_entries acts ≡ entries_of acts
entries-added acts = added-joined no_entries acts

-- looks at the clock add none
pub entries-untimed : (acts : List Act) → entries_of (untimed acts) ≡ entries_of acts
entries-untimed [] = refl
entries-untimed (Did (ran x) ∷ acts) =
    ap (λ (es : Entries). with_lists (x ∷ es.runs) es.fetches es.exchanges es.puts) (entries-untimed acts)
entries-untimed (Did (fetched x) ∷ acts) =
    ap (λ (es : Entries). with_lists es.runs (x ∷ es.fetches) es.exchanges es.puts) (entries-untimed acts)
entries-untimed (Did (exchanged x) ∷ acts) =
    ap (λ (es : Entries). with_lists es.runs es.fetches (x ∷ es.exchanges) es.puts) (entries-untimed acts)
entries-untimed (Did (put x) ∷ acts) =
    ap (λ (es : Entries). with_lists es.runs es.fetches es.exchanges (x ∷ es.puts)) (entries-untimed acts)
entries-untimed (Did (timed moment) ∷ acts) = entries-untimed acts
entries-untimed (Met x ∷ acts) = entries-untimed acts

-- what a worker did is what its jobs did, as it is read for its reports
pub acts-read : (w : ℕ) (read : Reports) (done : List DoneJob) (at : Places) (rs : List Report)
    → AreReportsOf w at done rs → Each (λ job. IsReported read w job × (read.ends job.number ≡ job.end)) (map untimed_job done)
    → untimed (all_acts done) ≡ acts_by read rs
acts-read w read [] at [] all told = refl
acts-read w read [] at (r ∷ rs) all told = absurd all
acts-read w read (job ∷ done) at [] all told = absurd all
acts-read w read (job ∷ done) at (r ∷ rs) all told =
    let acts : read.acts r.number ≡ untimed job.acts = ap read.acts all.0.number ∙ told.0.0.1 in
    untimed-append job.acts (all_acts done)
    ∙ ap (λ (xs : List Act). xs ++ untimed (all_acts done)) (sym acts)
    ∙ ap (λ (ys : List Act). read.acts r.number ++ ys) (acts-read w read done (advanced at job.acts) rs all.1 told.1)

-- ---- counts

none-timed : (acts : List Act) → HasNoExchange (untimed acts) → HasNoExchange acts
none-timed acts none = sym (ap (λ (es : Entries). es.exchanges) (entries-untimed acts)) ∙ none

still-untimed : (acts : List Act) (old new : KeeperView) → KeepsStill acts old new → KeepsStill (untimed acts) old new
still-untimed acts old new k = record { faults = λ none. k.faults (none-timed acts none); overruns = k.overruns }

keeper-untimed : (end : End) (acts : List Act) (old new : KeeperView)
    → KeeperStands end acts old new → KeeperStands end (untimed acts) old new
keeper-untimed (Failed NotFetched) acts old new k = k
keeper-untimed (Failed NotPut) acts old new k = k
keeper-untimed (Failed Memory) acts old new k = record { faults = λ none. k.faults (none-timed acts none); overruns = k.overruns }
keeper-untimed (Failed Station) acts old new k = still-untimed acts old new k
keeper-untimed (Failed (Broke host cause)) acts old new k = still-untimed acts old new k
keeper-untimed (Failed NoHost) acts old new k = still-untimed acts old new k
keeper-untimed (Done status note err out by) acts old new k = still-untimed acts old new k

fetch-untimed : (name : List ℕ) (end : End) (acts : List Act) (old new : KeeperView)
    → FetchEnds name end acts old new → FetchEnds name end (untimed acts) old new
fetch-untimed name (Failed NotFetched) acts old new f = λ none. f (none-timed acts none)
fetch-untimed name (Failed NotPut) acts old new f = tt
fetch-untimed name (Failed Memory) acts old new f = tt
fetch-untimed name (Failed Station) acts old new f = tt
fetch-untimed name (Failed (Broke host cause)) acts old new f = tt
fetch-untimed name (Failed NoHost) acts old new f = tt
fetch-untimed name (Done status note err out by) acts old new f = tt

pub tell-untimed : (j : Job) (acts : List Act) (end : End) (old new : KitView)
    → CountsTell j acts end old new → CountsTell j (untimed acts) end old new
tell-untimed j acts end old new t = record {
  cause = t.cause;
  station = t.station;
  keeper = keeper-untimed end acts old.keeper new.keeper t.keeper;
  fetch = fetch-untimed (source_name j) end acts old.keeper new.keeper t.fetch;
  later = t.later;
}

-- after one job more
pub counts-more : (jobs : ℕ → Job) (done : List DoneJob) (job : DoneJob) (old mid new : KitView)
    → CountsGoOn jobs done old mid → CountsTell (jobs job.number) (untimed job.acts) job.end mid new
    → CountsGoOn jobs (done ++ job ∷ []) old new
counts-more jobs [] job old mid new same tell =
    (new, subst (λ (v : KitView). CountsTell (jobs job.number) (untimed job.acts) job.end v new) same tell, refl)
counts-more jobs (d ∷ done) job old mid new (next, first, rest) tell =
    (next, first, counts-more jobs done job next mid new rest tell)

-- as they are read for the reports
pub counts-read : (jobs : ℕ → Job) (w : ℕ) (read : Reports) (done : List DoneJob) (at : Places) (rs : List Report) (old new : KitView)
    → AreReportsOf w at done rs → Each (λ job. IsReported read w job × (read.ends job.number ≡ job.end)) (map untimed_job done)
    → CountsGoOn jobs done old new → CountsOf jobs read rs old new
counts-read jobs w read [] at [] old new all told same = same
counts-read jobs w read [] at (r ∷ rs) old new all told same = absurd all
counts-read jobs w read (job ∷ done) at [] old new all told go = absurd all
counts-read jobs w read (job ∷ done) at (r ∷ rs) old new all told (mid, first, rest) =
    let acts : read.acts r.number ≡ untimed job.acts = ap read.acts all.0.number ∙ told.0.0.1 in (
      mid,
      subst (λ (k : ℕ). CountsTell (jobs k) (read.acts r.number) r.end old mid) (sym all.0.number)
          (subst (λ (xs : List Act). CountsTell (jobs job.number) xs r.end old mid) (sym acts)
          (subst (λ (e : End). CountsTell (jobs job.number) (untimed job.acts) e old mid) (sym all.0.end) first)),
      counts-read jobs w read done (advanced at job.acts) rs mid new all.1 told.1 rest,
    )

-- ---- counts that stand still

station-still : (end : End) (old new : StationView) → is_station_failure end ≡ false → StationStands end old new → StationStill old new
station-still (Failed Station) old new calm stands = absurd (true≢false calm)
station-still (Failed NotPut) old new calm stands = stands
station-still (Failed NotFetched) old new calm stands = stands
station-still (Failed (Broke host cause)) old new calm stands = stands
station-still (Failed NoHost) old new calm stands = stands
station-still (Failed Memory) old new calm stands = stands
station-still (Done status note err out by) old new calm stands = stands

fetches-still : (end : End) (acts : List Act) (old new : KeeperView)
    → is_fetch_failure end ≡ false → KeeperStands end acts old new → Still old.overruns new.overruns
fetches-still (Failed NotFetched) acts old new calm k = absurd (true≢false calm)
fetches-still (Failed NotPut) acts old new calm k = k
fetches-still (Failed Memory) acts old new calm k = k.overruns
fetches-still (Failed Station) acts old new calm k = k.overruns
fetches-still (Failed (Broke host cause)) acts old new calm k = k.overruns
fetches-still (Failed NoHost) acts old new calm k = k.overruns
fetches-still (Done status note err out by) acts old new calm k = k.overruns

-- where none of these jobs failed by the station, it counted nothing
pub stands-by : (jobs : ℕ → Job) (read : Reports) (rs : List Report) (old new : KitView)
    → All (λ r. is_station_failure r.end ≡ false) rs → CountsOf jobs read rs old new → StationStill old.station new.station
stands-by jobs read [] old new calm same =
    record { faults = ap (λ (v : KitView). v.station.faults) same; overruns = ap (λ (v : KitView). v.station.overruns) same }
stands-by jobs read (r ∷ rs) old new calm (mid, tell, rest) =
    let first = station-still r.end old.station mid.station (All-head (λ q. is_station_failure q.end ≡ false) r rs calm) tell.station in
    let more = stands-by jobs read rs mid new (All-tail (λ q. is_station_failure q.end ≡ false) r rs calm) rest in
    record { faults = more.faults ∙ first.faults; overruns = more.overruns ∙ first.overruns }

-- where none failed by a fetch, the keeper found no file missing or too long
pub found-by : (jobs : ℕ → Job) (read : Reports) (rs : List Report) (old new : KitView)
    → All (λ r. is_fetch_failure r.end ≡ false) rs → CountsOf jobs read rs old new → Still old.keeper.overruns new.keeper.overruns
found-by jobs read [] old new calm same = ap (λ (v : KitView). v.keeper.overruns) same
found-by jobs read (r ∷ rs) old new calm (mid, tell, rest) =
    found-by jobs read rs mid new (All-tail (λ q. is_fetch_failure q.end ≡ false) r rs calm) rest
    ∙ fetches-still r.end (read.acts r.number) old.keeper mid.keeper (All-head (λ q. is_fetch_failure q.end ≡ false) r rs calm) tell.keeper
