-- What a worker did, with the job that it drew last.
use Rattle.std.proofs.Common.{◌≡◌, ℕ, ◌+◌, ◌*◌, ◌<◌, ◌≤◌, Bool, true, false, true≢false, List, [], ◌∷◌, ◌++◌, Option, Some, length}
use Rattle.std.proofs.Common.{get_or, map, refl, sym, ap, ◌∙◌, subst, append_assoc, arith}
use Rattle.std.specs.Prelude.{All}
use Rattle.std.proofs.lemmas.List.{map-append, length-append}
use Rattle.std.proofs.lemmas.List.{get_or_read}
use Rattle.farm_types.specs.Limits.{hosts_max, jobs_max}
use Rattle.slot_table.specs.declared.limits.Limits.{Limits}
use Rattle.slot_table.specs.declared.calls.CallEntry.{CallEntry}
use Rattle.slot_table.specs.declared.calls.SlotCall.TheVariants.{Draw}
use Rattle.slot_table.specs.declared.calls.SlotReply.TheVariants.{Drawn}
use Rattle.slot_table.specs.History.{entry, outstanding, jobs_drawn}
use Rattle.edge_traits.specs.Deeds.{ran, fetched, exchanged, put, timed, exchanges_in, moments_in, DidIn, MayAll}
use Rattle.edge_traits.specs.Kits.{KitView}
use Rattle.edge_traits.specs.Told.{SameRelation, SameRelation3}
use Rattle.edge_traits.proofs.CountLemmas.{just-still}
use Rattle.edge_traits.proofs.DeedLemmas.{DidIn-join, DidIn-nothing}
use Rattle.farm_machine.specs.declared.reports.Places.{Places}
use Rattle.farm_machine.specs.declared.reports.Report.{Report}
use Rattle.farm_machine.specs.Acts.{SlotEvent, Act, Did, Met, slots_of, deeds_of}
use Rattle.farm_machine.specs.Farm.{wanted}
use Rattle.farm_machine.specs.Honest.{Peers, Programs, AllRan}
use Rattle.farm_machine.specs.Jobs.{Job, job_of}
use Rattle.farm_types.specs.declared.jobs.JobConfig.{JobConfig}
use Rattle.slot_table.specs.Grants.{cost}
use Rattle.farm_machine.specs.Usable.{job_at}
use Rattle.farm_machine.specs.Moments.{AreMoments}
use Rattle.farm_machine.specs.Numbered.{numbered, advanced, no_places, untimed}
use Rattle.farm_machine.specs.Own.{DoneJob, Serves, DoesJobs}
use Rattle.course_laws.proofs.Lengths.{short}
use Rattle.job_run.specs.Events.{events_max}
use Rattle.job_run.specs.Gives.{LeavesAlone}
use Rattle.job_run.specs.Courses.{IsJobCourse}
use Rattle.job_run.specs.JobRuns.{JobRan, AreSmall}
use Rattle.job_run.proofs.Composing.{later-then}
use Rattle.job_run.proofs.Lists.{slots-untimed, deeds-append, advanced-append, ran-append, ran-along, may-append, may-along}
use Rattle.job_run.proofs.Lists.{moments-append, exchanges-append, moments_in-append, leaves-append}
use Rattle.job_run.proofs.Tabled.{is-walked}
use Rattle.job_run.proofs.Outstanding.{outstanding-more}
use Rattle.job_driver.specs.Works.{untimed_job, all_acts, AreReportsOf, AreCaused, CountsTell, Works}
use Rattle.job_driver.proofs.Working.{WorksTo, AreCounted, numbers_of, acts-more, each-more, reports-more, does-more, caused-more}
use Rattle.job_driver.proofs.Drawing.{does-drawn, report-numbers}
use Rattle.job_driver.proofs.Countings.{tell-untimed, counts-more}

-- how far places advance
record Grows (a b : Places) (n : ℕ) : Type 0 where
  runs : b.runs ≤ a.runs + n
  fetches : b.fetches ≤ a.fetches + n
  exchanges : b.exchanges ≤ a.exchanges + n
  puts : b.puts ≤ a.puts + n

grows-more : (a b c : Places) (n : ℕ) → Grows b c n → b.runs ≤ a.runs + 1 → b.fetches ≤ a.fetches + 1 → b.exchanges ≤ a.exchanges + 1
    → b.puts ≤ a.puts + 1 → Grows a c (n + 1)
grows-more a b c n g r f e p = record {
  runs = let x = g.runs in omega (arith, x, r);
  fetches = let x = g.fetches in omega (arith, x, f);
  exchanges = let x = g.exchanges in omega (arith, x, e);
  puts = let x = g.puts in omega (arith, x, p);
}

plus-one : (n m : ℕ) (a b : Places) → n + 1 ≡ m → Grows a b (n + 1) → Grows a b m
plus-one n m a b is g = subst (Grows a b) is g

grows : (at : Places) (acts : List Act) → Grows at (advanced at acts) (length (untimed acts))
grows at [] = record { runs = omega arith; fetches = omega arith; exchanges = omega arith; puts = omega arith }
grows at (Did (ran x) ∷ acts) = let next : Places = record at { runs = at.runs + 1 } in
    plus-one (length (untimed acts)) (length (untimed (Did (ran x) ∷ acts))) at (advanced next acts) (omega arith)
    (grows-more at next (advanced next acts) (length (untimed acts)) (grows next acts) (omega arith) (omega arith) (omega arith)
    (omega arith))
grows at (Did (fetched x) ∷ acts) = let next : Places = record at { fetches = at.fetches + 1 } in
    plus-one (length (untimed acts)) (length (untimed (Did (fetched x) ∷ acts))) at (advanced next acts) (omega arith)
    (grows-more at next (advanced next acts) (length (untimed acts)) (grows next acts) (omega arith) (omega arith) (omega arith)
    (omega arith))
grows at (Did (exchanged x) ∷ acts) = let next : Places = record at { exchanges = at.exchanges + 1 } in
    plus-one (length (untimed acts)) (length (untimed (Did (exchanged x) ∷ acts))) at (advanced next acts) (omega arith)
    (grows-more at next (advanced next acts) (length (untimed acts)) (grows next acts) (omega arith) (omega arith) (omega arith)
    (omega arith))
grows at (Did (put x) ∷ acts) = let next : Places = record at { puts = at.puts + 1 } in
    plus-one (length (untimed acts)) (length (untimed (Did (put x) ∷ acts))) at (advanced next acts) (omega arith)
    (grows-more at next (advanced next acts) (length (untimed acts)) (grows next acts) (omega arith) (omega arith) (omega arith)
    (omega arith))
grows at (Did (timed moment) ∷ acts) = grows at acts
grows at (Met x ∷ acts) =
    plus-one (length (untimed acts)) (length (untimed (Met x ∷ acts))) at (advanced at acts) (omega arith)
    (grows-more at at (advanced at acts) (length (untimed acts)) (grows at acts) (omega arith) (omega arith) (omega arith)
    (omega arith))

counted-grown : (at next : Places) (rs : List Report) (r : Report) (n : ℕ) → Grows at next n → n ≤ events_max → AreCounted at rs
    → AreCounted next (rs ++ r ∷ [])
counted-grown at next rs r n g most all = let long = length-append rs (r ∷ []) in record {
  runs = let x = g.runs in let y = all.runs in omega (arith, x, y, long, most);
  fetches = let x = g.fetches in let y = all.fetches in omega (arith, x, y, long, most);
  exchanges = let x = g.exchanges in let y = all.exchanges in omega (arith, x, y, long, most);
  puts = let x = g.puts in let y = all.puts in omega (arith, x, y, long, most);
}

-- a job adds at most `events_max` entries of each kind
pub counted-more : {h : ℕ} {peers : Peers} {programs : Programs} {j : Job} {l : Limits h} {w job : ℕ} {at next : Places} {calls calls' :
    List CallEntry} {a b : KitView} {rs rs' : List Report} (r : Report)
    → rs' ≡ rs ++ r ∷ [] → 1 ≤ j.config.tries → j.config.tries ≤ hosts_max → AreCounted at rs
    → JobRan peers programs j l w job at next r.events r.end calls calls' a b → AreCounted next rs'
counted-more {j = j} {at = at} {next = next} {rs = rs} r is some tries all did =
    let long : length (untimed did.acts) ≤ 3 * j.config.tries + 5 =
    short j (untimed did.acts) r.end some (is-walked j (untimed did.acts) r.end did.course) in
    subst (AreCounted next) (sym is)
    (counted-grown at next rs r (length (untimed did.acts)) (subst (λ (p : Places). Grows at p (length (untimed did.acts)))
    (sym did.grown) (grows at did.acts)) (omega (arith, long, tries)) all)

-- the places are small before each job
pub small-places : (at : Places) (rs : List Report) → length rs ≤ jobs_max → AreCounted at rs → AreSmall at
small-places at rs most all = record {
  runs = let x = all.runs in omega (arith, x, most);
  fetches = let x = all.fetches in omega (arith, x, most);
  exchanges = let x = all.exchanges in omega (arith, x, most);
  puts = let x = all.puts in omega (arith, x, most);
}

pub counted-none : (rs : List Report) → AreCounted no_places rs
counted-none rs = record { runs = omega arith; fetches = omega arith; exchanges = omega arith; puts = omega arith }

-- before the first job
pub works-none : {h : ℕ} {peers : Peers} {programs : Programs} {jobs : ℕ
    → Job} {period : ℕ} {l : Limits h} {w : ℕ} {rs : List Report} {calls : List CallEntry} {a : KitView}
    → rs ≡ [] → calls ≡ [] → WorksTo peers programs jobs period l w rs calls a a no_places
works-none {period = period} {w = w} {a = a} none blank = record {
  works = record {
    done = [];
    reported = subst (λ (z : List Report). AreReportsOf w no_places [] z) (sym none) tt;
    courses = tt;
    does = blank;
    did = DidIn-nothing a;
    moments = subst (λ (z : List CallEntry). AreMoments period z []) (sym blank) refl;
    leaves = tt;
    may = λ known. tt;
    ran = tt;
    caused = subst (λ (z : List Report). AreCaused z a a) (sym none)
        (record {
          station = record {
            first = 0;
            second = 0;
            all = refl;
            rose = just-still a.station.faults a.station.faults refl;
            rose_too = just-still a.station.overruns a.station.overruns refl;
          };
          missing = record { by = 0; most = omega arith; rose = just-still a.keeper.overruns a.keeper.overruns refl };
          keeper = record { first = 0; second = 0; enough = omega arith; rose = omega arith; rose_too = omega arith };
          puts = omega arith;
          dialer = omega arith;
        });
    counts = refl;
    later = record {
      station = omega arith;
      station_overruns = omega arith;
      keeper = omega arith;
      keeper_overruns = omega arith;
      dialer = omega arith;
    };
  };
  places_are = refl;
}

-- after one job more
pub works-more : {h : ℕ} {peers peers' : Peers} {programs programs' : Programs} {jobs : ℕ
    → Job} {j : Job} {period : ℕ} {l l' : Limits h} {w w' job : ℕ}
    {rs rs' : List Report} {calls mid calls' : List CallEntry} {old a b : KitView} {at at' : Places} (r : Report)
    → l' ≡ l → w' ≡ w → j ≡ jobs job → j.config.period ≡ period
    → SameRelation peers peers' → SameRelation3 programs programs'
    → mid ≡ calls ++ entry w Draw (Drawn (Some job)) ∷ []
    → rs' ≡ rs ++ r ∷ [] → r.number ≡ job → r.worker ≡ w'
    → WorksTo peers programs jobs period l w rs calls old a at
    → JobRan peers' programs' j l' w' job at at' r.events r.end mid calls' a b
    → WorksTo peers programs jobs period l w rs' calls' old b at'
works-more {h} {peers = peers} {peers' = peers'} {programs = programs} {programs' = programs'} {jobs = jobs} {j = j} {period = period} {l
    = l} {l' = l'}
    {w = w} {job = job} {rs = rs} {calls = calls} {calls' = calls'} {old = old} {a = a} {b = b}
    r same_l same_w is_job is_period same_peers same_programs drawn is number worker so_far did =
    let works = so_far.works in
    let done : List DoneJob = works.done in
    let new : DoneJob = record { number = job; acts = did.acts; end = r.end } in
    let e : CallEntry = entry w Draw (Drawn (Some job)) in
    let acts : all_acts (done ++ new ∷ []) ≡ all_acts done ++ did.acts = acts-more done new in
    let deeds : deeds_of (all_acts (done ++ new ∷ [])) ≡ deeds_of (all_acts done) ++ deeds_of did.acts = ap deeds_of acts
    ∙ deeds-append (all_acts done) did.acts in
    let all : calls' ≡ calls ++ e ∷ did.calls = did.mine ∙ ap (λ (xs : List CallEntry). xs ++ did.calls) drawn
    ∙ append_assoc calls (e ∷ []) did.calls in
    let xs = exchanges_in (deeds_of (all_acts done)) in
    let ys = exchanges_in (deeds_of did.acts) in
    record {
      works = record {
        done = done ++ new ∷ [];
        reported = subst (λ (z : List Report). AreReportsOf w no_places (done ++ new ∷ []) z) (sym is)
            (reports-more w done no_places rs new r works.reported
            (record {
              number = number;
              worker = worker ∙ same_w;
              events = did.named
                  ∙ ap (λ (p : Places). numbered p did.acts) so_far.places_are;
              end = refl;
            }));
        courses = each-more (λ k. IsJobCourse (jobs k.number) (untimed k.acts) k.end) done new works.courses
            (subst (λ (k : Job). IsJobCourse k (untimed did.acts) r.end) is_job did.course);
        does = subst (λ (ds : List DoneJob). DoesJobs (wanted l) w ds calls') (sym (map-append untimed_job done (new ∷ [])))
            (subst (λ (zs : List CallEntry). DoesJobs (wanted l) w (map untimed_job done ++ untimed_job new ∷ []) zs) (sym all)
            (does-more (wanted l) w (map untimed_job done) calls did.calls (untimed_job new) works.does
            (subst (λ (zs : List SlotEvent). Serves (wanted l) w job [] zs did.calls) (sym (slots-untimed did.acts))
            (subst (λ (k : Limits h). Serves (wanted k) w job [] (slots_of did.acts) did.calls) same_l
            (subst (λ (k : ℕ). Serves (wanted l') k job [] (slots_of did.acts) did.calls) same_w did.serves)))));
        did = subst (DidIn old b) (sym deeds) (DidIn-join works.did did.did);
        moments = subst (λ (zs : List CallEntry). AreMoments period zs (moments_in (deeds_of (all_acts (done ++ new ∷ []))))) (sym all)
            (subst (λ (ms : List ℕ). AreMoments period (calls ++ e ∷ did.calls) ms)
            (sym (ap moments_in deeds ∙ moments_in-append (deeds_of (all_acts done)) (deeds_of did.acts)))
            (moments-append period calls (e ∷ did.calls) (moments_in (deeds_of (all_acts done)))
            (moments_in (deeds_of did.acts)) works.moments (
              [],
              moments_in (deeds_of did.acts),
              refl,
              subst (λ (k : ℕ). AreMoments k did.calls
                  (moments_in (deeds_of did.acts))) is_period did.moments,
              refl,
            )));
        leaves = subst (LeavesAlone period) (sym acts) (leaves-append period (all_acts done) did.acts works.leaves
            (subst (λ (k : ℕ). LeavesAlone k did.acts) is_period did.leaves));
        may = λ known. subst (MayAll peers) (sym (ap exchanges_in deeds ∙ exchanges-append (deeds_of (all_acts done)) (deeds_of did.acts)))
            (may-append peers xs ys (works.may (did.did.exchanges.known known))
            (may-along peers' peers same_peers.back ys (did.may known)));
        ran = subst (AllRan programs) (sym acts) (ran-append programs (all_acts done) did.acts works.ran
            (ran-along programs' programs same_programs.back did.acts did.ran));
        caused = subst (λ (z : List Report). AreCaused z old b) (sym is) (caused-more rs r did.acts old a b works.caused
            did.cause did.station did.keeper did.later);
        counts = counts-more jobs done new old a b works.counts
            (subst (λ (k : Job). CountsTell k (untimed did.acts) r.end a b) is_job
            (tell-untimed j did.acts r.end a b
            (record { cause = did.cause; station = did.station; keeper = did.keeper; fetch = did.fetch; later = did.later })));
        later = later-then works.later did.later;
      };
      places_are = did.grown ∙ ap (λ (p : Places). advanced p did.acts) so_far.places_are
          ∙ sym (advanced-append no_places (all_acts done) did.acts) ∙ ap (advanced no_places) (sym acts);
    }

-- the numbers of the reports are the jobs that were drawn
pub numbers-drawn : {h : ℕ} {peers : Peers} {programs : Programs} {jobs : ℕ
    → Job} {period : ℕ} {l : Limits h} {w : ℕ} {rs : List Report} {calls : List CallEntry} {old a : KitView}
    → Works peers programs jobs period l w rs calls old a → numbers_of rs ≡ jobs_drawn calls
numbers-drawn {l = l} {w = w} {rs = rs} {calls = calls} works =
    report-numbers w works.done no_places rs works.reported ∙ sym (does-drawn (wanted l) w (map untimed_job works.done) calls works.does)

-- a draw leaves out nothing
pub drawn-back : (w : ℕ) (o : _) (es es' : List CallEntry) → es' ≡ es ++ entry w Draw (Drawn o) ∷ [] → outstanding es ≡ []
    → outstanding es' ≡ []
drawn-back w o es es' is none = outstanding-more es es' (entry w Draw (Drawn o)) is ∙ none

-- what is drawn comes after the reports
pub report-later : {h : ℕ} {peers : Peers} {programs : Programs} {jobs : ℕ
    → Job} {period : ℕ} {l : Limits h} {w : ℕ} {rs : List Report} {calls : List CallEntry} {old a : KitView} {at : Places} (job : ℕ)
    → WorksTo peers programs jobs period l w rs calls old a at → All (λ k. k < job) (jobs_drawn calls) → All (λ k. k < job) (numbers_of rs)
report-later job so_far all = subst (All (λ k. k < job)) (sym (numbers-drawn so_far.works)) all

pub relation-then : {A B : Type 0} {p q r : A → B → Type 0} → SameRelation p q → SameRelation q r → SameRelation p r
relation-then first second = record {
  kept = λ a b h. second.kept a b (first.kept a b h);
  back = λ a b h. first.back a b (second.back a b h);
}

pub relation3-then : {A B C : Type 0} {p q r : A → B → C → Type 0} → SameRelation3 p q → SameRelation3 q r → SameRelation3 p r
relation3-then first second = record {
  kept = λ a b c h. second.kept a b c (first.kept a b c h);
  back = λ a b c h. first.back a b c (second.back a b c h);
}

-- the job at a place, as it was read
pub job-found : {xs ys : List (List (List ℕ))} {x : List (List ℕ)} (place : ℕ) (config : JobConfig) → xs ≡ ys → x ≡ get_or xs place x
    → place < length ys → job_of x config ≡ job_at ys config place
job-found {ys = ys} {x = x} place config same is below =
    let e : x ≡ get_or ys place x = is ∙ ap (λ (zs : List (List (List ℕ))). get_or zs place x) same in
    ap (λ (words : List (List ℕ)). job_of words config) (get_or_read ys place x below e [])

-- it has a word, as all have
pub word-found : {xs ys : List (List (List ℕ))} {x : List (List ℕ)} (place : ℕ) → xs ≡ ys → x ≡ get_or xs place x → place < length ys
    → All (λ words. 0 < length words) ys → 0 < length x
word-found {x = x} place same is below all =
    subst (λ (words : List (List ℕ)). 0 < length words) (sym (is ∙ ap (λ (zs : List (List (List ℕ))). get_or zs place x) same))
    (all place x below)

pub drawn-as : {w w' job : ℕ} {o : Option ℕ} {es' : List CallEntry} (es : List CallEntry) → w ≡ w' → o ≡ Some job
    → es' ≡ es ++ entry w Draw (Drawn o) ∷ [] → es' ≡ es ++ entry w' Draw (Drawn (Some job)) ∷ []
drawn-as {w' = w'} {o = o} es same is more = more ∙ ap (λ (k : ℕ). es ++ entry k Draw (Drawn o) ∷ []) same
    ∙ ap (λ (p : Option ℕ). es ++ entry w' Draw (Drawn p) ∷ []) is

-- a caller that is alone has calls left for the rest of the jobs
pub spare-enough : (alone : Bool) (n done a b : ℕ) → done + 1 ≤ n
    → (alone ≡ true → (events_max + 1) * n + 1 ≤ a + (events_max + 1) * done) → b + cost alone ≡ a → events_max * cost alone ≤ b
spare-enough true n done a b below room spent = let r = room refl in omega (arith, r, below, spent)
spare-enough false n done a b below room spent = omega arith

pub spare-more : (alone : Bool) (n done done' a b c : ℕ) → done' ≡ done + 1
    → (alone ≡ true → (events_max + 1) * n + 1 ≤ a + (events_max + 1) * done) → b + cost alone ≡ a → b ≤ c + events_max * cost alone
    → alone ≡ true → (events_max + 1) * n + 1 ≤ c + (events_max + 1) * done'
spare-more true n done done' a b c is room spent left one = let r = room refl in omega (arith, r, is, spent, left)
spare-more false n done done' a b c is room spent left one = absurd (true≢false (sym one))
