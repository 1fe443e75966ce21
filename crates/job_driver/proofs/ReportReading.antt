-- The reports of one worker, read by all its entries.
use Rattle.std.proofs.Common.{◌≡◌, ℕ, zero, suc, ◌+◌, List, [], ◌∷◌, ◌++◌, Some, map, refl, sym, ap, ◌∙◌, subst, arith}
use Rattle.std.specs.Prelude.{All, slice_get}
use Rattle.std.proofs.lemmas.List.{length_push}
use Rattle.std.proofs.lemmas.List.Elements.{All-nil, All-cons}
use Rattle.edge_traits.specs.Deeds.{ran, fetched, exchanged, put, timed}
use Rattle.farm_machine.specs.declared.reports.Event.{Event}
use Rattle.farm_machine.specs.declared.reports.Event.TheVariants.{Ran, Fetched, Exchanged, Put as PutAt, Took, Gave, GaveBad, Down}
use Rattle.farm_machine.specs.declared.reports.Event.TheVariants.{TookLocal, GaveLocal}
use Rattle.farm_machine.specs.declared.reports.Places.{Places}
use Rattle.farm_machine.specs.declared.reports.Report.{Report}
use Rattle.farm_machine.specs.Acts.{Act, Did, Met, Entries, Reads, ReadsAll}
use Rattle.farm_machine.specs.Numbered.{numbered, advanced, added, untimed, Counts}
use Rattle.farm_machine.specs.Own.{DoneJob, Each, IsReported}
use Rattle.farm_machine.specs.Reading.{IsReadAs}
use Rattle.farm_machine.specs.Weave.{Reports}
use Rattle.course_laws.proofs.Reading.{Begins, Longer, longer, reading}
use Rattle.job_run.proofs.Lists.{numbered-append}
use Rattle.job_driver.specs.Driven.{events_of}
use Rattle.job_driver.specs.Works.{untimed_job, all_acts, AreReportsOf}

get-front : {A : Type 0} (xs more : List A) (n : ℕ) (x : A) → slice_get xs n ≡ Some x → slice_get (xs ++ more) n ≡ Some x
get-front [] more n x is = absurd (grind (arith, is))
get-front (y ∷ xs) more zero x is = is
get-front (y ∷ xs) more (suc n) x is = get-front xs more n x is

get-longer : {A : Type 0} (xs ys : List A) (n : ℕ) (x : A) → slice_get xs n ≡ Some x → Begins xs ys → slice_get ys n ≡ Some x
get-longer {A} xs ys n x is (more, longer_by) = ap (λ (zs : List A). slice_get zs n) longer_by ∙ get-front xs more n x is

reads-longer : (es fs : Entries) → Longer es fs → (event : Event) (act : Act) → Reads es event act → Reads fs event act
reads-longer es fs l (Ran at) act (x, is, same) = (x, get-longer es.runs fs.runs at x is l.runs, same)
reads-longer es fs l (Fetched at) act (x, is, same) = (x, get-longer es.fetches fs.fetches at x is l.fetches, same)
reads-longer es fs l (Exchanged at) act (x, is, same) = (x, get-longer es.exchanges fs.exchanges at x is l.exchanges, same)
reads-longer es fs l (PutAt at) act (x, is, same) = (x, get-longer es.puts fs.puts at x is l.puts, same)
reads-longer es fs l (Took host) act reads = reads
reads-longer es fs l (Gave host) act reads = reads
reads-longer es fs l (GaveBad host until) act reads = reads
reads-longer es fs l Down act reads = reads
reads-longer es fs l TookLocal act reads = reads
reads-longer es fs l GaveLocal act reads = reads

all-longer : (es fs : Entries) → Longer es fs → (events : List Event) (acts : List Act) → ReadsAll es events acts → ReadsAll fs events acts
all-longer es fs l [] [] reads = tt
all-longer es fs l [] (a ∷ acts) reads = absurd reads
all-longer es fs l (e ∷ events) [] reads = absurd reads
all-longer es fs l (e ∷ events) (a ∷ acts) reads = (reads-longer es fs l e a reads.0, all-longer es fs l events acts reads.1)

added-append : (es : Entries) (xs ys : List Act) → added es (xs ++ ys) ≡ added (added es xs) ys
added-append es [] ys = refl
added-append es (Did (ran x) ∷ xs) ys = added-append (record es { runs = es.runs ++ x ∷ [] }) xs ys
added-append es (Did (fetched x) ∷ xs) ys = added-append (record es { fetches = es.fetches ++ x ∷ [] }) xs ys
added-append es (Did (exchanged x) ∷ xs) ys = added-append (record es { exchanges = es.exchanges ++ x ∷ [] }) xs ys
added-append es (Did (put x) ∷ xs) ys = added-append (record es { puts = es.puts ++ x ∷ [] }) xs ys
added-append es (Did (timed moment) ∷ xs) ys = added-append es xs ys
added-append es (Met x ∷ xs) ys = added-append es xs ys

counts-more : (acts : List Act) (at : Places) (es : Entries) → Counts at es → Counts (advanced at acts) (added es acts)
counts-more [] at es c = c
counts-more (Did (ran x) ∷ acts) at es c = counts-more acts (record at { runs = at.runs + 1 }) (record es { runs = es.runs ++ x ∷ [] })
    (record { runs = length_push es.runs x ∙ ap (λ n. n + 1) c.runs; fetches = c.fetches; exchanges = c.exchanges; puts = c.puts })
counts-more (Did (fetched x) ∷ acts) at es c = counts-more acts (record at { fetches = at.fetches + 1 })
    (record es { fetches = es.fetches ++ x ∷ [] })
    (record { runs = c.runs; fetches = length_push es.fetches x ∙ ap (λ n. n + 1) c.fetches; exchanges = c.exchanges; puts = c.puts })
counts-more (Did (exchanged x) ∷ acts) at es c = counts-more acts (record at { exchanges = at.exchanges + 1 })
    (record es { exchanges = es.exchanges ++ x ∷ [] })
    (record { runs = c.runs; fetches = c.fetches; exchanges = length_push es.exchanges x ∙ ap (λ n. n + 1) c.exchanges; puts = c.puts })
counts-more (Did (put x) ∷ acts) at es c = counts-more acts (record at { puts = at.puts + 1 }) (record es { puts = es.puts ++ x ∷ [] })
    (record { runs = c.runs; fetches = c.fetches; exchanges = c.exchanges; puts = length_push es.puts x ∙ ap (λ n. n + 1) c.puts })
counts-more (Did (timed moment) ∷ acts) at es c = counts-more acts at es c
counts-more (Met x ∷ acts) at es c = counts-more acts at es c

-- what was reported of a worker's jobs is how its reports are read
pub reads-each : (w : ℕ) (read : Reports) (entries : ℕ → Entries) (done : List DoneJob) (at : Places) (es : Entries) (rs : List Report)
    → Counts at es → entries w ≡ added es (all_acts done) → AreReportsOf w at done rs
    → Each (λ job. IsReported read w job × (read.ends job.number ≡ job.end)) (map untimed_job done)
    → All (λ r. IsReadAs entries r r.number read) rs
reads-each w read entries [] at es [] counts whole all reported = All-nil (λ r. IsReadAs entries r r.number read)
reads-each w read entries [] at es (r ∷ rs) counts whole all reported = absurd all
reads-each w read entries (job ∷ done) at es [] counts whole all reported = absurd all
reads-each w read entries (job ∷ done) at es (r ∷ rs) counts whole all reported =
    let own = all.0 in
    let told = reported.0 in
    let next : Entries = added es job.acts in
    let whole' : entries w ≡ added next (all_acts done) = whole ∙ added-append es job.acts (all_acts done) in
    let now : ReadsAll next (numbered at job.acts) (untimed job.acts) = reading at es job.acts counts in
    let later : ReadsAll (added next (all_acts done)) (numbered at job.acts) (untimed job.acts) = all-longer next
    (added next (all_acts done)) (longer (all_acts done) next) (numbered at job.acts) (untimed job.acts) now in
    let here : ReadsAll (entries r.worker) (numbered at job.acts) (untimed job.acts) =
    subst (λ (k : ℕ). ReadsAll (entries k) (numbered at job.acts) (untimed job.acts)) (sym own.worker)
    (subst (λ (fs : Entries). ReadsAll fs (numbered at job.acts) (untimed job.acts)) (sym whole') later) in
    All-cons (λ q. IsReadAs entries q q.number read) r rs
    (record {
      number = refl;
      worker = own.worker ∙ sym told.0.0 ∙ ap read.worker (sym own.number);
      acts = subst (λ (es' : List Event). ReadsAll (entries r.worker) es' (read.acts r.number)) (sym own.events)
          (subst (λ (acts : List Act). ReadsAll (entries r.worker) (numbered at job.acts) acts) (sym (ap read.acts own.number ∙ told.0.1))
          here);
      end = own.end ∙ sym told.1 ∙ ap read.ends (sym own.number);
    })
    (reads-each w read entries done (advanced at job.acts) next rs (counts-more job.acts at es counts) whole' all.1 reported.1)

-- the events of a worker's reports number all that it did
pub events-numbered : (w : ℕ) (done : List DoneJob) (at : Places) (rs : List Report) → AreReportsOf w at done rs
    → events_of rs ≡ numbered at (all_acts done)
events-numbered w [] at [] all = refl
events-numbered w [] at (r ∷ rs) all = absurd all
events-numbered w (job ∷ done) at [] all = absurd all
events-numbered w (job ∷ done) at (r ∷ rs) all =
    ap (λ (es : List Event). es ++ events_of rs) all.0.events
    ∙ ap (λ (es : List Event). numbered at job.acts ++ es) (events-numbered w done (advanced at job.acts) rs all.1)
    ∙ sym (numbered-append at job.acts (all_acts done))

pub by-worker : (w : ℕ) (done : List DoneJob) (at : Places) (rs : List Report) → AreReportsOf w at done rs → All (λ r. r.worker ≡ w) rs
by-worker w [] at [] all = All-nil (λ r. r.worker ≡ w)
by-worker w [] at (r ∷ rs) all = absurd all
by-worker w (job ∷ done) at [] all = absurd all
by-worker w (job ∷ done) at (r ∷ rs) all = All-cons (λ q. q.worker ≡ w) r rs all.0.worker (by-worker w done (advanced at job.acts) rs all.1)
