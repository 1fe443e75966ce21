-- How a job ends by its preprocessor, by its source and by its compile.
use Rattle.std.proofs.Common.{◌≡◌, ◌≢◌, ◌⊎◌, inl, inr, ℕ, Bool, true, false, cond, List, [], refl, sym, ap, ◌∙◌, subst, eq-eqb, ne_eqb}
use Rattle.farm_types.specs.declared.ran.Ran.{Ran}
use Rattle.reply_stream.specs.Objects.{with_object}
use Rattle.edge_traits.specs.declared.entries.Put.{Put as PutEntry}
use Rattle.edge_traits.specs.Deeds.{put}
use Rattle.farm_machine.specs.declared.reports.By.TheVariants.{Cpp, Remote}
use Rattle.farm_machine.specs.declared.reports.Why5.{Why5}
use Rattle.farm_machine.specs.declared.reports.Why5.TheVariants.{Station, Put, Fetch, Memory}
use Rattle.farm_machine.specs.declared.reports.End.{End}
use Rattle.farm_machine.specs.declared.reports.End.TheVariants.{Done, Failed}
use Rattle.farm_machine.specs.Acts.{Did}
use Rattle.farm_machine.specs.Course.{At, Start, Send, Finish, Over, after_preprocessor, Next, Ends}
use Rattle.farm_machine.specs.Jobs.{Job, may_be_sent, is_source_ready, output_name}
use Rattle.job_run.specs.declared.step.Compiled.{Compiled}
use Rattle.job_run.specs.declared.step.Compiled.TheVariants.{ByHost, OnThisMachine}
use Rattle.job_run.specs.Stages.{outcome_in, by_of, compiled_at}

pub preprocessor-failed : (r : Ran) (end : End) → end ≡ Done r.status [] r.err [] Cpp → r.status ≢ 0 → Over end ≡ after_preprocessor r
preprocessor-failed r end is failed =
    ap (λ (e : End). Over e) is ∙ ap (λ (b : Bool). cond b (Send r.out r.err []) (Over (Done r.status [] r.err [] Cpp)))
    (sym (ne_eqb r.status 0 failed))

pub preprocessor-well : (r : Ran) → r.status ≡ 0 → Send r.out r.err [] ≡ after_preprocessor r
preprocessor-well r well =
    ap (λ (b : Bool). cond b (Send r.out r.err []) (Over (Done r.status [] r.err [] Cpp))) (sym (eq-eqb r.status 0 well))

pub ends-unfetched : (j : Job) (why : Why5) → may_be_sent j ≡ true → is_source_ready j ≡ true → (why ≡ Fetch) ⊎ (why ≡ Memory)
    → Ends j Start (Failed why)
ends-unfetched j why sent ready (inl e) = inr (inl (sent, ready, ap (λ (w : Why5). Failed w) e))
ends-unfetched j why sent ready (inr e) = inl (ap (λ (w : Why5). Failed w) e)

pub ends-unpreprocessed : (j : Job) (why : Why5) → may_be_sent j ≡ true → is_source_ready j ≡ false → (why ≡ Station) ⊎ (why ≡ Memory)
    → Ends j Start (Failed why)
ends-unpreprocessed j why sent unready (inl e) = inr (inr (sent, unready, ap (λ (w : Why5). Failed w) e))
ends-unpreprocessed j why sent unready (inr e) = inl (ap (λ (w : Why5). Failed w) e)

-- a compile of status 0 has an object that is to be put
pub to-finish : (made : Compiled) (note object : List ℕ) → (outcome_in made).status ≡ 0
    → compiled_at made note object ≡ Finish (by_of made) note (with_object (outcome_in made) object)
to-finish (ByHost host o) note object well =
    ap (λ (b : Bool). cond b (Finish (Remote host) note (with_object o object)) (Over (Done o.status note o.err o.out (Remote host))))
    (eq-eqb o.status 0 well)
to-finish (OnThisMachine o) note object well = refl

-- the end of a job by its compile
abbrev pub DoneBy : Compiled → List ℕ → End → Type 0
DoneBy made note end = let o = outcome_in made in end ≡ Done o.status note o.err o.out (by_of made)

pub ends-failed : (j : Job) (made : Compiled) (note object : List ℕ) (end : End) → (outcome_in made).status ≢ 0 → DoneBy made note end
    → Ends j (compiled_at made note object) end
ends-failed j (ByHost host o) note object end failed is =
    subst (λ (b : Bool). Ends j
    (cond b (Finish (Remote host) note (with_object o object)) (Over (Done o.status note o.err o.out (Remote host)))) end)
    (sym (ne_eqb o.status 0 failed)) is
ends-failed j (OnThisMachine o) note object end failed is = inr (failed, is)

pub ends-not-put : (j : Job) (made : Compiled) (note object : List ℕ) (why : Why5) → (outcome_in made).status ≡ 0
    → (why ≡ Put) ⊎ (why ≡ Memory) → Ends j (compiled_at made note object) (Failed why)
ends-not-put j made note object why well (inl e) =
    subst (λ (at : At). Ends j at (Failed why)) (sym (to-finish made note object well)) (inl (well, inr (ap (λ (w : Why5). Failed w) e)))
ends-not-put j made note object why well (inr e) =
    subst (λ (at : At). Ends j at (Failed why)) (sym (to-finish made note object well)) (inl (well, inl (ap (λ (w : Why5). Failed w) e)))

pub next-put : (j : Job) (made : Compiled) (note : List ℕ) (x : PutEntry) (end : End) → (outcome_in made).status ≡ 0
    → x.path ≡ output_name j → DoneBy made note end → Next j (compiled_at made note x.bytes) (Did (put x)) (Over end)
next-put j made note x end well path is =
    let o = outcome_in made in
    subst (λ (at : At). Next j at (Did (put x)) (Over end)) (sym (to-finish made note x.bytes well))
    (well, path, refl, ap (λ (e : End). Over e) is ∙ ap (λ (s : ℕ). Over (Done s note o.err o.out (by_of made))) well)
