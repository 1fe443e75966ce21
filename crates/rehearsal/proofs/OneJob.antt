-- What one job of the workload leaves, and what its report names.
use Rattle.std.proofs.Common.{◌≡◌, inl, inr, ℕ, ◌<◌, ◌≤◌, ◌^◌, Bool, true, false, List, [], ◌∷◌, ◌++◌, length, Option, Some, None, refl}
use Rattle.std.proofs.Common.{sym, ap, ◌∙◌, subst, arith}
use Rattle.std.specs.Prelude.{map, if◌then◌else◌}
use Rattle.std.proofs.lemmas.Bool.Decides.{Decides-eqb}
use Rattle.farm_types.specs.Limits.{jobs_max}
use Rattle.farm_types.specs.declared.jobs.JobConfig.{JobConfig}
use Rattle.farm_types.specs.declared.placed.Word.TheVariants.{Text}
use Rattle.farm_types.specs.declared.ran.Ran.{Ran}
use Rattle.edge_traits.specs.declared.entries.Put.{Put}
use Rattle.edge_traits.specs.Deeds.{ran, fetched, put}
use Rattle.arg_strip.specs.Words.{stripped, placed_words, preprocessing_words}
use Rattle.farm_machine.specs.declared.reports.By.TheVariants.{Cpp, Remote, Here, InPlace}
use Rattle.farm_machine.specs.declared.reports.Event.{Event}
use Rattle.farm_machine.specs.declared.reports.End.{End}
use Rattle.farm_machine.specs.declared.reports.End.TheVariants.{Done, Failed}
use Rattle.farm_machine.specs.Acts.{Act, Did, Met, TakesLocal, Entries, ReadsAll}
use Rattle.farm_machine.specs.Course.{after_preprocessor, Course}
use Rattle.farm_machine.specs.Honest.{AllRan}
use Rattle.farm_machine.specs.Jobs.{Job, job_of}
use Rattle.farm_machine.specs.Table.{IsSource}
use Rattle.course_laws.specs.Laws.{IsAmong, PutLaw}
use Rattle.course_laws.specs.Answers.{HasOutcome, IsAnswered}
use Rattle.sample_compiler.specs.Samples.{SampleOf, printed}
use Rattle.sample_compiler.specs.Stations.{StationRan}
use Rattle.workload.specs.Loads.{job_words, files_of}
use Rattle.rehearsal.specs.WorkloadRuns.{text_of_job, SentLaw, PreprocessedLaw, CompiledLaw}
use Rattle.rehearsal.specs.Counts.{last_put, len_at}
use Rattle.rehearsal.specs.Puts.{put_len}
use Rattle.rehearsal.specs.Rehearsals.{ended_well, object_len}
use Rattle.rehearsal.proofs.Compiled.{is_compiled, has_source, compiled-from}
use Rattle.rehearsal.proofs.Looping.{whole-object}
use Rattle.rehearsal.proofs.Putting.{names-put, ends-put}

-- what is known of the runs of the workload's jobs
pub record RunLaws : Type 0 where
  pub sent : SentLaw
  pub preprocessed : PreprocessedLaw
  pub compiled : CompiledLaw

-- the job ended as the compiler leaves it, and put the object
pub record IsLeft (n job : ℕ) (acts : List Act) (status : ℕ) (err out : List ℕ) : Type 0 where
  pub left : Ran
  pub sample : SampleOf (files_of n) (job_words job) left
  pub status_is : status ≡ left.status
  pub err_is : err ≡ left.err
  pub out_is : out ≡ left.out
  pub object : status ≡ 0 → (x : Put) × IsAmong (Did (put x)) acts × (x.bytes ≡ left.object)

abbrev pub LeftAs : ℕ → ℕ → List Act → End → Type 0
LeftAs n job acts (Done status note err out by) = IsLeft n job acts status err out
LeftAs n job acts (Failed why) = Unit {0}

-- how a course of such a job goes on
pub record GoesOn (n job : ℕ) (acts : List Act) (end : End) : Type 0 where
  pub by : is_compiled end ≡ true
  pub source : (source : List ℕ) → IsSource acts source → source ≡ text_of_job n job

module _ (laws : RunLaws) (n job : ℕ) (config : JobConfig) (most : n ≤ jobs_max) (some : 1 ≤ job) (within : job ≤ n) where
  abbrev the_job : Job
  the_job = job_of (job_words job) config

  small : job < 2 ^ 64
  small = omega (arith, most, within)

  source-run : (r : Ran) (words : List _) (input : List ℕ) → words ≡ map Text (preprocessing_words (job_words job)) → input ≡ []
      → StationRan (files_of n) words input r → r ≡ printed (text_of_job n job)
  source-run r words input is none left =
      laws.preprocessed n job r most some within
      (subst (λ i. StationRan (files_of n) (map Text (preprocessing_words (job_words job))) i r) none
      (subst (λ w. StationRan (files_of n) w input r) is left))

  pub goes-on : (acts : List Act) (end : End) → Course the_job acts end → AllRan (StationRan (files_of n)) acts → GoesOn n job acts end
  goes-on [] end (inl e) runs = record { by = ap is_compiled e; source = λ source is. absurd is }
  goes-on [] end (inr (inl f)) runs = record { by = ap is_compiled f.2; source = λ source is. absurd is }
  goes-on [] end (inr (inr s)) runs = record { by = ap is_compiled s.2; source = λ source is. absurd is }
  goes-on (Met TakesLocal ∷ acts) end (c, next, from) runs =
      let is = (laws.sent job small).remote in
      let not = next.0 in
      absurd (cc (is, not))
  goes-on (Did (fetched x) ∷ acts) end (c, next, from) runs =
      let raw = (laws.sent job small).raw in
      let ready = next.1 in
      absurd (cc (raw, ready))
  goes-on (Did (ran x) ∷ acts) end (c, next, from) runs =
      let left : x.ran ≡ printed (text_of_job n job) = source-run x.ran x.words x.input next.2.0 next.2.1 runs.0 in
      let has : has_source c ≡ true = ap has_source next.3 ∙ ap (λ (r : Ran). has_source (after_preprocessor r)) left in
      record {
        by = compiled-from the_job acts c end has from;
        source = λ source is. is ∙ ap (λ (r : Ran). r.out) left;
      }
  goes-on (a ∷ acts) end (c, next, from) runs = absurd next

  left-by : (acts : List Act) (end : End) (status : ℕ) (err out : List ℕ) → GoesOn n job acts end
      → HasOutcome (StationRan (files_of n)) the_job acts status err out → IsLeft n job acts status err out
  left-by acts end status err out on h =
      let run = h.compiles.run in
      record {
        left = run;
        sample = laws.compiled n job run most some within
            (subst (λ text. StationRan (files_of n) (placed_words (stripped (job_words job))) text run)
            (on.source h.source h.source_is) h.compiles.may);
        status_is = sym h.status_is ∙ h.compiles.status;
        err_is = sym h.err_is ∙ h.compiles.err;
        out_is = sym h.out_is ∙ h.compiles.out;
        object = λ good.
            let x = h.object good in
            (x.0, x.1, x.2 ∙ h.compiles.object ∙ whole-object run (sym h.compiles.status ∙ h.status_is ∙ good));
      }

  pub left-as : (acts : List Act) (end : End) → Course the_job acts end → AllRan (StationRan (files_of n)) acts
      → IsAnswered (StationRan (files_of n)) the_job acts end → LeftAs n job acts end
  left-as acts (Done status note err out (Remote host)) course runs answered =
      left-by acts _ status err out (goes-on acts _ course runs) answered
  left-as acts (Done status note err out Here) course runs answered = left-by acts _ status err out (goes-on acts _ course runs) answered
  left-as acts (Done status note err out Cpp) course runs answered = let by = (goes-on acts _ course runs).by in absurd (cc by)
  left-as acts (Done status note err out InPlace) course runs answered = let by = (goes-on acts _ course runs).by in absurd (cc by)
  left-as acts (Failed why) course runs answered = tt

-- ---- the object's length, by the report's events

pub record FoundAmong (a : Act) (acts : List Act) : Type 0 where
  pub before : List Act
  pub rest : List Act
  pub is : acts ≡ before ++ a ∷ rest

found-among : (a : Act) (acts : List Act) → IsAmong a acts → FoundAmong a acts
found-among a [] among = absurd among
found-among a (b ∷ acts) (inl same) = record { before = []; rest = acts; is = ap (λ (x : Act). x ∷ acts) same }
found-among a (b ∷ acts) (inr later) = let is = found-among a acts later in
    record { before = b ∷ is.before; rest = is.rest; is = ap (λ (xs : List Act). b ∷ xs) is.is }

module _ (puts : PutLaw) (n job : ℕ) (j : Job) (es : Entries) (events : List Event) (acts : List Act) (reads : ReadsAll es events acts)
    (status : ℕ) (note err out : List ℕ) (by : _) (course : Course j acts (Done status note err out by))
    (is : IsLeft n job acts status err out) where
  good-len : is.left.status ≡ 0 → len_at es.puts (last_put events) ≡ length is.left.object
  good-len good =
      let x = is.object (is.status_is ∙ good) in
      let found = found-among (Did (put x.0)) acts x.1 in
      let last = puts j found.before x.0 found.rest _ (subst (λ xs. Course j xs (Done status note err out by)) found.is course) in
      let ends : acts ≡ found.before ++ Did (put x.0) ∷ [] =
      found.is ∙ ap (λ (xs : List Act). found.before ++ Did (put x.0) ∷ xs) last.last in
      let names = names-put es events found.before x.0 (subst (ReadsAll es events) ends reads) in
      ap (len_at es.puts) names.named ∙ ap put_len names.there ∙ ap length x.2

  bad-len : (place : Option ℕ) → last_put events ≡ place → (is.left.status ≡ 0 → ⊥) → len_at es.puts place ≡ 0
  bad-len None named bad = refl
  bad-len (Some at) named bad =
      let ends = ends-put es events acts at reads named in
      let last = puts j ends.before ends.file [] _ (subst (λ xs. Course j xs (Done status note err out by)) ends.is course) in
      let done = last.done.2 in
      let zero_status : status ≡ 0 = cc in
      absurd (bad (sym is.status_is ∙ zero_status))

  pub len-is : len_at es.puts (last_put events) ≡ object_len is.left
  len-is = by_test (ended_well is.left) refl
    where
      by_test : (test : Bool) → ended_well is.left ≡ test → len_at es.puts (last_put events) ≡ (if test then length is.left.object else 0)
      by_test true good = good-len ((Decides-eqb is.left.status 0).0 good)
      by_test false bad = bad-len (last_put events) refl (λ good. absurd (cc (bad, (Decides-eqb is.left.status 0).1 good)))
