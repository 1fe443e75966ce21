-- What each report of a rehearsal tells.
use Rattle.std.proofs.Common.{◌≡◌, inl, ℕ, ◌+◌, ◌<◌, ◌≤◌, true, List, [], ◌++◌, length, Some, refl, sym, ap, ◌∙◌, subst, arith}
use Rattle.std.specs.Prelude.{All, slice_get, slice_index_or}
use Rattle.std.proofs.lemmas.Option.{slice_get-get_or}
use Rattle.std.proofs.lemmas.List.Elements.{All-get_or}
use Rattle.std.proofs.lemmas.List.FromFn.{get_or-map-range_with_len}
use Rattle.farm_types.specs.Limits.{jobs_max, period_default}
use Rattle.slot_table.specs.declared.calls.CallEntry.{CallEntry}
use Rattle.slot_table.specs.declared.limits.Limits.{Limits}
use Rattle.slot_table.specs.declared.state.SlotState.{SlotState}
use Rattle.edge_traits.specs.declared.entries.Put.{Put}
use Rattle.edge_traits.specs.Causes.{Rose}
use Rattle.edge_traits.specs.Deeds.{puts_in}
use Rattle.farm_types.specs.declared.ran.Ran.{Ran}
use Rattle.farm_machine.specs.declared.reports.End.{End}
use Rattle.farm_machine.specs.declared.reports.End.TheVariants.{Done, Failed}
use Rattle.farm_machine.specs.declared.reports.Report.{Report}
use Rattle.farm_machine.specs.Acts.{ReadsAll, deeds_of}
use Rattle.farm_machine.specs.Course.{Course}
use Rattle.farm_machine.specs.Honest.{AllRan, IsHonest}
use Rattle.farm_machine.specs.Jobs.{Job, job_of}
use Rattle.course_laws.specs.Laws.{PutLaw}
use Rattle.course_laws.specs.Answers.{IsAnswered}
use Rattle.course_laws.specs.Returns.{IsCalm, is_done_or_wanted}
use Rattle.job_driver.specs.Driven.{JobsRan}
use Rattle.farm_machine.specs.Usable.{job_at}
use Rattle.job_driver.specs.Means.{RunMeans}
use Rattle.job_driver.proofs.Meaning.{means}
use Rattle.loop_link.specs.Dialers.{DialerGives}
use Rattle.sample_compiler.specs.Samples.{SampleOf}
use Rattle.sample_compiler.specs.Stations.{StationRan, station_files}
use Rattle.workload.specs.Loads.{job_words, jobs_of, files_of}
use Rattle.rehearsal.specs.Counts.{RehearsalKit, puts_at, puts_of, last_put, len_at, report_len, IsDone}
use Rattle.rehearsal.specs.Devices.{compiler_files}
use Rattle.rehearsal.specs.Rehearsals.{rehearsal_config, loop_devices, IsFresh, object_len, EndsAs}
use Rattle.rehearsal.proofs.OneJob.{RunLaws, LeftAs, left-as, len-is}

-- the job was done as the compiler leaves it, and its object has this length
pub record Counted (n job : ℕ) (puts : ℕ → List Put) (report : Report) : Type 0 where
  pub left : Ran
  pub sample : SampleOf (files_of n) (job_words job) left
  pub ends : EndsAs report.end left
  pub len : report_len puts report ≡ object_len left

-- what a report tells of its job: it was done, or memory was wanting; and where it was done, how
pub record TellsOf (n job : ℕ) (puts : ℕ → List Put) (report : Report) : Type 0 where
  pub returned : is_done_or_wanted report.end ≡ true
  pub counted : IsDone report.end → Counted n job puts report

-- counts that stand still never rise
still : Rose 0 0 → ⊥
still rose = omega (arith, rose)

calm : (old new : RehearsalKit) → IsCalm (loop_devices.shows old) (loop_devices.shows new)
calm old new = record { station = still; station_overruns = still; keeper = still; keeper_overruns = still }

module _ (laws : RunLaws) (put_law : PutLaw) (n : ℕ) (most : n ≤ jobs_max)
    (l : Limits 16) (all : l.jobs ≡ n) (workers : ℕ) (reports : List Report)
    (history : List CallEntry) (last : SlotState 16) (old new : List RehearsalKit) (fresh : All (IsFresh (files_of n)) old)
    (enough : workers ≤ length old)
    (ran : JobsRan loop_devices l (job_at (jobs_of n) rehearsal_config) period_default workers reports history last old new)
    (other : RehearsalKit) where
  run : RunMeans loop_devices l (job_at (jobs_of n) rehearsal_config) workers reports ran.read last old new
  run = means loop_devices l (job_at (jobs_of n) rehearsal_config) period_default workers reports history last old new ran

  abbrev job_number : ℕ → Job
  job_number j = job_of (job_words (j + 1)) rehearsal_config

  job_is : (j : ℕ) → j < n → job_at (jobs_of n) rehearsal_config j ≡ job_number j
  job_is j below = ap (λ words. job_of words rehearsal_config) (get_or-map-range_with_len job_words 1 n j (j + 1) [] below (omega arith))

  fresh_kit : (worker : ℕ) → worker < workers → IsFresh (files_of n) (slice_index_or old worker other)
  fresh_kit worker below = All-get_or (IsFresh (files_of n)) old worker other (omega (arith, below, enough)) fresh

  -- what a worker's keeper was given are the puts that the reports name
  kit_puts : (worker : ℕ) → worker < workers → puts_of new worker ≡ (ran.entries worker).puts
  kit_puts worker below =
      let did = ran.kits worker other below in
      let within : worker < length new = (let same = ran.same in omega (arith, same, below, enough)) in
      ap puts_at (slice_get-get_or new worker other within)
      ∙ did.did.puts.grew refl
      ∙ ap (λ (ps : List Put). ps ++ puts_in (deeds_of did.acts)) (fresh_kit worker below).none_put
      ∙ ap (λ es. es.puts) (sym did.entries_are)

  answered : (j : ℕ) → j < n → IsAnswered (StationRan (files_of n)) (job_number j) (ran.read.acts j) (ran.read.ends j)
  answered j below =
      let within : j < l.jobs = omega (arith, below, all) in
      let worker = ran.read.worker j in
      let kit = fresh_kit worker (ran.by_workers j within) in
      let peers = DialerGives (λ s. StationRan (station_files s)) (slice_index_or old worker other).dialer in
      let honest : IsHonest peers (StationRan (compiler_files (slice_index_or old worker other).station)) =
      subst (λ files. IsHonest peers (StationRan files)) (sym kit.station) kit.honest in
      subst (λ job. IsAnswered (StationRan (files_of n)) job (ran.read.acts j) (ran.read.ends j)) (job_is j below)
      (subst (λ files. IsAnswered (StationRan files) (job_at (jobs_of n) rehearsal_config j) (ran.read.acts j) (ran.read.ends j))
      kit.station
      (run.honest_ends j other within refl (inl (honest, refl, refl))))

  left : (j : ℕ) → j < n → LeftAs n (j + 1) (ran.read.acts j) (ran.read.ends j)
  left j below =
      let within : j < l.jobs = omega (arith, below, all) in
      let kit = fresh_kit (ran.read.worker j) (ran.by_workers j within) in
      left-as laws n (j + 1) rehearsal_config most (omega arith) (omega (arith, below)) (ran.read.acts j) (ran.read.ends j)
      (subst (λ job. Course job (ran.read.acts j) (ran.read.ends j)) (job_is j below) (run.courses j within))
      (subst (λ files. AllRan (StationRan files) (ran.read.acts j)) kit.station (run.may_leave j other within))
      (answered j below)

  by_end : (j : ℕ) (report : Report) (end : End) → j < n → report.end ≡ end → report.worker ≡ ran.read.worker j
      → ReadsAll (ran.entries report.worker) report.events (ran.read.acts j) → Course (job_number j) (ran.read.acts j) end
      → LeftAs n (j + 1) (ran.read.acts j) end
      → IsDone report.end → Counted n (j + 1) (puts_of new) report
  by_end j report (Failed why) below same worker reads course is done = absurd (subst IsDone same done)
  by_end j report (Done status note err out by) below same worker reads course is done =
      let within : j < l.jobs = omega (arith, below, all) in
      let puts : puts_of new report.worker ≡ (ran.entries report.worker).puts =
      kit_puts report.worker (subst (λ w. w < workers) (sym worker) (ran.by_workers j within)) in
      record {
        left = is.left;
        sample = is.sample;
        ends = subst (λ end. EndsAs end is.left) (sym same) (is.status_is, is.err_is, is.out_is);
        len = ap (λ (ps : List Put). len_at ps (last_put report.events)) puts
            ∙ len-is put_law n (j + 1) (job_number j) (ran.entries report.worker) report.events (ran.read.acts j) reads status note
            err out by course is;
      }

  pub telling : (j : ℕ) (report : Report) → j < n → slice_get reports j ≡ Some report → TellsOf n (j + 1) (puts_of new) report
  telling j report below there =
      let within : j < l.jobs = omega (arith, below, all) in
      let is = ran.are_read.each j report there in
      record {
        returned = ap is_done_or_wanted is.end
            ∙ run.returns j other within refl
            (calm (slice_index_or old (ran.read.worker j) other) (slice_index_or new (ran.read.worker j) other));
        counted = by_end j report (ran.read.ends j) below is.end is.worker is.acts
            (subst (λ job. Course job (ran.read.acts j) (ran.read.ends j)) (job_is j below) (run.courses j within)) (left j below);
      }
