-- From what the driver did to the rehearsal.
use Rattle.std.proofs.Common.{◌≡◌, ℕ, ◌<◌, ◌≤◌, List, length, Option, ap, ◌∙◌, subst, arith}
use Rattle.std.specs.Prelude.{All}
use Rattle.std.specs.List.{range_with_len}
use Rattle.std.proofs.lemmas.List.Elements.{All-map}
use Rattle.std.proofs.lemmas.List.FromFn.{length-map-range_with_len}
use Rattle.farm_types.specs.Limits.{jobs_max, period_default}
use Rattle.farm_cell.specs.Passes.{seen_of}
use Rattle.farm_machine.specs.declared.reports.Report.{Report}
use Rattle.farm_machine.specs.Jobs.{AreLimitsOf}
use Rattle.farm_types.specs.declared.jobs.JobConfig.{JobConfig}
use Rattle.course_laws.specs.Laws.{PutLaw}
use Rattle.job_driver.specs.declared.driver.Built.{Built}
use Rattle.job_driver.specs.Driven.{JobsRan}
use Rattle.farm_machine.specs.Usable.{job_at, AreDoable}
use Rattle.job_driver.proofs.Building.{first-of}
use Rattle.workload.specs.Loads.{job_words, jobs_of, files_of}
use Rattle.rehearsal.specs.declared.numbers.Count.{Count}
use Rattle.rehearsal.specs.Counts.{RehearsalKit, puts_of, CountsDone}
use Rattle.rehearsal.specs.Rehearsals.{rehearsal_config, rehearsal_workers, loop_devices, IsFresh, IsRehearsal}
use Rattle.rehearsal.proofs.OneJob.{RunLaws}
use Rattle.rehearsal.proofs.Reporting.{telling}
use Rattle.rehearsal.proofs.Counting.{all_returned, all_told}

pub job_number : (n : ℕ) → length (jobs_of n) ≡ n
job_number n = length-map-range_with_len job_words 1 n

-- the jobs of the workload may be done
pub doable : (n : ℕ) → 1 ≤ n → n ≤ jobs_max → AreDoable (jobs_of n)
doable n some most = record {
  some = omega (arith, some, job_number n);
  most = omega (arith, most, job_number n);
  words = All-map (λ words. 0 < length words) job_words (range_with_len 1 n) (λ k d below. omega arith);
}

module _ (laws : RunLaws) (put_law : PutLaw) (n : ℕ) (some : 1 ≤ n) (most : n ≤ jobs_max) where
  pub rehearsed : (built : Built) (jobs : List (List (List ℕ))) (config : JobConfig) (workers : ℕ)
      (old new seen : List RehearsalKit) (reports : List Report) (count : Option Count)
      → jobs ≡ jobs_of n → config ≡ rehearsal_config → workers ≡ rehearsal_workers n → length old ≡ workers → All (IsFresh (files_of n)) old
      → AreLimitsOf built.last.limits config.hosts → built.last.limits.jobs ≡ length jobs
      → JobsRan loop_devices built.last.limits (job_at jobs config) config.period workers built.reports (seen_of built.pass)
      built.last.state old new
      → seen ≡ new → reports ≡ built.reports → CountsDone (puts_of seen) reports count → IsRehearsal n built count
  rehearsed built jobs config workers old new seen reports count jobs_are config_is workers_are many fresh limits number ran
      seen_are reports_are counts =
      let l = built.last.limits in
      let all : l.jobs ≡ n = number ∙ ap length jobs_are ∙ job_number n in
      let ran_by : JobsRan loop_devices l (job_at (jobs_of n) rehearsal_config) period_default (rehearsal_workers n) built.reports
      (seen_of built.pass) built.last.state old new =
      subst (λ w. JobsRan loop_devices l (job_at (jobs_of n) rehearsal_config) period_default w built.reports
      (seen_of built.pass) built.last.state old new) workers_are
      (subst (λ (c : JobConfig). JobsRan loop_devices l (job_at (jobs_of n) c) c.period workers built.reports (seen_of built.pass)
      built.last.state old new) config_is
      (subst (λ js. JobsRan loop_devices l (job_at js config) config.period workers built.reports (seen_of built.pass)
      built.last.state old new) jobs_are ran)) in
      let one_each : length built.reports ≡ n = ran_by.are_read.one ∙ all in
      let counted : CountsDone (puts_of new) built.reports count =
      subst (λ ks. CountsDone (puts_of ks) built.reports count) seen_are
      (subst (λ rs. CountsDone (puts_of seen) rs count) reports_are counts) in
      let enough : rehearsal_workers n ≤ length old = omega (arith, many, workers_are) in
      let kits : 0 < length old = omega (arith, many, workers_are, some) in
      first-of (IsRehearsal n built count) old kits (λ other.
      let told = telling laws put_law n most l all (rehearsal_workers n) built.reports (seen_of built.pass) built.last.state old new fresh
      enough ran_by other in
      record {
        of_hosts = subst (λ (c : JobConfig). AreLimitsOf l c.hosts) config_is limits;
        of_jobs = all;
        old = old;
        fresh = fresh;
        new = new;
        ran = ran_by;
        one_each = one_each;
        returned = all_returned n (puts_of new) built.reports one_each told;
        tells = all_told n (puts_of new) built.reports one_each told count counted;
      })
