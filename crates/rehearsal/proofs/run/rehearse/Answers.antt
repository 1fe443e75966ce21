use Rattle.std.proofs.Common.{◌≡◌, length, ap, ◌∙◌, sym, subst, arith}
use Rattle.farm_machine.specs.Usable.{AreDoable}
use Rattle.rehearsal.specs.Rehearsals.{rehearsal_workers}
use Rattle.rehearsal.proofs.Rehearsing.{job_number, doable, rehearsed}
use Rattle.rehearsal.proofs.run.rehearse.Goals as goal

pub build-requires-clause-jobs : goal.build-requires-clause-jobs
build-requires-clause-jobs g c κs within = subst AreDoable (sym c.in_ok-jobs.ensures.jobs) (doable c.args.n c.requires.some c.requires.most)

pub count_reports-count-requires : goal.count_reports-count-requires
count_reports-count-requires g c =
    let all : length c.as_slice-2.result.now ≡ c.args.n =
    ap length c.as_slice-2.ensures ∙ c.in_ok-built.ensures.built.ran.are_read.one ∙ c.in_ok-built.ensures.built.slots.number
    ∙ ap length c.in_ok-jobs.ensures.jobs ∙ job_number c.args.n in
    omega (arith, all, c.requires.most)

pub returns : goal.returns
returns g c =
    let number : c.min-workers.result ≡ rehearsal_workers c.args.n = let min = c.min-workers.ensures in omega (arith, min) in
    rehearsed (record {
      sent = c.runs_of_jobs.ensures.sent;
      preprocessed = c.runs_of_jobs.ensures.preprocessed;
      compiled = c.runs_of_jobs.ensures.compiled;
    }) c.put_law.ensures
    c.args.n c.requires.some c.requires.most c.in_ok-built.built c.in_ok-jobs.field-0.jobs c.in_ok-config.config c.min-workers.result
    c.in_ok-kits.kits.items c.build.new.kits.items c.as_slice.result.now c.as_slice-2.result.now c.count_reports-count.result
    c.in_ok-jobs.ensures.jobs c.in_ok-config.ensures number c.in_ok-kits.ensures.count c.in_ok-kits.ensures.fresh
    c.in_ok-built.ensures.built.slots.hosts c.in_ok-built.ensures.built.slots.number c.in_ok-built.ensures.built.ran
    c.as_slice.ensures.value c.as_slice-2.ensures c.count_reports-count.ensures
