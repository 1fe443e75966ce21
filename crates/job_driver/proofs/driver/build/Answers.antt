use Rattle.std.proofs.Common.{refl, subst, sym, arith}
use Rattle.slot_table.specs.declared.limits.Limits.{Limits}
use Rattle.job_driver.specs.Workers.{AreSlotsFor}
use Rattle.job_driver.proofs.Building.{done-of, ran-as}
use Rattle.job_driver.proofs.driver.build.Goals as goal

pub close_run-requires-clause-done : goal.close_run-requires-clause-done
close_run-requires-clause-done g c = record {
  jobs = c.args.jobs.now;
  config = c.args.config.now;
  before = c.in_ok-run.run'.workers.items;
  done = done-of c.requires.kits.some c.in_ok-run.ensures.opened refl refl refl refl refl c.work_all.ensures.len.1 c.work_all.ensures.each;
}

pub work_all-requires-clause-ready : goal.work_all-requires-clause-ready
work_all-requires-clause-ready g c κs within =
    let opened = c.in_ok-run.ensures.opened in record {
      some = let m = opened.many in let s = c.requires.kits.some in omega (arith, m, s);
      each = opened.ready;
    }

pub returns-clause-built : goal.returns-clause-built
returns-clause-built g c = record {
  ran = ran-as c.in_ok-run.ensures.opened.many c.in_ok-run.ensures.kits.1
      (c.close_run.ensures.ran c.args.jobs.now c.args.config.now c.in_ok-run.run'.workers.items
      (done-of c.requires.kits.some c.in_ok-run.ensures.opened refl refl refl refl refl c.work_all.ensures.len.1 c.work_all.ensures.each));
  slots = subst (λ (l : Limits 16). AreSlotsFor c.args.jobs.now c.args.config.now l) (sym c.close_run.ensures.limits)
      c.in_ok-run.ensures.opened.slots;
}
