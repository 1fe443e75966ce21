use Rattle.std.proofs.Common.{ℕ, ◌<◌, List, refl, length, map, subst, sym, ap, ◌∙◌, arith}
use Rattle.std.proofs.lemmas.List.{length-map}
use Rattle.slot_table.specs.declared.limits.Limits.{Limits}
use Rattle.farm_machine.specs.declared.reports.Report.{Report}
use Rattle.progress_lines.specs.Counts.{known}
use Rattle.job_driver.specs.Marks.{rows_of}
use Rattle.job_driver.specs.Workers.{AreSlotsFor}
use Rattle.job_driver.specs.Watching.{board_marked, AreMarked, LinesTellOf}
use Rattle.job_driver.proofs.Building.{done-of, first-of, ran-as}
use Rattle.job_driver.proofs.Watching.{marked-from}
use Rattle.job_driver.proofs.watched.build_beside.Goals as goal

pub close_run-requires-clause-done : goal.close_run-requires-clause-done
close_run-requires-clause-done g c = record {
  jobs = c.args.plan.jobs.now;
  config = c.args.plan.config.now;
  before = c.in_ok-run.run'.workers.items;
  done = done-of c.requires.kits.some c.in_ok-run.ensures.opened refl refl refl refl refl c.work_beside-end.ensures.len.1
      c.work_beside-end.ensures.each;
}

pub returns-clause-built : goal.returns-clause-built
returns-clause-built g c = record {
  ran = ran-as c.in_ok-run.ensures.opened.many c.in_ok-run.ensures.kits.1
      (c.close_run.ensures.ran c.args.plan.jobs.now c.args.plan.config.now c.in_ok-run.run'.workers.items
      (done-of c.requires.kits.some c.in_ok-run.ensures.opened refl refl refl refl refl c.work_beside-end.ensures.len.1
      c.work_beside-end.ensures.each));
  slots = subst (λ (l : Limits 16). AreSlotsFor c.args.plan.jobs.now c.args.plan.config.now l) (sym c.close_run.ensures.limits)
      c.in_ok-run.ensures.opened.slots;
}

pub work_beside-end-requires-clause-ready : goal.work_beside-end-requires-clause-ready
work_beside-end-requires-clause-ready g c κs within =
    let opened = c.in_ok-run.ensures.opened in record {
      some = let m = opened.many in let s = c.requires.kits.some in omega (arith, m, s);
      each = opened.ready;
    }

pub returns-clause-watched : goal.returns-clause-watched
returns-clause-watched g c =
    let many = c.in_ok-run.ensures.opened.many in
    let w = c.work_beside-end.ensures.watched in record {
      watchers = w.watchers ∙ many;
      paused = w.paused;
      printed = subst
          (λ (k : ℕ). LinesTellOf (length c.args.plan.jobs.now) k c.args.beside.now.watch.lines
          (known c.work_beside-end.new.beside.watch.watchers.items) (g.E.Sink.shows c.args.err.now)
          (g.E.Sink.shows c.work_beside-end.new.err) c.work_beside-end.result) many w.printed;
    }

pub returns-clause-len : goal.returns-clause-len
returns-clause-len g c = (returns-clause-built g c).ran.same

pub returns-clause-markers : goal.returns-clause-markers
returns-clause-markers g c =
    let back = c.work_beside-end.ensures.back.boards in
    let w = (returns-clause-watched g c).watchers in
    sym (length-map c.work_beside-end.new.beside.markers.items board_marked) ∙ ap length back
    ∙ length-map c.work_beside-end.new.beside.watch.watchers.items _ ∙ w

pub returns-clause-marked : goal.returns-clause-marked
returns-clause-marked g c =
    let run = c.in_ok-run.run' in
    let opened = c.in_ok-run.ensures.opened in
    let new = c.work_beside-end.new.beside.markers.items in
    let many = returns-clause-markers g c in
    let fits = c.requires.fits in
    let some = c.requires.kits.some in
    first-of (AreMarked c.close_run.result.reports new) run.workers.items (let m = opened.many in omega (arith, m, some))
    (λ first worker other below all.
    let less : worker < length run.workers.items = let m = opened.many in omega (arith, m, many, below) in
    let inside : worker < length c.args.beside.now.markers.items = let m = fits.markers in omega (arith, m, many, below) in
    marked-from _ _ _ (fits.fresh worker other inside) (c.work_beside-end.ensures.marked worker other first less) all
    ∙ ap (λ (rs : List Report). rows_of 0 (map (λ report. report.number) rs))
    (sym (c.close_run.ensures.reports c.args.plan.jobs.now c.args.plan.config.now run.workers.items
    (done-of some opened refl refl refl refl refl c.work_beside-end.ensures.len.1 c.work_beside-end.ensures.each) worker first less)))
