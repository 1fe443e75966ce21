use Rattle.std.proofs.Common.{[], ◌∷◌, length, ap, ◌∙◌, arith, length-append}
use Rattle.farm_monitor.specs.declared.progress.Progress.{Progress}
use Rattle.farm_monitor.specs.Boards.{shown_rows}
use Rattle.farm_monitor.specs.Rows.{opening_row}
use Rattle.farm_monitor.proofs.Adding.{last_snoc}
use Rattle.job_driver.specs.Marks.{ended_in}
use Rattle.job_driver.proofs.marker.Marker.mark.Goals as goal

pub invariant_of-self-in-Ok : goal.invariant_of-self-in-Ok
invariant_of-self-in-Ok g c =
    let before = shown_rows c.args.self.now.shower in
    let row : Progress = record { job = c.args.job; ended = c.args.ended } in
    record {
      same = λ all. ap ended_in c.in-Ok.ensures.ok ∙ ap (λ (p : Progress). p.ended) (last_snoc opening_row before row);
      counted = λ all.
          let few = c.args.self.now.counted all in
          let one = c.in-Some.ensures in
          let len = ap length c.in-Ok.ensures.ok in
          let sum = length-append before (row ∷ []) in
          omega (arith, few, one, len, sum);
    }
