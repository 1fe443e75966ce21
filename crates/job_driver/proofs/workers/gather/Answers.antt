use Rattle.std.proofs.Common.{◌∷◌, [], reverse, arith, ap, ◌∙◌}
use Rattle.std.proofs.lemmas.List.{reverse-append}
use Rattle.job_driver.specs.Workers.{reports_on}
use Rattle.job_driver.proofs.SettingUp.{gathered-more, gathered-room}
use Rattle.job_driver.proofs.workers.gather.Goals as goal

pub loop-reserve-preserved : goal.loop-reserve-preserved
loop-reserve-preserved c =
    let is = c.in-Some.ensures.items in
    let back = ap reverse is ∙ reverse-append c.pop.new.self.items (c.in-Some.reserve ∷ []) in
    let room = gathered-room reports_on c.loop-reserve.reserves.items c.pop.new.self.items c.in-Some.reserve is in
    record {
      reports = gathered-more reports_on _ c.loop-reserve.reports.items _ [] c.loop-reserve.reserves.items
          c.pop.new.self.items c.in-Some.reserve is
          back c.loop-reserve.invariant.reports c.in-Ok.ensures.items;
      room =
          let len = c.in-Ok.ensures.len in
          let i = c.loop-reserve.invariant.room in
          let k = c.in-Ok.ensures.capacity in
          let own = c.in-Some.reserve.reports.ok in
          omega (arith, len, i, k, room, own);
    }
