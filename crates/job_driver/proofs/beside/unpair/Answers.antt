use Rattle.std.proofs.Common.{arith}
use Rattle.job_driver.specs.Watching.{worker_of, marker_of}
use Rattle.job_driver.proofs.SettingUp.{moved-more}
use Rattle.job_driver.proofs.beside.unpair.Goals as goal

pub loop-marked-preserved : goal.loop-marked-preserved
loop-marked-preserved g c =
    let at = c.loop-marked in
    let i = at.invariant in
    let is = c.in-Some.ensures.items in
    let pairs = at.pairs.items in
    let rest = c.pop.new.self.items in
    let one = c.in-Some.ensures.cases in record {
      workers = moved-more worker_of _ at.workers.items _ pairs rest c.in-Some.marked is i.workers c.push_reserved.ensures.items;
      markers = moved-more marker_of _ at.markers.items _ pairs rest c.in-Some.marked is i.markers c.push_reserved-in-Some.ensures.items;
      workers_room = let len = c.push_reserved.ensures.len in let room = c.push_reserved.ensures.capacity in let r =
          i.workers_room in omega (arith, one, len, room, r);
      markers_room = let len = c.push_reserved-in-Some.ensures.len in let room = c.push_reserved-in-Some.ensures.capacity in let r =
          i.markers_room in omega (arith, one, len, room, r);
    }
