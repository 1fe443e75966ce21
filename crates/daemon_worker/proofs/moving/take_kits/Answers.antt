use Rattle.std.proofs.Common.{sym, subst, arith, vec_len, vec_capacity, Vec, Global}
use Rattle.std.specs.Prelude.{All, Some}
use Rattle.std.proofs.lemmas.Grind.{common_steps}
use Rattle.std.proofs.lemmas.List.Elements.{All-pop, All-push}
use Rattle.daemon_worker.specs.declared.log.Entry.{Entry}
use Rattle.daemon_worker.specs.Workers.{IsReady, IsRoom}
use Rattle.daemon_worker.proofs.KitMoves.{one_moved, all_moved}
use Rattle.daemon_worker.proofs.moving.take_kits.Goals as goal

pub returns-clause-kits : goal.returns-clause-kits
returns-clause-kits g c = all_moved c.moving.doors.items c.args.doors.now.items c.moving.workers.items c.moving.invariant.kits

pub moving-preserved : goal.moving-preserved
moving-preserved g c =
    let before = c.moving.invariant in
    let Room : Vec Entry Global → Type 0 = λ log. IsRoom c.args.serve log.items (vec_len log) (vec_capacity log) in
    let popped = All-pop Room c.moving.logs.items c.pop.new.self.items (Some c.in-Some.log) c.in-Some.ensures.items before.rooms in
    record {
      kits = one_moved c.moving.doors.items c.pop-in-Some.new.self.items _ c.moving.workers.items c.push_reserved.new.self.items _
          c.in-Some-pop.ensures.items c.push_reserved.ensures.items before.kits;
      left = grind (arith, common_steps);
      many = grind (arith, common_steps);
      rooms = popped.0;
      ready = subst (All (IsReady c.args.serve)) (sym c.push_reserved.ensures.items)
          (All-push (IsReady c.args.serve) c.moving.workers.items _ before.ready popped.1);
      space = grind (arith, common_steps);
      back = grind (arith, common_steps);
    }
