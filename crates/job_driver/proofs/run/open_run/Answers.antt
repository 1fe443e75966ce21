use Rattle.std.proofs.Common.{◌≡◌, ℕ, List, [], length, sym, ap, ◌∙◌, subst, arith}
use Rattle.std.specs.Prelude.{All}
use Rattle.std.proofs.lemmas.List.{length-map}
use Rattle.std.proofs.lemmas.List.Elements.{All-take}
use Rattle.slot_table.specs.declared.limits.Limits.{Limits}
use Rattle.edge_traits.specs.Keepers.{IsIdle}
use Rattle.farm_machine.specs.Devices.{devices}
use Rattle.farm_machine.specs.Jobs.{AreLimitsOf}
use Rattle.farm_cell.specs.declared.cell.Pass.{Pass}
use Rattle.farm_cell.specs.Ends.{AreAllOf}
use Rattle.farm_cell.specs.Passes.{seen_of, mine_of}
use Rattle.job_driver.specs.declared.workers.Reserve.{Reserve}
use Rattle.job_driver.specs.Workers.{reserve_of, HasRoom}
use Rattle.job_driver.specs.Runs.{AreFresh}
use Rattle.job_driver.proofs.Building.{ready-all}
use Rattle.job_driver.proofs.run.open_run.Goals as goal

pub returns-clause-opened : goal.returns-clause-opened
returns-clause-opened g c =
    let h = c.set_up.ensures in
    let new = c.in_ok-cell.ensures in
    let d = devices g.D.Dialer.shows g.S.Station.shows g.K.Keeper.shows g.C.Clock.shows g.D.Dialer.may_give g.S.Station.ran in
    let many : length c.set_up.new.workers.items ≡ c.args.workers =
    sym (length-map c.set_up.new.workers.items reserve_of) ∙ ap length h.reserves.1 ∙ c.in_ok-reserves.ensures.len in
    let fresh : AreFresh d c.in_ok-cell.cell (length c.args.plan.jobs.now) c.set_up.new.workers.items = record {
      passes = subst (AreAllOf c.in_ok-cell.cell) (sym h.passes.1) new.passes;
      blank = subst (λ (ps : List Pass). All (λ p. (seen_of p ≡ []) × (mine_of p ≡ [])) ps) (sym h.passes.1) new.blank;
      reserves = subst (λ (ds : List Reserve). All (λ reserve. HasRoom (length c.args.plan.jobs.now) reserve) ds) (sym h.reserves.1)
          (subst (λ (n : ℕ). All (λ reserve. HasRoom n reserve) c.in_ok-reserves.reserves.items)
          c.len-jobs.ensures c.in_ok-reserves.ensures.room);
      idle = subst (All (λ kit. IsIdle (g.K.Keeper.shows kit.keeper))) (sym (h.kits.1 ∙ c.in_ok-unused.ensures.items))
          (All-take (λ kit. IsIdle (g.K.Keeper.shows kit.keeper)) c.args.workers c.args.kits.now.items c.requires.kits.idle);
    } in
    let number : c.in_ok-cell.cell.limits.jobs ≡ length c.args.plan.jobs.now = ap (λ (l : Limits 16). l.jobs) new.limits
    ∙ c.limits_of-limits.ensures.jobs ∙ c.len-jobs.ensures in
    record {
      many = many;
      fresh = fresh;
      ready = ready-all c.set_up.new.workers.items fresh;
      slots = record {
        hosts = subst (λ (l : Limits 16). AreLimitsOf l c.args.plan.config.now.hosts) (sym new.limits) c.limits_of-limits.ensures.hosts;
        number = number;
      };
      room = record {
        passes = h.passes.0;
        reserves = h.reserves.0;
        reports = c.in_ok-reports.ensures.items;
        for_passes = h.room.1;
        for_reserves = h.room.2;
        for_reports = let a = c.len-jobs.ensures in let b = c.in_ok-reports.ensures.capacity in omega (arith, a, b);
      };
    }
