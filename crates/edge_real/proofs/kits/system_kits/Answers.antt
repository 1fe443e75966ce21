use Rattle.std.proofs.Common.{rules}
use Rattle.edge_real.proofs.KitLemmas.{one_kit_more}
use Rattle.edge_real.proofs.kits.system_kits.Goals as goal

-- src/kits.rt:45:5
pub loop-preserved : goal.loop-preserved
loop-preserved g c = record {
  count = search rules;
  kits = one_kit_more c.args.rt c.args.settings.now.folder.now c.args.settings.now.process c.loop.kits.items c.push.new.self.items _
      c.in_ok-system_kit.ensures c.loop.invariant.kits c.in_ok-push.ensures.items;
}
