use Rattle.edge_real.proofs.KitLemmas.{one_kit_more}
use Rattle.edge_real.proofs.kits.watch_kits.Goals as goal

pub returns-clause-kits : goal.returns-clause-kits
returns-clause-kits g c =
    one_kit_more c.args.rt c.args.settings.now.folder.now c.args.settings.now.process c.in_ok-kits.kits.items c.push.new.self.items _ c.in_ok-system_kit.ensures
    c.in_ok-kits.ensures.kits c.in_ok-push.ensures.items
