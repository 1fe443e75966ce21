use Rattle.std.proofs.Common.{sym, ◌∙◌}
use Rattle.object_delivery.proofs.Delivering.{staging-begins}
use Rattle.object_delivery.proofs.keeper.FileKeeperKeeper.begin.Goals as goal

pub invariant_of-self : goal.invariant_of-self
invariant_of-self g c =
    staging-begins (g.F.Files.shows c.self.inside.files) (g.F.Files.shows c.create-created.new.files) c.args.path.now
    c.in_ok-path.path c.in_ok-name.name c.create-created.result c.in_ok-name.ensures c.in_ok-path.ensures c.requires.name
    (sym c.is_ok.ensures.value ∙ c.if-is_ok.true) c.create-created.ensures.ok
