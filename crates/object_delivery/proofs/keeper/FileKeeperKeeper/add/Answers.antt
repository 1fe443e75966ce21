use Rattle.std.proofs.Common.{sym, ◌∙◌}
use Rattle.object_delivery.proofs.Delivering.{staging-more}
use Rattle.object_delivery.proofs.keeper.FileKeeperKeeper.add.Goals as goal

pub invariant_of-self : goal.invariant_of-self
invariant_of-self g c =
    staging-more (g.F.Files.shows c.self.inside.files) (g.F.Files.shows c.fill-added.new.files) c.self.inside.pending
    c.in-Some.staging c.args.piece.now c.fill-added.result (sym c.take.ensures.value ∙ c.in-Some.is) c.self.invariant
    (sym c.is_ok.ensures.value ∙ c.if-is_ok.true) c.fill-added.ensures.ok
