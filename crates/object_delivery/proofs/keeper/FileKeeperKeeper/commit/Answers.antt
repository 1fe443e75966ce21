use Rattle.std.proofs.Common.{List, ℕ, sym, subst, ◌∙◌}
use Rattle.std.specs.Prelude.{None}
use Rattle.edge_traits.specs.Told.{Became}
use Rattle.edge_traits.specs.FileMaps.{files_after}
use Rattle.edge_traits.specs.Keepers.{HasPending}
use Rattle.object_delivery.specs.Staging.{keeper_view}
use Rattle.object_delivery.proofs.Delivering.{commit-inside}
use Rattle.object_delivery.proofs.keeper.FileKeeperKeeper.commit.Goals as goal

pub returns-clause-files : goal.returns-clause-files
returns-clause-files g c =
    subst (λ self. (path bytes : List ℕ) → HasPending (keeper_view (g.F.Files.shows self.files) self.pending) path bytes
    → Became (keeper_view (g.F.Files.shows self.files) self.pending).files
    (keeper_view (g.F.Files.shows c.finish.new.files) None).files
    (files_after (keeper_view (g.F.Files.shows self.files) self.pending).files.value path bytes c.finish.result)) c.self.view_is
    (commit-inside (g.F.Files.shows c.self.inside.files) (g.F.Files.shows c.finish.new.files) c.self.inside.pending
    c.in-Some.staging None c.finish.result (sym c.take.ensures.value ∙ c.in-Some.is) c.self.invariant c.finish.ensures.ok
    c.finish.ensures.err)
