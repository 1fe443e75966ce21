use Rattle.std.proofs.Common.{subst}
use Rattle.std.specs.Prelude.{IfErr, OnOk}
use Rattle.edge_traits.specs.Keepers.{FetchCause, KeeperStill}
use Rattle.object_delivery.specs.Staging.{path_of, keeper_view}
use Rattle.object_delivery.proofs.Delivering.{fetched, fetch-cause, fetch-done}
use Rattle.object_delivery.proofs.keeper.FileKeeperKeeper.fetch.Goals as goal

pub returns-clause-whole : goal.returns-clause-whole
returns-clause-whole g c = fetched c.args.path.now c.args.bound (g.F.Files.shows c.load.new.self) (path_of c.self.inside.pending)
    c.load.result c.requires.name c.load.ensures.whole

pub returns-clause-cause : goal.returns-clause-cause
returns-clause-cause g c =
    subst (λ self. IfErr c.load.result
    (FetchCause c.args.path.now c.args.bound (keeper_view (g.F.Files.shows self.files) self.pending)
    (keeper_view (g.F.Files.shows c.load.new.self) (path_of c.self.inside.pending)))) c.self.view_is
    (fetch-cause c.args.path.now c.args.bound (g.F.Files.shows c.self.inside.files) (g.F.Files.shows c.load.new.self)
    (path_of c.self.inside.pending) (path_of c.self.inside.pending) c.load.result c.requires.name c.load.ensures.cause)

pub returns-clause-done : goal.returns-clause-done
returns-clause-done g c =
    subst (λ self. OnOk c.load.result
    (KeeperStill (keeper_view (g.F.Files.shows self.files) self.pending)
    (keeper_view (g.F.Files.shows c.load.new.self) (path_of c.self.inside.pending)))) c.self.view_is
    (fetch-done (g.F.Files.shows c.self.inside.files) (g.F.Files.shows c.load.new.self) (path_of c.self.inside.pending)
    (path_of c.self.inside.pending) c.load.result c.load.ensures.done)
