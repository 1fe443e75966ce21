-- Kits that are made one after the other.
use Rattle.std.proofs.Common.{◌≡◌, ℕ, List, [], ◌∷◌, ◌++◌, sym, subst}
use Rattle.std.specs.Prelude.{All}
use Rattle.std.proofs.lemmas.List.Elements.{All-push}
use Rattle.edge_traits.specs.declared.kit.Kit.{Kit}
use Rattle.edge_sockets.specs.declared.tcp.TcpDialer.{TcpDialer}
use Rattle.edge_programs.specs.declared.child.ChildStation.{ChildStation}
use Rattle.edge_runs.specs.declared.run_watch.Unwatched.{Unwatched}
use Rattle.edge_files.specs.declared.disk.DiskFiles.{DiskFiles}
use Rattle.edge_streams.specs.declared.clock.WallClock.{WallClock}
use Rattle.object_delivery.specs.Staging.{Kept}
use Rattle.edge_real.specs.Kits.{IsSystemKit}

-- one kit more
pub one_kit_more : {R : Type 0} (rt : R) (folder : List ℕ) (process : ℕ)
    (kits more : List (Kit (TcpDialer R) (ChildStation R Unwatched) (Kept (DiskFiles R)) (WallClock R)))
    (kit : Kit (TcpDialer R) (ChildStation R Unwatched) (Kept (DiskFiles R)) (WallClock R))
    → IsSystemKit rt folder process kit → All (IsSystemKit rt folder process) kits → more ≡ kits ++ kit ∷ []
    → All (IsSystemKit rt folder process) more
one_kit_more rt folder process kits more kit is all grown =
    subst (All (IsSystemKit rt folder process)) (sym grown) (All-push (IsSystemKit rt folder process) kits kit all is)
