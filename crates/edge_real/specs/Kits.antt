-- The devices of one worker, as they begin.
use Rattle.std.specs.Prelude.{◌≡◌, ℕ, List, None}
use Rattle.edge_traits.specs.declared.kit.Kit.{Kit}
use Rattle.edge_sockets.specs.declared.tcp.TcpDialer.{TcpDialer}
use Rattle.edge_programs.specs.declared.child.ChildStation.{ChildStation}
use Rattle.edge_runs.specs.declared.run_watch.Unwatched.{Unwatched}
use Rattle.edge_files.specs.declared.disk.DiskFiles.{DiskFiles}
use Rattle.edge_streams.specs.declared.clock.WallClock.{WallClock}
use Rattle.object_delivery.specs.Staging.{Kept}
use Rattle.edge_files.specs.OwnNames.{first_names}
use Rattle.edge_sockets.specs.Views.{dialer_view, counted_dialer}
use Rattle.edge_programs.specs.Views.{station_view, counted_station, folder_of}
use Rattle.edge_files.specs.Views.{files_view, counted_files}
use Rattle.edge_files.specs.Views.{files_names}
use Rattle.edge_streams.specs.Views.{runtime_of}

-- nothing happened yet, the folders of the station's runs are made in this folder, and what is for a device is written there, under
-- the number of this process
pub record IsSystemKit {R : Type 0} (rt : R) (folder : List ℕ) (process : ℕ)
    (kit : Kit (TcpDialer R) (ChildStation R Unwatched) (Kept (DiskFiles R)) (WallClock R)) : Type 0 where
  pub dialer : dialer_view kit.dialer ≡ counted_dialer 0
  pub station : station_view kit.station ≡ counted_station 0 0
  pub runs : folder_of kit.station ≡ folder
  pub keeper : files_view kit.keeper.files ≡ counted_files 0 0
  pub staged : files_names kit.keeper.files ≡ first_names folder process
  pub idle : kit.keeper.pending ≡ None
  pub clock : runtime_of kit.clock ≡ rt
