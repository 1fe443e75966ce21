-- The devices of a rehearsal, whose counts stay.
use Rattle.std.specs.Prelude.{[]}
use Rattle.std.specs.FinMap.{from_entries}
use Rattle.edge_traits.specs.Told.{told, untold}
use Rattle.edge_traits.specs.Keepers.{KeeperView}
use Rattle.edge_traits.specs.Stations.{StationView}
use Rattle.edge_memory.specs.Keepers.{pending_of}
use Rattle.file_map.specs.FileMaps.{Files}
use Rattle.sample_compiler.specs.Stations.{station_files, station_shows}
use Rattle.rehearsal.specs.declared.keeper.StillKeeper.{StillKeeper}
use Rattle.rehearsal.specs.declared.station.StillStation.{StillStation}

abbrev pub compiler_files : StillStation → Files
compiler_files station = station_files station.inner

-- the station shows its runs, and its counts stay 0
abbrev pub compiler_shows : StillStation → StationView
compiler_shows station = record { runs = (station_shows station.inner).runs; faults = 0; overruns = 0 }

-- the keeper says what was put, and its counts stay
abbrev pub keeper_shows : StillKeeper → KeeperView
keeper_shows keeper = record {
  files = untold (from_entries []);
  puts = told keeper.puts;
  fetches = told [];
  pending = pending_of keeper.pending;
  faults = 0;
  overruns = 0;
}
