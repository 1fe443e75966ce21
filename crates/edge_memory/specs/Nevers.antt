-- The devices in memory that never fail: those that follow scripts, with no call that fails.
use Rattle.edge_traits.specs.Links.{LinkView}
use Rattle.edge_traits.specs.Dialers.{DialerView}
use Rattle.edge_traits.specs.Doors.{DoorView}
use Rattle.edge_traits.specs.Stations.{StationView}
use Rattle.edge_traits.specs.Keepers.{KeeperView}
use Rattle.edge_traits.specs.Sources.{SourceView}
use Rattle.edge_traits.specs.Sinks.{SinkView}
use Rattle.edge_memory.specs.declared.never.link.MemNeverLink.{MemNeverLink}
use Rattle.edge_memory.specs.declared.never.dialer.MemNeverDialer.{MemNeverDialer}
use Rattle.edge_memory.specs.declared.never.door.MemNeverDoor.{MemNeverDoor}
use Rattle.edge_memory.specs.declared.never.station.MemNeverStation.{MemNeverStation}
use Rattle.edge_memory.specs.declared.never.keeper.MemNeverKeeper.{MemNeverKeeper}
use Rattle.edge_memory.specs.declared.never.source.MemNeverSource.{MemNeverSource}
use Rattle.edge_memory.specs.declared.never.sink.MemNeverSink.{MemNeverSink}
use Rattle.edge_memory.specs.Links.{LinkState, link_state, link_shows}
use Rattle.edge_memory.specs.Dialers.{DialerState, dialer_state, dialer_shows}
use Rattle.edge_memory.specs.Doors.{DoorState, door_state, door_shows}
use Rattle.edge_memory.specs.Stations.{StationState, station_state, station_shows}
use Rattle.edge_memory.specs.Keepers.{KeeperState, keeper_state, keeper_shows}
use Rattle.edge_memory.specs.Sources.{SourceState, source_state, source_shows}
use Rattle.edge_memory.specs.Sinks.{SinkState, sink_state, sink_shows}

-- what each device is in, and what it shows
abbrev pub never_link_state : MemNeverLink → LinkState
never_link_state link = link_state link.inner

abbrev pub never_link_shows : LinkState → LinkView
never_link_shows link = record (link_shows link) { faults = 0 }

abbrev pub never_dialer_state : MemNeverDialer → DialerState
never_dialer_state dialer = dialer_state dialer.inner

abbrev pub never_dialer_shows : DialerState → DialerView
never_dialer_shows dialer = record (dialer_shows dialer) { faults = 0 }

abbrev pub never_door_state : MemNeverDoor → DoorState
never_door_state door = door_state door.inner

abbrev pub never_door_shows : DoorState → DoorView
never_door_shows door = record (door_shows door) { faults = 0 }

abbrev pub never_station_state : MemNeverStation → StationState
never_station_state station = station_state station.inner

abbrev pub never_station_shows : StationState → StationView
never_station_shows station = record (station_shows station) { faults = 0 }

abbrev pub never_keeper_state : MemNeverKeeper → KeeperState
never_keeper_state keeper = keeper_state keeper.inner

abbrev pub never_keeper_shows : KeeperState → KeeperView
never_keeper_shows keeper = record (keeper_shows keeper) { faults = 0 }

abbrev pub never_source_state : MemNeverSource → SourceState
never_source_state source = source_state source.inner

abbrev pub never_source_shows : SourceState → SourceView
never_source_shows source = record (source_shows source) { faults = 0 }

abbrev pub never_sink_state : MemNeverSink → SinkState
never_sink_state sink = sink_state sink.inner

abbrev pub never_sink_shows : SinkState → SinkView
never_sink_shows sink = record (sink_shows sink) { faults = 0 }
