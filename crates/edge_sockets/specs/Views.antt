-- What the devices over sockets show: their states and their counts, but no content.
use Rattle.std.specs.Prelude.{ℕ, Bool, []}
use Rattle.std.specs.Option.{is_some}
use Rattle.std.specs.Net.Addr.{ipv4_bits}
use Rattle.std.specs.Net.Socket.{v4_ip}
use Rattle.std.specs.declared.net.socket_addr.SocketAddr.{SocketAddr}
use Rattle.std.specs.declared.net.socket_addr.SocketAddr.TheVariants.{V4, V6}
use Rattle.edge_traits.specs.Told.{untold}
use Rattle.edge_traits.specs.Links.{LinkView}
use Rattle.edge_traits.specs.Dialers.{DialerView}
use Rattle.edge_traits.specs.Doors.{DoorView}
use Rattle.edge_sockets.specs.declared.tcp.TcpLink.{TcpLink}
use Rattle.edge_sockets.specs.declared.tcp.TcpDialer.{TcpDialer}
use Rattle.edge_sockets.specs.declared.door.TcpDoor.{TcpDoor}
use Rattle.edge_sockets.specs.declared.door_link.DoorLink.{DoorLink}

-- a connection's peer and its state
abbrev pub link_view : {R S : Type 0} → TcpLink R S → LinkView
link_view link = record {
  origin = record { host = link.host; port = link.port };
  sent = untold [];
  given = untold [];
  ended = link.ended;
  stopped = link.stopped;
  faults = link.faults;
}

-- what a link of a door shows is what its connection shows
abbrev pub door_link_view : {R S : Type 0} → DoorLink R S → LinkView
door_link_view link = link_view link.link

-- with that many faults
abbrev pub counted_dialer : ℕ → DialerView
counted_dialer faults = record { exchanges = untold []; faults = faults }

abbrev pub dialer_view : {R : Type 0} → TcpDialer R → DialerView
dialer_view dialer = counted_dialer dialer.faults

abbrev pub counted_door : ℕ → DoorView
counted_door faults = record { visits = untold []; peers = untold []; faults = faults }

abbrev pub door_view : {R L S : Type 0} → TcpDoor R L S → DoorView
door_view door = counted_door door.faults

-- the door has a listener
abbrev pub is_listening : {R L S : Type 0} → TcpDoor R L S → Bool
is_listening door = is_some door.listener

-- the peer's IPv4 address as a number, and 0 for another kind of address
abbrev pub peer_bits : SocketAddr → ℕ
peer_bits (V4 peer) = ipv4_bits (v4_ip peer)
peer_bits (V6 peer) = 0

-- what a link reads and writes
abbrev pub stream_of : {R S : Type 0} → TcpLink R S → S
stream_of link = link.stream

abbrev pub door_stream_of : {R S : Type 0} → DoorLink R S → S
door_stream_of link = stream_of link.link
