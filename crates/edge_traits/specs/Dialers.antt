-- What a dialer shows of its past, and what its calls do to it.
use Rattle.std.specs.Prelude.{ℕ, true, false, IsTrue, List, [], ◌∷◌, Result, Ok, Err}
use Rattle.farm_types.specs.declared.hosts.HostName.{HostName}
use Rattle.edge_traits.specs.declared.faults.EdgeFault.{EdgeFault}
use Rattle.edge_traits.specs.declared.faults.EdgeFault.TheVariants.{Failed, Memory}
use Rattle.edge_traits.specs.declared.entries.Exchange.{Exchange}
use Rattle.edge_traits.specs.Told.{Told}
use Rattle.edge_traits.specs.Links.{LinkView}

-- what a dialer shows
pub record DialerView : Type 0 where
  pub exchanges : Told (List Exchange)
  pub faults : ℕ

-- the entry of a dial that failed
abbrev pub undialed : HostName → ℕ → Exchange
undialed host port = record { host = host; port = port; dialed = false; sent = []; given = []; ended = false; stopped = false; faults = 0 }

-- the entry of a link that is hung up
abbrev pub hung : LinkView → Exchange
hung link = record {
  host = link.origin.host;
  port = link.origin.port;
  dialed = true;
  sent = link.sent.value;
  given = link.given.value;
  ended = link.ended;
  stopped = link.stopped;
  faults = link.faults;
}

-- the entries that a dial adds: one at `Failed`, none at `Ok`, and none if memory ran out
abbrev pub dial_entries : {L : Type 0} → HostName → ℕ → Result L EdgeFault → List Exchange
dial_entries host port (Ok link) = []
dial_entries host port (Err Failed) = undialed host port ∷ []
dial_entries host port (Err Memory) = []

-- If the exchanges are told, so was all that the link's entry says, and the dialer may have been given it.
pub record IsToldOf (may_give : List ℕ → List ℕ → Type 0) (exchanges : Told (List Exchange)) (link : LinkView) : Type 0 where
  pub sent : IsTrue exchanges.known → IsTrue link.sent.known
  pub given : IsTrue exchanges.known → IsTrue link.given.known
  pub may : IsTrue exchanges.known → may_give link.sent.value link.given.value
