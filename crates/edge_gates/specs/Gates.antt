-- What devices that two threads use side by side show.
use Rattle.std.specs.Prelude.{◌≡◌, ◌≢◌, ℕ, ◌+◌, ◌-◌, ◌++◌, false, List, [], ◌∷◌, length, take, min, ⊤, Result, IfOk, IfErr, OnOk, OnErr}
use Rattle.farm_types.specs.declared.placed.Word.{Word}
use Rattle.farm_types.specs.declared.ran.Ran.{Ran}
use Rattle.farm_types.specs.Rans.{nothing_ran}
use Rattle.edge_traits.specs.declared.faults.EdgeFault.{EdgeFault}
use Rattle.edge_traits.specs.declared.faults.StationFault.{StationFault}
use Rattle.edge_traits.specs.declared.faults.StationFault.TheVariants.{Failed}
use Rattle.edge_traits.specs.Told.{told, untold}
use Rattle.edge_traits.specs.Links.{LinkView}
use Rattle.edge_traits.specs.Dialers.{DialerView}
use Rattle.edge_traits.specs.Stations.{StationView}
use Rattle.edge_gates.specs.GateReply.{gate_reply}
use Rattle.atomic_table.specs.Seated.{TableId}
use Rattle.edge_gates.specs.declared.asked.Asked.{Asked}
use Rattle.edge_gates.specs.declared.asked.Asked.TheVariants.{Nobody, Several}
use Rattle.edge_gates.specs.declared.asked.Place.{Place}
use Rattle.edge_gates.specs.declared.asked.Place.TheVariants.{NotYet, First}
use Rattle.edge_gates.specs.declared.asked.GateView.{GateView}
use Rattle.edge_gates.specs.GateUsers.{name_of, view_of}
use Rattle.edge_gates.specs.declared.dialer.GateLink.{GateLink}
use Rattle.edge_gates.specs.declared.dialer.GateDialer.{GateDialer}
use Rattle.edge_gates.specs.declared.station.GateStation.{GateStation}
use Rattle.edge_gates.specs.declared.station.Part.{Part}
use Rattle.edge_gates.specs.declared.station.Part.TheVariants.{Waits, IsAwaited, Alone as IsAlone}
use Rattle.edge_gates.specs.declared.marked.MarkView.{MarkView}
use Rattle.edge_gates.specs.declared.marked.Turn.TheVariants.{Entered, Refused}
use Rattle.edge_gates.specs.GateRule.{newcomer, held_looks}
use Rattle.edge_gates.specs.MarkRule.{outsider}
use Rattle.edge_gates.specs.MarkUsers.{name_of as mark_name, view_of as mark_view}

-- the name of a link's gate
abbrev pub gate_of : {R : Type 0} → GateLink R → TableId
gate_of link = name_of link.gate

-- what a link knows as a user of its gate
abbrev pub user_of : {R : Type 0} → GateLink R → GateView
user_of link = view_of link.gate

-- which of the gate's links it is, by their first receives
abbrev pub place_of : {R : Type 0} → GateLink R → Place
place_of link = (user_of link).place

-- how many of the gate's links had asked for their replies, when it last looked
abbrev pub seen_of : {R : Type 0} → GateLink R → Asked
seen_of link = (user_of link).seen

-- how often it has looked
abbrev pub looks_of : {R : Type 0} → GateLink R → ℕ
looks_of link = (user_of link).looks

-- the name of a dialer's gate
abbrev pub dialer_gate : {R : Type 0} → GateDialer R → TableId
dialer_gate dialer = name_of dialer.gate

-- what a dialer knows as a user of its gate
abbrev pub dialer_user : {R : Type 0} → GateDialer R → GateView
dialer_user dialer = view_of dialer.gate

-- how many bytes of its reply a link gave
abbrev pub given_of : {R : Type 0} → GateLink R → ℕ
given_of link = link.at

-- how many bytes the next receive into this much room gives, if it isn't held
abbrev pub next_given : {R : Type 0} → GateLink R → ℕ → ℕ
next_given link room = min room (length gate_reply - given_of link)

-- what a link shows: what it gave, but not what was sent
abbrev pub gate_link_view : {R : Type 0} → GateLink R → LinkView
gate_link_view link = record {
  origin = record { host = link.host; port = link.port };
  sent = untold [];
  given = told (take link.at gate_reply);
  ended = link.ended;
  stopped = false;
  faults = link.faults;
}

-- a link that shows and knows what it did before
pub record SameLink {R : Type 0} (old new : GateLink R) : Type 0 where
  pub shows : gate_link_view new ≡ gate_link_view old
  pub gate : gate_of new ≡ gate_of old
  pub unasked : user_of new ≡ user_of old

-- What a receive into this much room does at the link's gate.
pub record GateReceived {R : Type 0} (room : ℕ) (old new : GateLink R) (result : Result ℕ EdgeFault) : Type 0 where
  pub count : IfOk result (λ n. n ≡ next_given old room)
  pub gate : gate_of new ≡ gate_of old
  -- it has asked afterwards, and a place that it had stays
  pub asked : place_of new ≢ NotYet
  pub once : place_of old ≢ NotYet → place_of new ≡ place_of old
  -- the first to ask is given bytes only once it has seen that several asked
  pub held : IfOk result (λ n. place_of new ≡ First → seen_of new ≡ Several)
  -- only the first fails: it hasn't seen that several asked, and has looked that often
  pub failed : IfErr result (λ fault. place_of new ≡ First)
  pub unseen : IfErr result (λ fault. seen_of new ≢ Several)
  pub looks : IfErr result (λ fault. looks_of new ≡ looks_of old + held_looks)

-- what its dialer shows, which never fails
abbrev pub gate_dialer_view : DialerView
gate_dialer_view = record { exchanges = untold []; faults = 0 }

-- its peers may give anything
abbrev pub any_exchange : List ℕ → List ℕ → Type 0
any_exchange sent given = ⊤

-- what a station shows
abbrev pub gate_station_view : {R : Type 0} → GateStation R → StationView
gate_station_view station = record { runs = untold []; faults = station.faults; overruns = 0 }

-- what a station's run does: it waits for a run of the other one, the other one waits for it, or it has to run by itself
pub data Role : Type 0 where
  Waiting : Role
  Awaited : Role
  Alone : Role

module _ {R : Type 0} where
  abbrev pub role_of : Part R → Role
  role_of (Waits gate) = Waiting
  role_of (IsAwaited gate) = Awaited
  role_of (IsAlone mark) = Alone

  -- the name of what is shared
  abbrev pub shared_by : Part R → TableId
  shared_by (Waits gate) = name_of gate
  shared_by (IsAwaited gate) = name_of gate
  shared_by (IsAlone mark) = mark_name mark

  -- what is known of a gate
  abbrev pub asked_by : Part R → GateView
  asked_by (Waits gate) = view_of gate
  asked_by (IsAwaited gate) = view_of gate
  asked_by (IsAlone mark) = newcomer

  -- what is known of a mark
  abbrev pub tried_by : Part R → MarkView
  tried_by (Waits gate) = outsider
  tried_by (IsAwaited gate) = outsider
  tried_by (IsAlone mark) = mark_view mark

  abbrev pub part_of : GateStation R → Role
  part_of station = role_of station.part

  -- the name of the gate or mark that two stations share
  abbrev pub shared_of : GateStation R → TableId
  shared_of station = shared_by station.part

  -- what a station knows of its gate; one that has a mark knows nothing
  abbrev pub asked_of : GateStation R → GateView
  asked_of station = asked_by station.part

  -- what a station knows of its mark; one that has a gate knows nothing
  abbrev pub tried_of : GateStation R → MarkView
  tried_of station = tried_by station.part

-- What a run of a station does at what it shares with the other one.
pub record GateRan {R : Type 0} (old new : GateStation R) (result : Result Ran StationFault) : Type 0 where
  pub part : part_of new ≡ part_of old
  pub one : shared_of new ≡ shared_of old
  -- A station that waits doesn't ask. It ends well only once it has seen that somebody asked, and fails after it has looked that often.
  pub unasked : part_of old ≡ Waiting → (asked_of new).place ≡ (asked_of old).place
  pub held : part_of old ≡ Waiting → OnOk result ((asked_of new).seen ≢ Nobody)
  pub unseen : part_of old ≡ Waiting → OnErr result ((asked_of new).seen ≡ Nobody)
  pub looks : part_of old ≡ Waiting → OnErr result ((asked_of new).looks ≡ (asked_of old).looks + held_looks)
  -- a station that is awaited has asked afterwards, and doesn't fail
  pub asked : part_of old ≡ Awaited → (asked_of new).place ≢ NotYet
  pub awaited : part_of old ≡ Awaited → OnErr result ⊥
  -- One that has to run by itself entered if it ends well, and was refused if it fails.
  pub entered : part_of old ≡ Alone → OnOk result ((tried_of new).turns ≡ (tried_of old).turns ++ Entered ∷ [])
  pub refused : part_of old ≡ Alone → OnErr result ((tried_of new).turns ≡ (tried_of old).turns ++ Refused ∷ [])
  -- no station is inside afterwards, and none fails by another fault
  pub outside : (tried_of new).inside ≡ false
  pub fault : IfErr result (λ fault. fault ≡ Failed)

-- one whose run was never called
abbrev pub unused_station : StationView
unused_station = record { runs = untold []; faults = 0; overruns = 0 }

-- a run leaves status 0 and nothing else
abbrev pub leaves_nothing : List Word → List ℕ → Ran → Type 0
leaves_nothing words input ran = ran ≡ nothing_ran
