-- What a link of a loop is in, and what its calls do to it.
use Rattle.std.specs.Prelude.{◌≡◌, ℕ, ◌+◌, ◌-◌, ◌≤◌, ◌||◌, Bool, true, false, List, [], ◌++◌, length, take, min, Result}
use Rattle.farm_types.specs.declared.placed.Word.{Word}
use Rattle.farm_types.specs.declared.ran.Ran.{Ran}
use Rattle.farm_types.specs.declared.hosts.HostName.{HostName}
use Rattle.edge_traits.specs.Told.{told, Grew, SameRelation3}
use Rattle.edge_traits.specs.Links.{Origin, LinkView, moved, moved_none}
use Rattle.edge_traits.specs.Stations.{StationView, StationStill}
use Rattle.daemon_service.specs.declared.compilers.Compiler.{Compiler}
use Rattle.loop_link.specs.declared.link.LoopLink.{LoopLink}
use Rattle.loop_link.specs.Replies.{Serves}

-- The host and port that the link was dialed to, and whether it closes at its first receive. What was sent. Whether the service ran, whether
-- memory ran out in it, how many bytes it saw, and its reply. How many bytes of the reply were given, and whether its end was.
pub record LoopState : Type 0 where
  pub origin : Origin
  pub closes : Bool
  pub sent : List ℕ
  pub served : Bool
  pub wanted : Bool
  pub seen : ℕ
  pub reply : List ℕ
  pub at : ℕ
  pub ended : Bool

abbrev pub loop_state : {S : Type 0} → LoopLink S → LoopState
loop_state link = record {
  origin = record { host = link.host; port = link.port };
  closes = link.closes;
  sent = link.sent;
  served = link.served;
  wanted = link.wanted;
  seen = link.seen;
  reply = link.reply;
  at = link.at;
  ended = link.ended;
}

-- a link over which nothing has passed
abbrev pub new_loop : HostName → ℕ → LoopState
new_loop host port = record {
  origin = record { host = host; port = port };
  closes = false;
  sent = [];
  served = false;
  wanted = false;
  seen = 0;
  reply = [];
  at = 0;
  ended = false;
}

-- what it shows of its past
abbrev pub loop_shows : LoopState → LinkView
loop_shows link = record {
  origin = link.origin;
  sent = told link.sent;
  given = told (take link.at link.reply);
  ended = link.ended;
  stopped = false;
  faults = 0;
}

abbrev pub after_send : {E : Type 0} → LoopState → List ℕ → Result ℕ E → LoopState
after_send link piece result = record link { sent = link.sent ++ moved result piece }

-- The service runs at the first receive, on what was sent before it, and never again.
pub record IsServed (table : List Compiler) (ran : List Word → List ℕ → Ran → Type 0) (before after : StationView)
    (old new : LoopState) : Type 0 where
  pub done : new.served ≡ true
  pub serves : old.served ≡ false → Serves table ran old.sent before after new.reply
  pub seen : old.served ≡ false → new.seen ≡ length old.sent
  pub again : old.served ≡ true → new.reply ≡ old.reply
  pub same_seen : old.served ≡ true → new.seen ≡ old.seen
  pub still : old.served ≡ true → after ≡ before

-- What a link holds after its dial, at which the station was at the first of these: the station's counts haven't fallen, and if the service
-- ran, the reply is what it gave for the bytes that it saw.
pub record Holds (table : List Compiler) (ran : List Word → List ℕ → Ran → Type 0) (dialed now : StationView)
    (link : LoopState) : Type 0 where
  pub faults : dialed.faults ≤ now.faults
  pub overruns : dialed.overruns ≤ now.overruns
  pub serves : link.served ≡ true → Serves table ran (take link.seen link.sent) dialed now link.reply

-- the same of a link, by what its stations show and may leave
abbrev pub LinkHolds : {S : Type 0} → (S → StationView) → (S → List Word → List ℕ → Ran → Type 0) → LoopLink S → Type 0
LinkHolds shows ran link = Holds link.held.table.rows (ran link.held.station) (shows link.dialed.value) (shows link.held.station)
    (loop_state link)

-- The first became the second, by calls of it. It is to the same host and port, over the same table and a station with the same programs.
-- It closes at its first receive exactly if the first did. It was dialed when the station was the same, and it is sound as a link
-- (`LinkHolds`) if the first was.
pub record LoopFollows {S : Type 0} (shows : S → StationView) (ran : S → List Word → List ℕ → Ran → Type 0)
    (a b : LoopLink S) : Type 0 where
  pub host : b.host ≡ a.host
  pub port : b.port ≡ a.port
  pub closes : b.closes ≡ a.closes
  pub table : b.held.table.rows ≡ a.held.table.rows
  pub same : SameRelation3 (ran a.held.station) (ran b.held.station)
  pub dialed : b.dialed.value ≡ a.dialed.value
  pub holds : LinkHolds shows ran a → LinkHolds shows ran b

-- Memory ran out in the service, which hides no fault of the station.
pub record RanOut {S : Type 0} (shows : S → StationView) (old new : LoopLink S) : Type 0 where
  pub wanted : new.wanted ≡ true
  pub still : StationStill (shows old.held.station) (shows new.held.station)

-- Nothing passed: what was sent and given is the same, and the link has ended if it had.
pub record NonePassed (old new : LoopState) : Type 0 where
  pub sent : new.sent ≡ old.sent
  pub at : new.at ≡ old.at
  pub ended : new.ended ≡ old.ended
  pub given : take new.at new.reply ≡ take old.at old.reply

-- The reply's next bytes, this many, were given: as many as are left, or as a room of this length holds.
pub record GivesNext (count room : ℕ) (old new : LoopState) : Type 0 where
  pub most : count ≡ min room (length new.reply - old.at)
  pub moved : new.at ≡ old.at + count

-- What a receive into this room shows: what it gave, that nothing was sent, and that a receive of no bytes is the end.
pub record ShowsReceive {E : Type 0} (result : Result ℕ E) (room : List ℕ) (old new : LinkView) : Type 0 where
  pub given : Grew old.given new.given (moved result room)
  pub sent : Grew old.sent new.sent []
  pub ended : new.ended ≡ (old.ended || moved_none result)
