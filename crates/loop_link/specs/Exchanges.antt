-- What an exchange over a loop shows of its station.
use Rattle.std.specs.Prelude.{◌≡◌, ℕ, ◌+◌, ◌-◌, ◌^◌, ◌||◌, min, nat_le, Bool, true, List, [], ◌∷◌, ◌++◌}
use Rattle.farm_types.specs.declared.request.Request.{Request}
use Rattle.wire_tokens.specs.Request.{BeginsRequest}
use Rattle.wire_tokens.specs.Reply.{IsShortReply}
use Rattle.edge_traits.specs.declared.entries.Exchange.{Exchange}
use Rattle.edge_traits.specs.Stations.{StationView}

-- a count rose, as a test
abbrev pub count_rose : ℕ → ℕ → Bool
count_rose before now = nat_le (min (before + 1) (2 ^ 64 - 1)) now

-- the station's faults or its overruns rose, as a test
abbrev pub station_rose : StationView → StationView → Bool
station_rose before now = count_rose before.faults now.faults || count_rose before.overruns now.overruns

-- a request was sent, and the link ended before a whole reply
pub record IsUnanswered (x : Exchange) : Type 0 where
  pub dialed : x.dialed ≡ true
  pub ended : x.ended ≡ true
  pub q : Request
  pub used : ℕ
  pub asked : BeginsRequest x.sent used q
  pub short : IsShortReply x.given

-- the one exchange after these
abbrev pub IsNext : List Exchange → List Exchange → Exchange → Type 0
IsNext before now x = now ≡ before ++ x ∷ []
