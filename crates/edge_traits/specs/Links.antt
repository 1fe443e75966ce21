-- What a link shows of its past, and what its calls do to it.
use Rattle.std.specs.Prelude.{◌≡◌, ℕ, ◌==◌, Bool, false, IsTrue, List, [], take, Result, Ok, Err}
use Rattle.farm_types.specs.declared.hosts.HostName.{HostName}
use Rattle.edge_traits.specs.Told.{Told}

-- The host and port that a link was dialed to. For a link that a door gave it says nothing.
pub record Origin : Type 0 where
  pub host : HostName
  pub port : ℕ

-- what a link shows
pub record LinkView : Type 0 where
  pub origin : Origin
  pub sent : Told (List ℕ)
  pub given : Told (List ℕ)
  pub ended : Bool
  pub stopped : Bool
  pub faults : ℕ

-- the bytes that a call moved: the front of these at `Ok`, and none at `Err`
abbrev pub moved : {E : Type 0} → Result ℕ E → List ℕ → List ℕ
moved (Ok n) bytes = take n bytes
moved (Err e) bytes = []

-- the call answered that it moved 0 bytes
abbrev pub moved_none : {E : Type 0} → Result ℕ E → Bool
moved_none (Ok n) = n == 0
moved_none (Err e) = false

-- a link on which nothing has happened yet
pub record IsNew (link : LinkView) : Type 0 where
  pub sent : IsTrue link.sent.known → link.sent.value ≡ []
  pub given : IsTrue link.given.known → link.given.value ≡ []
  pub ended : link.ended ≡ false
  pub stopped : link.stopped ≡ false
  pub faults : link.faults ≡ 0

-- a new link, to this host and port
pub record IsFresh (to : HostName) (at : ℕ) (link : LinkView) : Type 0 where
  pub host : link.origin.host ≡ to
  pub port : link.origin.port ≡ at
  pub is_new : IsNew link
