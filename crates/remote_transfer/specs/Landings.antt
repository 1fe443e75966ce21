-- What becomes of the object of a reply.
use Rattle.std.specs.Prelude.{◌≡◌, ◌≢◌, ◌⊎◌, ℕ, ◌<◌, ◌≤◌, length, false, List, [], ◌++◌, Result, Ok, Err}
use Rattle.farm_types.specs.declared.request.Request.{Request}
use Rattle.farm_types.specs.declared.hosts.Host.{Host}
use Rattle.farm_types.specs.declared.ran.Outcome.{Outcome}
use Rattle.edge_traits.specs.declared.entries.Exchange.{Exchange}
use Rattle.edge_traits.specs.declared.cause.Cause.TheVariants.{Dial, Send, Stopped}
use Rattle.edge_traits.specs.Told.{Told, Grew, Became}
use Rattle.edge_traits.specs.Causes.{Rose, Still}
use Rattle.edge_traits.specs.Links.{LinkView}
use Rattle.edge_traits.specs.Keepers.{KeeperView, IsIdle, IsPending, HasPending}
use Rattle.wire_tokens.specs.Reply.{BeginsReply, IsShortReply}
use Rattle.reply_stream.specs.Objects.{with_object, object_so_far}
use Rattle.remote_transfer.specs.declared.answers.Attempt.{Attempt}
use Rattle.remote_transfer.specs.declared.answers.Attempt.TheVariants as attempts
use Rattle.remote_transfer.specs.declared.answers.Landing.{Landing}
use Rattle.remote_transfer.specs.declared.answers.Landing.TheVariants.{Pending, Lost as LostObject, Nothing}
use Rattle.remote_transfer.specs.declared.answers.Landed.{Landed}
use Rattle.remote_transfer.specs.declared.answers.Landed.TheVariants as landeds
use Rattle.remote_transfer.specs.declared.answers.Stop.{Stop}
use Rattle.remote_transfer.specs.declared.answers.Stop.TheVariants.{Broke, Memory}
use Rattle.remote_transfer.specs.declared.landing.ObjectState.{ObjectState}
use Rattle.remote_transfer.specs.declared.landing.ObjectState.TheVariants.{Waiting, Begun, Lost}
use Rattle.remote_transfer.specs.Answers.{answer_of, landed_of}
use Rattle.remote_transfer.specs.Attempts.{ExchangeIs, EndsBy, Adds, AttemptAdds}
use Rattle.remote_transfer.specs.Links.{Given, ReplyIs, IsFor, Passed}

-- The keeper's files, entries and overruns are as they were, so it did no more than a put that isn't committed.
pub record KeeperStays (old new : KeeperView) : Type 0 where
  pub files : Became old.files new.files old.files.value
  pub puts : Grew old.puts new.puts []
  pub fetches : Grew old.fetches new.fetches []
  pub overruns : Still old.overruns new.overruns
  pub faults : old.faults ≤ new.faults

-- What became of the object of a whole reply, which has these bytes. The keeper's count was at `before`, and it rises only if the put was
-- lost.
abbrev pub IsLanding : Landing → Outcome → List ℕ → List ℕ → ℕ → KeeperView → Type 0
IsLanding Pending o path object before now = (o.status ≡ 0) × HasPending now path object × Still before now.faults
IsLanding LostObject o path object before now = (o.status ≡ 0) × IsIdle now × Rose before now.faults
IsLanding Nothing o path object before now = (o.status ≢ 0) × IsIdle now × (object ≡ []) × Still before now.faults

-- the answer of an attempt whose outcome has this object
abbrev pub attempt_of : Landed → List ℕ → Attempt
attempt_of (landeds.Whole outcome _) object = attempts.Whole (with_object outcome object)
attempt_of (landeds.Broke cause) object = attempts.Broke cause
attempt_of (landeds.Memory dialed) object = attempts.Memory dialed

-- The outcome comes without its object, whose place the answer says. Without a whole reply no put is pending.
abbrev pub Lands : Landed → List ℕ → List ℕ → ℕ → KeeperView → Type 0
Lands (landeds.Whole outcome landing) path object before now = (outcome.object ≡ []) × IsLanding landing outcome path object before now
Lands (landeds.Broke cause) path object before now = IsIdle now
Lands (landeds.Memory dialed) path object before now = IsIdle now

-- Some bytes of the object came: a front of what was given is short, and has some.
pub record HasBytes (given : List ℕ) : Type 0 where
  pub front : List ℕ
  pub rest : List ℕ
  pub parts : given ≡ front ++ rest
  pub short : IsShortReply front
  pub some : 0 < length (object_so_far front)

-- a front of what was given is a whole reply
abbrev pub HasReply : List ℕ → Type 0
HasReply given = (used : ℕ) × (o : Outcome) × BeginsReply given used o

-- If no reply was taken whole, the keeper's count rose only if a step of a put may have failed. That is after some bytes of the object, or
-- if memory ran out after a whole reply.
abbrev pub RisesBehind : Landed → List ℕ → ℕ → ℕ → Type 0
RisesBehind (landeds.Whole outcome _) given before now = Unit {0}
RisesBehind (landeds.Broke cause) given before now = Still before now ⊎ HasBytes given
RisesBehind (landeds.Memory dialed) given before now = Still before now ⊎ (HasBytes given ⊎ HasReply given)

-- The same of the bytes that were given in the new exchange. Without a link the keeper wasn't asked.
abbrev pub RisesByPuts : (List ℕ → List ℕ → Type 0) → Landed → Told (List Exchange) → Told (List Exchange) → ℕ → ℕ → Type 0
RisesByPuts may_give (landeds.Memory false) old new before now = Unit {0}
RisesByPuts may_give (landeds.Broke Dial) old new before now = Unit {0}
RisesByPuts may_give landed old new before now = Adds may_give old new (λ x. RisesBehind landed x.given before now)

-- The exchange is that of an attempt whose outcome has this `object`, and the answer says the place of it. The keeper's count rose only by
-- its put.
pub record LandedAdds (may_give : List ℕ → List ℕ → Type 0) (q : Request) (h : Host) (landed : Landed) (path : List ℕ)
    (old new : Told (List Exchange)) (before now : KeeperView) : Type 0 where
  pub object : List ℕ
  pub adds : AttemptAdds may_give q h (attempt_of landed object) old new
  pub lands : Lands landed path object before.faults now
  pub rises : RisesByPuts may_give landed old new before.faults now.faults

-- A dial that failed goes with a rise of the dialer's count, and no other answer does.
abbrev pub LandedCause : Landed → ℕ → ℕ → Type 0
LandedCause (landeds.Broke Dial) before now = Rose before now
LandedCause other before now = Still before now

-- If the dial or a send failed, a send took nothing, or memory ran out before the dial had succeeded, the request wasn't sent whole. Then the
-- keeper wasn't asked, and it shows the same as before.
abbrev pub IsUnasked : Landed → KeeperView → KeeperView → Type 0
IsUnasked (landeds.Memory false) before now = now ≡ before
IsUnasked (landeds.Broke Dial) before now = now ≡ before
IsUnasked (landeds.Broke Send) before now = now ≡ before
IsUnasked (landeds.Broke Stopped) before now = now ≡ before
IsUnasked other before now = Unit {0}

-- ---- the parts of such an attempt

-- how far the object has come with these bytes, if the keeper's count was at `before`
abbrev pub LandsAt : ObjectState → List ℕ → List ℕ → ℕ → KeeperView → Type 0
LandsAt Waiting path object before now = IsIdle now × (object ≡ []) × Still before now.faults
LandsAt Begun path object before now = HasPending now path object × Still before now.faults × (0 < length object)
LandsAt Lost path object before now = IsIdle now × Rose before now.faults × (0 < length object)

-- the keeper is ready for more bytes
abbrev pub CanLand : ObjectState → KeeperView → Type 0
CanLand Waiting now = IsIdle now
CanLand Begun now = IsPending now
CanLand Lost now = IsIdle now

-- the place of an object of status 0
abbrev pub LandedAt : Landing → List ℕ → List ℕ → ℕ → KeeperView → Type 0
LandedAt Pending path object before now = HasPending now path object × Still before now.faults
LandedAt LostObject path object before now = IsIdle now × Rose before now.faults
LandedAt Nothing path object before now = ⊥

-- An `Err` is lack of memory, and then no put is pending.
abbrev pub WantsMemory : {T : Type 0} → Result T Stop → KeeperView → Type 0
WantsMemory (Ok done) now = Unit {0}
WantsMemory (Err stop) now = (stop ≡ Memory) × IsIdle now

-- an outcome with the place of its object
abbrev pub paired : Outcome → Result Landing Stop → Result (Outcome × Landing) Stop
paired outcome (Ok landing) = Ok (outcome, landing)
paired outcome (Err stop) = Err stop

-- what was received, with this object
abbrev pub received_of : Result (Outcome × Landing) Stop → List ℕ → Result Outcome Stop
received_of (Ok received) object = Ok (with_object received.0 object)
received_of (Err stop) object = Err stop

-- Without an outcome no put is pending and the keeper's count didn't change, unless some bytes of the object came, or memory ran out after
-- a whole reply. Then a put may be pending, and the count may have changed.
abbrev pub StopsBehind : Stop → List ℕ → ℕ → KeeperView → Type 0
StopsBehind (Broke cause) given before now = (IsIdle now × Still before now.faults) ⊎ HasBytes given
StopsBehind Memory given before now = (IsIdle now × Still before now.faults) ⊎ (HasBytes given ⊎ HasReply given)

abbrev pub LandsIf : Result (Outcome × Landing) Stop → List ℕ → List ℕ → List ℕ → ℕ → KeeperView → Type 0
LandsIf (Ok received) path object given before now = (received.0.object ≡ []) × IsLanding received.1 received.0 path object before now
LandsIf (Err stop) path object given before now = StopsBehind stop given before now

-- A reply was received, and the result says the place of its object. If it isn't whole, a put may be pending.
pub record ReceivedInto (result : Result (Outcome × Landing) Stop) (path : List ℕ) (old new : LinkView)
    (before now : KeeperView) : Type 0 where
  pub object : List ℕ
  pub given : Given (ReplyIs (received_of result object) old new) old.given new.given
  pub lands : LandsIf result path object given.bytes before.faults now

-- the same, with no put pending if the reply isn't whole
abbrev pub LandsOr : Result (Outcome × Landing) Stop → List ℕ → List ℕ → ℕ → KeeperView → Type 0
LandsOr (Ok received) path object before now = (received.0.object ≡ []) × IsLanding received.1 received.0 path object before now
LandsOr (Err stop) path object before now = IsIdle now

pub record LandsInto (result : Result (Outcome × Landing) Stop) (path : List ℕ) (old new : LinkView)
    (before now : KeeperView) : Type 0 where
  pub object : List ℕ
  pub given : Given (ReplyIs (received_of result object) old new) old.given new.given
  pub lands : LandsOr result path object before.faults now
  pub rises : RisesBehind (landed_of result) given.bytes before.faults now.faults

-- What passed over a link is what an attempt says of it. Its outcome has this `object`, and the result says the place of it. `IsUnasked` and
-- `RisesBehind` say what became of the keeper.
pub record PassedInto (result : Result (Outcome × Landing) Stop) (path text : List ℕ) (old new : LinkView)
    (before now : KeeperView) : Type 0 where
  pub object : List ℕ
  pub passed : (q : Request) (h : Host) → IsFor q h text old
      → Passed old new (λ x. ExchangeIs q h (answer_of (received_of result object)) x × EndsBy (answer_of (received_of result object)) x)
  pub lands : LandsOr result path object before.faults now
  pub unasked : IsUnasked (landed_of result) before now
  pub rises : Passed old new (λ x. RisesBehind (landed_of result) x.given before.faults now.faults)
