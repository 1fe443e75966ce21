-- Connections on which nothing failed.
use Rattle.std.specs.Prelude.{◌≡◌, ℕ, ◌⊎◌, false, List, [], ◌∷◌, length}
use Rattle.farm_types.specs.declared.request.Request.{Request}
use Rattle.wire_tokens.specs.declared.faults.RequestFault.{RequestFault}
use Rattle.wire_tokens.specs.Request.{BeginsRequest, RequestFaultStands, IsShortRequest}
use Rattle.edge_traits.specs.declared.entries.Visit.{Visit}
use Rattle.edge_traits.specs.Causes.{Rose}
use Rattle.edge_traits.specs.Doors.{DoorView}
use Rattle.edge_traits.specs.Stations.{StationView}
use Rattle.daemon_service.specs.declared.served.Served.{Served}
use Rattle.daemon_service.specs.declared.served.Served.TheVariants.{Refused, Cut, Memory}
use Rattle.daemon_service.specs.Services.{IsAnswered}
use Rattle.daemon_worker.specs.declared.log.Met.{Met}
use Rattle.daemon_worker.specs.declared.log.Met.TheVariants as met
use Rattle.daemon_worker.specs.Connections.{Connection}

-- The answer follows from what was given, unless memory ran out.
pub record IsRightAnswer (given : List ℕ) (served : Served) : Type 0 where
  -- a whole request is answered
  pub whole : (used : ℕ) (q : Request) → BeginsRequest given used q → IsAnswered served ⊎ (served ≡ Memory)
  -- a request with a fault is refused by that fault
  pub fault : (at : ℕ) (fault : RequestFault) → RequestFaultStands given at fault → (served ≡ Refused at fault) ⊎ (served ≡ Memory)
  -- a short text was cut
  pub short : IsShortRequest given → (served ≡ Cut (length given)) ⊎ (served ≡ Memory)

-- the answers of these visits are right
abbrev pub AreRightAnswers : List Visit → Served → Type 0
AreRightAnswers [] served = Unit {0}
AreRightAnswers (visit ∷ visits) served = IsRightAnswer visit.given served × AreRightAnswers visits served

-- a connection was answered rightly, or denied, or memory ran out at the door
abbrev pub IsRight : Met → List Visit → Type 0
IsRight (met.Served served) visits = AreRightAnswers visits served
IsRight (met.Denied addr rule) visits = Unit {0}
IsRight met.DoorFault visits = ⊥
IsRight met.DoorMemory visits = Unit {0}

abbrev pub AllRight : List Connection → Type 0
AllRight [] = Unit {0}
AllRight (c ∷ cs) = IsRight c.what c.visits × AllRight cs

-- no call on these links failed, and no send took nothing
abbrev pub AreCalm : List Visit → Type 0
AreCalm [] = Unit {0}
AreCalm (visit ∷ visits) = (visit.faults ≡ 0) × (visit.stopped ≡ false) × AreCalm visits

-- neither the door nor its station failed, and no run gave too much
pub record NoneFailed (old new : DoorView) (before after : StationView) : Type 0 where
  pub door : Rose old.faults new.faults → ⊥
  pub station : Rose before.faults after.faults → ⊥
  pub overruns : Rose before.overruns after.overruns → ⊥
