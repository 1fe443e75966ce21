-- What a connection shows of its service, by the service's answer.
use Rattle.std.specs.Prelude.{◌≡◌, ◌≢◌, ℕ, ◌<◌, ◌^◌, ◌⊎◌, Bool, true, false, IsTrue, List, [], ◌∷◌, ◌++◌, length}
use Rattle.farm_types.specs.declared.placed.Word.{Word}
use Rattle.farm_types.specs.declared.request.Request.{Request}
use Rattle.farm_types.specs.declared.ran.Ran.{Ran}
use Rattle.farm_types.specs.declared.ran.Outcome.{Outcome}
use Rattle.farm_types.specs.Fits.{OutcomeFits}
use Rattle.wire_tokens.specs.Request.{BeginsRequest, RequestFaultStands, IsShortRequest}
use Rattle.wire_tokens.specs.Reply.{reply_text}
use Rattle.edge_traits.specs.declared.entries.Run.{Run}
use Rattle.edge_traits.specs.declared.entries.Visit.{Visit}
use Rattle.edge_traits.specs.Told.{Grew}
use Rattle.edge_traits.specs.Causes.{Rose, Still}
use Rattle.edge_traits.specs.Links.{LinkView}
use Rattle.edge_traits.specs.Stations.{StationView, StationStill}
use Rattle.daemon_service.specs.declared.compilers.Compiler.{Compiler}
use Rattle.daemon_service.specs.declared.served.Served.{Served}
use Rattle.daemon_service.specs.declared.served.Served.TheVariants.{Answered, Refused, Cut, LinkFault, Stopped, StationFault, Memory}
use Rattle.daemon_service.specs.Replies.{ServiceAnswer}

-- The link is neither ended nor stopped. If it records what was sent or given, nothing was yet.
pub record IsUnused (link : LinkView) : Type 0 where
  pub sent : IsTrue link.sent.known → link.sent.value ≡ []
  pub given : IsTrue link.given.known → link.given.value ≡ []
  pub ended : link.ended ≡ false
  pub stopped : link.stopped ≡ false

-- The request's answer is this outcome, by these runs. It is within the limits of a reply.
pub record Answers (table : List Compiler) (q : Request) (runs : List Run) (o : Outcome) : Type 0 where
  pub answer : ServiceAnswer table q runs o
  pub fits : OutcomeFits o.status o.err o.out o.object
  pub small : o.status < 2 ^ 32

-- a front of what was given spells a request, whose answer is this outcome
pub record IsAsked (table : List Compiler) (given : List ℕ) (runs : List Run) (o : Outcome) : Type 0 where
  pub q : Request
  pub used : ℕ
  pub spelled : BeginsRequest given used q
  pub answers : Answers table q runs o

-- the whole reply was written
pub record WroteAll (table : List Compiler) (status : ℕ) (runs : List Run) (x : Visit) : Type 0 where
  pub o : Outcome
  pub asked : IsAsked table x.given runs o
  pub sent : x.sent ≡ reply_text o
  pub status_is : o.status ≡ status

-- a front of the reply was written, and not all of it
pub record WrotePart (table : List Compiler) (runs : List Run) (x : Visit) : Type 0 where
  pub o : Outcome
  pub asked : IsAsked table x.given runs o
  pub unsent : List ℕ
  pub parts : reply_text o ≡ x.sent ++ unsent
  pub proper : unsent ≢ []

-- nothing was written, and nothing was run
pub record WroteNothing (runs : List Run) (x : Visit) : Type 0 where
  pub sent : x.sent ≡ []
  pub no_run : runs ≡ []

-- What the connection shows of its service, by its answer. After a fault of the station the request was whole.
abbrev pub ServedAs : List Compiler → Served → List Run → Visit → Type 0
ServedAs table (Answered status) runs x = WroteAll table status runs x
ServedAs table (Refused at fault) runs x = RequestFaultStands x.given at fault × WroteNothing runs x
ServedAs table (Cut have) runs x = IsShortRequest x.given × (length x.given ≡ have) × WroteNothing runs x
ServedAs table LinkFault runs x = (0 < x.faults) × ((IsShortRequest x.given × WroteNothing runs x) ⊎ WrotePart table runs x)
ServedAs table Stopped runs x = WrotePart table runs x
ServedAs table StationFault runs x = ((used : ℕ) × (q : Request) × BeginsRequest x.given used q) × WroteNothing runs x
ServedAs table Memory runs x = WroteNothing runs x ⊎ WrotePart table runs x

-- the whole reply was written
abbrev pub IsAnswered : Served → Type 0
IsAnswered (Answered status) = Unit {0}
IsAnswered other = ⊥

abbrev pub is_cut : Served → Bool
is_cut (Cut have) = true
is_cut other = false

abbrev pub is_stopped : Served → Bool
is_stopped Stopped = true
is_stopped other = false

-- The link gave its end exactly if the answer says so, and a send took no byte exactly if the answer says so.
pub record EndsBy (answer : Served) (x : Visit) : Type 0 where
  pub ended : x.ended ≡ is_cut answer
  pub stopped : x.stopped ≡ is_stopped answer

-- the visit of a link over which this was given and sent
abbrev pub visit_of : LinkView → List ℕ → List ℕ → Visit
visit_of link given sent = record { given = given; sent = sent; ended = link.ended; stopped = link.stopped; faults = link.faults }

-- each run is one that the station's programs may make
abbrev pub MayRun : (List Word → List ℕ → Ran → Type 0) → List Run → Type 0
MayRun ran [] = Unit {0}
MayRun ran (run ∷ runs) = ran run.words run.input run.ran × MayRun ran runs

-- What passed over the link and what was run show the service by its answer. If the link and the station record that, their lists grew by exactly
-- this. A station that doesn't record its runs made some of which the same holds.
pub record Service (table : List Compiler) (ran : List Word → List ℕ → Ran → Type 0) (old new : LinkView)
    (before after : StationView) (answer : Served) : Type 0 where
  pub given : List ℕ
  pub sent : List ℕ
  pub runs : List Run
  pub grew_given : Grew old.given new.given given
  pub grew_sent : Grew old.sent new.sent sent
  pub grew_runs : Grew before.runs after.runs runs
  pub may : MayRun ran runs
  pub is : ServedAs table answer runs (visit_of new given sent)
  pub ends : EndsBy answer (visit_of new given sent)

-- A fault of the link goes with a rise of its count. With any other answer, also with lack of memory, the count stays the same.
abbrev pub LinkCause : Served → ℕ → ℕ → Type 0
LinkCause LinkFault before now = Rose before now
LinkCause other before now = Still before now

-- A fault of the station goes with a rise of its faults or its overruns. With any other answer, also with lack of memory, both stay the same.
abbrev pub StationCause : Served → StationView → StationView → Type 0
StationCause StationFault before now = Rose before.faults now.faults ⊎ Rose before.overruns now.overruns
StationCause other before now = StationStill before now
