-- What a compiler may answer, and what jobs put over honest peers.
use Rattle.std.specs.Prelude.{◌≡◌, ◌⊎◌, ℕ, true, IsTrue, List, [], ◌∷◌, ◌++◌}
use Rattle.farm_types.specs.declared.ran.Outcome.{Outcome}
use Rattle.wire_tokens.specs.Request.{SpellsRequest}
use Rattle.wire_tokens.specs.Reply.{BeginsReply}
use Rattle.edge_traits.specs.declared.entries.Exchange.{Exchange}
use Rattle.edge_traits.specs.declared.entries.Put.{Put}
use Rattle.edge_traits.specs.Deeds.{exchanged, put}
use Rattle.edge_traits.specs.Kits.{KitView}
use Rattle.farm_machine.specs.declared.reports.By.TheVariants.{Remote, Here}
use Rattle.farm_machine.specs.declared.reports.End.{End}
use Rattle.farm_machine.specs.declared.reports.End.TheVariants.{Done}
use Rattle.farm_machine.specs.Acts.{Act, Did}
use Rattle.farm_machine.specs.Jobs.{Job, CanRequest, request_for}
use Rattle.farm_machine.specs.Course.{IsWholeWith, Course}
use Rattle.farm_machine.specs.Table.{IsSource}
use Rattle.course_laws.specs.Laws.{IsAmong}
use Rattle.farm_machine.specs.Honest.{Programs, Peers, AllRan, Compiles, IsHonest, IsFullyHonest}

-- the peers may have given what each dialed exchange was given
abbrev pub AllGiven : Peers → List Act → Type 0
AllGiven peers [] = Unit {0}
AllGiven peers (Did (exchanged x) ∷ acts) = (x.dialed ≡ true → peers x.sent x.given) × AllGiven peers acts
AllGiven peers (act ∷ acts) = AllGiven peers acts

-- Peers are fully honest to a job: if they were sent its own request, and begin what they give with an outcome of any status, it is
-- one that a compiler may answer. Of other requests nothing is asked.
abbrev pub IsFullyHonestTo : Peers → Programs → Job → Type 0
IsFullyHonestTo peers programs j = (source sent given : List ℕ) (o : Outcome) (used : ℕ)
    → peers sent given → SpellsRequest sent (request_for j source) → BeginsReply given used o → Compiles programs (request_for j source) o

-- peers that are fully honest are so to every job
abbrev pub FullyHonestLaw : Peers → Programs → Type 0
FullyHonestLaw peers programs = (j : Job) → IsFullyHonest peers programs → IsFullyHonestTo peers programs j

-- A whole exchange over honest peers has an outcome that a compiler may answer to the job's request, if the request is within its limits and
-- the outcome's status is 0. Over peers that are fully honest to the job it has one with any status.
abbrev pub WholeAnswerLaw : Peers → Programs → Type 0
WholeAnswerLaw peers programs = (j : Job) (source : List ℕ) (x : Exchange) (host : ℕ) (o : Outcome)
    → CanRequest j source → (x.dialed ≡ true → peers x.sent x.given) → IsWholeWith j x source host o
    → (IsHonest peers programs × (o.status ≡ 0)) ⊎ IsFullyHonestTo peers programs j
    → Compiles programs (request_for j source) o

-- The put is of the object of an outcome of status 0 that a compiler may answer to the request of the job's own source.
pub record IsAnswer (programs : Programs) (j : Job) (before : List Act) (x : Put) : Type 0 where
  pub source : List ℕ
  pub source_is : IsSource before source
  pub outcome : Outcome
  pub compiles : Compiles programs (request_for j source) outcome
  pub status : outcome.status ≡ 0
  pub object : x.bytes ≡ outcome.object

-- over honest peers each object that a job puts is one that a compiler may answer
abbrev pub PutAnswerLaw : Peers → Programs → Type 0
PutAnswerLaw peers programs = (j : Job) (before : List Act) (x : Put) (rest : List Act) (end : End)
    → IsHonest peers programs → AllGiven peers before → AllRan programs before
    → Course j (before ++ Did (put x) ∷ rest) end → IsAnswer programs j before x

-- The status and the messages are those of an outcome that a compiler may answer to the request of the job's own source, and the object of
-- status 0 was put.
pub record HasOutcome (programs : Programs) (j : Job) (acts : List Act) (status : ℕ) (err out : List ℕ) : Type 0 where
  pub source : List ℕ
  pub source_is : IsSource acts source
  pub outcome : Outcome
  pub compiles : Compiles programs (request_for j source) outcome
  pub status_is : outcome.status ≡ status
  pub err_is : outcome.err ≡ err
  pub out_is : outcome.out ≡ out
  pub object : status ≡ 0 → (x : Put) × IsAmong (Did (put x)) acts × (x.bytes ≡ outcome.object)

-- a job that a host or this machine compiled ends with an outcome that a compiler may answer
abbrev pub IsAnswered : Programs → Job → List Act → End → Type 0
IsAnswered programs j acts (Done status note err out (Remote host)) = HasOutcome programs j acts status err out
IsAnswered programs j acts (Done status note err out Here) = HasOutcome programs j acts status err out
IsAnswered programs j acts end = Unit {0}

-- peers are honest and a host's failure is compiled here once more, or peers are fully honest to the job
abbrev pub AreHonestFor : Peers → Programs → Job → Type 0
AreHonestFor peers programs j = (IsHonest peers programs × (j.config.fallback ≡ true) × (j.config.retry ≡ true))
    ⊎ IsFullyHonestTo peers programs j

-- over such peers each job that was compiled ends with an outcome that a compiler may answer
abbrev pub EndAnswerLaw : Peers → Programs → Type 0
EndAnswerLaw peers programs = (j : Job) (acts : List Act) (end : End)
    → AreHonestFor peers programs j → AllGiven peers acts → AllRan programs acts → Course j acts end → IsAnswered programs j acts end

-- If the exchanges are told, and peers are honest as `AreHonestFor` asks, a job that was compiled ends with an outcome that a compiler may
-- answer.
abbrev pub AnswersBy : Peers → Programs → KitView → Job → List Act → End → Type 0
AnswersBy peers programs kit job acts end = IsTrue kit.dialer.exchanges.known → AreHonestFor peers programs job
    → IsAnswered programs job acts end
