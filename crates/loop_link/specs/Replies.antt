-- What the service over a station gives for what was sent.
use Rattle.std.specs.Prelude.{◌≡◌, ◌⊎◌, ℕ, List, [], ◌∷◌, take, Some}
use Rattle.farm_types.specs.declared.placed.Word.{Word}
use Rattle.farm_types.specs.declared.ran.Ran.{Ran}
use Rattle.farm_types.specs.declared.ran.Outcome.{Outcome}
use Rattle.farm_types.specs.declared.request.Request.{Request}
use Rattle.wire_tokens.specs.Request.{SpellsRequest, BeginsRequest}
use Rattle.wire_tokens.specs.Reply.{reply_text, BeginsReply}
use Rattle.edge_traits.specs.declared.entries.Run.{Run}
use Rattle.edge_traits.specs.Causes.{Rose}
use Rattle.edge_traits.specs.Stations.{StationView}
use Rattle.arg_scan.specs.Class.{IsRemote}
use Rattle.farm_machine.specs.Honest.{Peers, Programs, Compiles}
use Rattle.daemon_service.specs.declared.compilers.Compiler.{Compiler}
use Rattle.daemon_service.specs.Replies.{program_of, first_word}
use Rattle.daemon_service.specs.Services.{IsAsked, MayRun}

-- the whole text of the service's answer to a request that what was sent begins with
pub record IsReply (table : List Compiler) (ran : List Word → List ℕ → Ran → Type 0) (sent reply : List ℕ) : Type 0 where
  pub runs : List Run
  pub o : Outcome
  pub asked : IsAsked table sent runs o
  pub may : MayRun ran runs
  pub text : reply ≡ reply_text o

-- the station's faults or its overruns rose
abbrev pub StationRose : StationView → StationView → Type 0
StationRose before after = Rose before.faults after.faults ⊎ Rose before.overruns after.overruns

-- why the service gave nothing: what was sent begins with no request, or the station's faults or overruns rose
abbrev pub IsSilent : List ℕ → StationView → StationView → Type 0
IsSilent sent before after = ((used : ℕ) (q : Request) → BeginsRequest sent used q → ⊥) ⊎ StationRose before after

-- the service gave the whole of its one answer, or nothing
abbrev pub Serves : List Compiler → (List Word → List ℕ → Ran → Type 0) → List ℕ → StationView → StationView → List ℕ → Type 0
Serves table ran sent before after reply = IsReply table ran sent reply ⊎ ((reply ≡ []) × IsSilent sent before after)

-- a front of a reply to a front of what was sent
pub record IsFrontOfReply (table : List Compiler) (ran : List Word → List ℕ → Ran → Type 0) (sent given : List ℕ) : Type 0 where
  pub seen : ℕ
  pub reply : List ℕ
  pub is_reply : IsReply table ran (take seen sent) reply
  pub at : ℕ
  pub front : given ≡ take at reply

-- the service may give this for that
abbrev pub Gives : List Compiler → (List Word → List ℕ → Ran → Type 0) → List ℕ → List ℕ → Type 0
Gives table ran sent given = IsFrontOfReply table ran sent given ⊎ (given ≡ [])

-- each row's program is its name
abbrev pub AreOwnNames : List Compiler → Type 0
AreOwnNames [] = Unit {0}
AreOwnNames (row ∷ rows) = (row.program ≡ row.name) × AreOwnNames rows

-- Peers are fully honest for the requests that may be compiled and whose compiler the table names: if they were sent one,
-- and begin what they give with an outcome, it is one that a compiler may answer.
abbrev pub IsFullyHonestFor : List Compiler → Peers → Programs → Type 0
IsFullyHonestFor table peers programs = (sent given : List ℕ) (q : Request) (o : Outcome) (used : ℕ) (program : List ℕ)
    → peers sent given → SpellsRequest sent q → BeginsReply given used o
    → IsRemote q.words → program_of table (first_word q.words) ≡ Some program → Compiles programs q o
