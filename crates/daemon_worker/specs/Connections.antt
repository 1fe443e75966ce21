-- One connection of a door: what became of it, and what it added to each recorded list.
use Rattle.std.specs.Prelude.{◌≡◌, ℕ, Bool, true, false, List, [], ◌∷◌, Option}
use Rattle.farm_types.specs.declared.placed.Word.{Word}
use Rattle.farm_types.specs.declared.ran.Ran.{Ran}
use Rattle.edge_traits.specs.declared.entries.Run.{Run}
use Rattle.edge_traits.specs.declared.entries.Visit.{Visit}
use Rattle.access_list.specs.declared.rule.Rule.{Rule}
use Rattle.access_list.specs.declared.decision.Decision.TheVariants.{Admitted, Denied}
use Rattle.access_list.specs.Rules.{AccessDecision}
use Rattle.daemon_service.specs.declared.compilers.Compiler.{Compiler}
use Rattle.daemon_service.specs.declared.served.Served.{Served}
use Rattle.daemon_service.specs.Services.{ServedAs, EndsBy, LinkCause, MayRun}
use Rattle.daemon_worker.specs.declared.log.Met.{Met}
use Rattle.daemon_worker.specs.declared.log.Met.TheVariants as met

pub record Connection : Type 0 where
  pub what : Met
  pub peers : List ℕ
  pub visits : List Visit
  pub runs : List Run

-- The peer was let in, and its one visit and its runs show the service by its answer. The visit shows a fault of the link exactly if the answer does.
pub record IsServed (table : List Compiler) (rules : List Rule) (ran : List Word → List ℕ → Ran → Type 0) (served : Served)
    (c : Connection) : Type 0 where
  pub addr : ℕ
  pub rule : Option ℕ
  pub visit : Visit
  pub peers : c.peers ≡ addr ∷ []
  pub visits : c.visits ≡ visit ∷ []
  pub admitted : AccessDecision rules addr (Admitted rule)
  pub is : ServedAs table served c.runs visit
  pub ends : EndsBy served visit
  pub faults : LinkCause served 0 visit.faults
  pub may : MayRun ran c.runs

-- The peer was denied by this rule or by none, its one visit has nothing given and nothing sent, and nothing was run.
pub record IsDenied (rules : List Rule) (addr : ℕ) (rule : Option ℕ) (c : Connection) : Type 0 where
  pub visit : Visit
  pub peers : c.peers ≡ addr ∷ []
  pub visits : c.visits ≡ visit ∷ []
  pub denied : AccessDecision rules addr (Denied rule)
  pub given : visit.given ≡ []
  pub sent : visit.sent ≡ []
  pub no_run : c.runs ≡ []

-- There was no link.
pub record IsNone (c : Connection) : Type 0 where
  pub peers : c.peers ≡ []
  pub visits : c.visits ≡ []
  pub no_run : c.runs ≡ []

abbrev pub IsMet : List Compiler → List Rule → (List Word → List ℕ → Ran → Type 0) → Connection → Met → Type 0
IsMet table rules ran c (met.Served served) = IsServed table rules ran served c
IsMet table rules ran c (met.Denied addr rule) = IsDenied rules addr rule c
IsMet table rules ran c met.DoorFault = IsNone c
IsMet table rules ran c met.DoorMemory = IsNone c

-- a connection is as its answer says
abbrev pub IsConnection : List Compiler → List Rule → (List Word → List ℕ → Ran → Type 0) → Connection → Type 0
IsConnection table rules ran c = IsMet table rules ran c c.what

-- no further connection of the door is served
abbrev pub stops : Met → Bool
stops (met.Served served) = false
stops (met.Denied addr rule) = false
stops met.DoorFault = true
stops met.DoorMemory = true
