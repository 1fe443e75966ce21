-- What a compiler may answer to a request, and which networks answer so.
use Rattle.std.specs.Prelude.{◌≡◌, ℕ, List, [], ◌∷◌, if◌then◌else◌, ◌==◌}
use Rattle.farm_types.specs.declared.placed.Word.{Word}
use Rattle.farm_types.specs.declared.ran.Ran.{Ran}
use Rattle.farm_types.specs.declared.ran.Outcome.{Outcome}
use Rattle.farm_types.specs.declared.request.Request.{Request}
use Rattle.wire_tokens.specs.Request.{SpellsRequest}
use Rattle.wire_tokens.specs.Reply.{BeginsReply}
use Rattle.arg_scan.specs.Class.{IsRemote}
use Rattle.arg_strip.specs.Words.{placed_words}
use Rattle.edge_traits.specs.Deeds.{ran}
use Rattle.farm_machine.specs.Acts.{Act, Did}

-- what programs of these words on this input may leave, as a station says it
abbrev pub Programs : Type 1
Programs = List Word → List ℕ → Ran → Type 0

-- the programs may have left what each run left
abbrev pub AllRan : Programs → List Act → Type 0
AllRan programs [] = Unit {0}
AllRan programs (Did (ran x) ∷ acts) = programs x.words x.input x.ran × AllRan programs acts
AllRan programs (act ∷ acts) = AllRan programs acts

-- what peers may give for what was sent to them, as a dialer says it
abbrev pub Peers : Type 1
Peers = List ℕ → List ℕ → Type 0

-- the object of a compile, which a failure has none of
abbrev pub object_of : Ran → List ℕ
object_of r = if r.status == 0 then r.object else []

-- A compiler may answer this outcome: the request is of a command that may be sent, and the outcome is what a run of
-- its words on its source may leave.
pub record Compiles (programs : Programs) (q : Request) (o : Outcome) : Type 0 where
  pub remote : IsRemote q.words
  pub run : Ran
  pub may : programs (placed_words q.words) q.source run
  pub status : o.status ≡ run.status
  pub err : o.err ≡ run.err
  pub out : o.out ≡ run.out
  pub object : o.object ≡ object_of run

-- Peers are honest: if they were sent a request, and begin what they give with an outcome of status 0, it is one
-- that a compiler may answer. They may be silent, fail, or give what is no outcome.
abbrev pub IsHonest : Peers → Programs → Type 0
IsHonest peers programs = (sent given : List ℕ) (q : Request) (o : Outcome) (used : ℕ)
    → peers sent given → SpellsRequest sent q → BeginsReply given used o → o.status ≡ 0 → Compiles programs q o

-- Peers are fully honest: the same of outcomes of every status.
abbrev pub IsFullyHonest : Peers → Programs → Type 0
IsFullyHonest peers programs = (sent given : List ℕ) (q : Request) (o : Outcome) (used : ℕ)
    → peers sent given → SpellsRequest sent q → BeginsReply given used o → Compiles programs q o
