-- What holds of every course.
use Rattle.std.specs.Prelude.{◌≡◌, ◌⊎◌, ℕ, ◌+◌, ◌*◌, ◌<◌, ◌≤◌, Bool, true, false, List, [], ◌∷◌, ◌++◌, length, None}
use Rattle.farm_types.specs.declared.ran.Outcome.{Outcome}
use Rattle.edge_traits.specs.declared.entries.Run.{Run}
use Rattle.edge_traits.specs.declared.entries.Exchange.{Exchange}
use Rattle.edge_traits.specs.declared.entries.Put.{Put}
use Rattle.edge_traits.specs.Deeds.{ran, fetched, exchanged, put, exchanges_in}
use Rattle.farm_machine.specs.declared.reports.By.{By}
use Rattle.farm_machine.specs.declared.reports.Why5.TheVariants.{Broke, Memory, NoHost}
use Rattle.farm_machine.specs.declared.reports.End.{End}
use Rattle.farm_machine.specs.declared.reports.End.TheVariants.{Done, Failed}
use Rattle.farm_machine.specs.Acts.{Takes, Gives, FindsDown, Act, Did, Met, slots_of, deeds_of, took, IsOrderly}
use Rattle.farm_machine.specs.Jobs.{Job, CanRequest, may_be_sent, source_name, output_name, preprocessing_command, compile_command, host_count, is_local_host}
use Rattle.farm_machine.specs.Course.{IsRunOf, IsWholeWith, outcome_of, Course}
use Rattle.farm_machine.specs.Table.{IsSource}
use Rattle.farm_machine.specs.Numbered.{untimed}

-- each slot event of a course comes in its turn, and at the end nothing is out
abbrev pub OrderLaw : Type 0
OrderLaw = (j : Job) (acts : List Act) (end : End) → Course j acts end → IsOrderly (is_local_host j) None (slots_of acts)

-- If a job may find all hosts down, it may take a slot of any host that it has not taken one of before.
abbrev pub DownLaw : Type 0
DownLaw = (j : Job) (host : ℕ) (acts rest : List Act) (end : End) → host < host_count j → took host (slots_of acts) ≡ false
    → Course j (acts ++ Met FindsDown ∷ rest) end → Course j (acts ++ Met (Takes host) ∷ Met (Gives host) ∷ []) (Failed Memory)

-- No course has a look at the clock: so its events, numbered on, read as its acts.
abbrev pub UntimedLaw : Type 0
UntimedLaw = (j : Job) (acts : List Act) (end : End) → Course j acts end → untimed acts ≡ acts

-- this act is among these
abbrev pub IsAmong : Act → List Act → Type 0
IsAmong act [] = ⊥
IsAmong act (a ∷ acts) = (a ≡ act) ⊎ IsAmong act acts

-- The outcome is that of a compile of the job's source among these acts: a host's whole reply to the request of the
-- source, which is within the limits, or a run of the compile's words on the source here.
pub record IsCompiled (j : Job) (acts : List Act) (o : Outcome) : Type 0 where
  pub source : List ℕ
  pub source_is : IsSource acts source
  pub compile :
      ((x : Exchange) × (host : ℕ) × IsAmong (Did (exchanged x)) acts × CanRequest j source × IsWholeWith j x source host o)
      ⊎ ((x : Run) × IsAmong (Did (ran x)) acts × IsRunOf x (compile_command j) source × (o ≡ outcome_of x.ran))

-- The source that a job has after these acts is its own: what its source's file gave, or what its own preprocessor's run left.
abbrev pub IsOwnSource : Job → List Act → List ℕ → Type 0
IsOwnSource j (Did (fetched x) ∷ acts) source = (x.path ≡ source_name j) × (source ≡ x.bytes)
IsOwnSource j (Did (ran x) ∷ acts) source = IsRunOf x (preprocessing_command j) [] × (source ≡ x.ran.out)
IsOwnSource j acts source = ⊥

-- A put of a course is its last act. It is under the output's name, of the object of a compile of status 0 before it,
-- and the job is done with status 0: so a job that has put its object never fails.
pub record PutsLast (j : Job) (before : List Act) (x : Put) (rest : List Act) (end : End) : Type 0 where
  pub last : rest ≡ []
  pub path : x.path ≡ output_name j
  pub outcome : Outcome
  pub compiled : IsCompiled j before outcome
  pub own : IsOwnSource j before compiled.source
  pub status : outcome.status ≡ 0
  pub object : x.bytes ≡ outcome.object
  pub done : (note : List ℕ) × (by : By) × (end ≡ Done 0 note outcome.err outcome.out by)

abbrev pub PutLaw : Type 0
PutLaw = (j : Job) (before : List Act) (x : Put) (rest : List Act) (end : End) → Course j (before ++ Did (put x) ∷ rest) end
    → PutsLast j before x rest end

-- a course is so long at most: three acts for each try, and five for all else
abbrev pub LengthLaw : Type 0
LengthLaw = (j : Job) (acts : List Act) (end : End) → 1 ≤ j.config.tries → Course j acts end → length acts ≤ 3 * j.config.tries + 5

-- no host is the cause of this end
abbrev pub is_own_end : End → Bool
is_own_end (Failed (Broke host cause)) = false
is_own_end (Failed NoHost) = false
is_own_end end = true

-- With fallback on no job fails for a host.
abbrev pub FallbackLaw : Type 0
FallbackLaw = (j : Job) (acts : List Act) (end : End) → Course j acts end → j.config.fallback ≡ true → is_own_end end ≡ true

-- a job that may not be sent has no exchange
abbrev pub StaysHereLaw : Type 0
StaysHereLaw = (j : Job) (acts : List Act) (end : End) → may_be_sent j ≡ false → Course j acts end → exchanges_in (deeds_of acts) ≡ []
