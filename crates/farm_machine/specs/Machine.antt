-- The farm machine: its states, its steps and its runs.
use Rattle.std.specs.Prelude.{◌≡◌, ◌≢◌, ℕ, ◌<◌, Bool, true, false, cond, List, [], ◌∷◌, ◌++◌, Option, Some, None, nat_eq}
use Rattle.slot_table.specs.declared.limits.Limits.{Limits}
use Rattle.slot_table.specs.declared.state.SlotState.{SlotState}
use Rattle.slot_table.specs.declared.mask.Mask.{Mask}
use Rattle.slot_table.specs.declared.calls.SlotCall.{SlotCall}
use Rattle.slot_table.specs.declared.calls.SlotCall.TheVariants.{Draw, Take, Give, GiveBad, TakeLocal, GiveLocal}
use Rattle.slot_table.specs.declared.calls.SlotReply.{SlotReply}
use Rattle.slot_table.specs.declared.calls.SlotReply.TheVariants.{Drawn, Got, Full, Down, Local, Given}
use Rattle.slot_table.specs.declared.calls.CallEntry.{CallEntry}
use Rattle.slot_table.specs.Step.{opening, slot_step}
use Rattle.edge_traits.specs.Deeds.{Deed}
use Rattle.farm_machine.specs.declared.reports.End.{End}
use Rattle.farm_machine.specs.Acts.{SlotEvent, Takes, Gives, GivesBad, FindsDown, TakesLocal, GivesLocal, Act, Did, Met, slots_of}

-- the two kinds of slots
pub data SlotKind : Type 0 where
  HostSlot : SlotKind
  LocalSlot : SlotKind

-- What a call with its reply is: a draw of a job or of none; a slot event of this job; a refused take of this job, which has to try again;
-- or a reply that no such call has. A take comes with its mask.
pub data JobCall : Type 0 where
  Draws : Option ℕ → JobCall
  Adds : ℕ → Option Mask → SlotEvent → JobCall
  Waits : ℕ → Option Mask → SlotKind → JobCall
  Mismatched : JobCall

abbrev pub job_call : SlotCall → SlotReply → JobCall
job_call Draw (Drawn job) = Draws job
job_call (Take job mask now) (Got host) = Adds job (Some mask) (Takes host)
job_call (Take job mask now) Down = Adds job (Some mask) FindsDown
job_call (Take job mask now) Full = Waits job (Some mask) HostSlot
job_call (Give host job) Given = Adds job None (Gives host)
job_call (GiveBad host job until) Given = Adds job None (GivesBad host until)
job_call (TakeLocal job) (Local true) = Adds job None TakesLocal
job_call (TakeLocal job) (Local false) = Waits job None LocalSlot
job_call (GiveLocal job) Given = Adds job None GivesLocal
job_call call reply = Mismatched

abbrev pub job_call_of : CallEntry → JobCall
job_call_of e = job_call e.call e.reply

-- which masks a take may have, after these slot events of its job
abbrev pub Wants : Type 0
Wants = List SlotEvent → Mask → Bool

-- a mask, if there is one, passes the test
abbrev pub MaskIs : Option Mask → (Mask → Bool) → Type 0
MaskIs None wanted = Unit {0}
MaskIs (Some mask) wanted = wanted mask ≡ true

-- the function with this value at this place
abbrev pub set_at : {A : Type 0} → (ℕ → A) → ℕ → A → ℕ → A
set_at f k a n = cond (nat_eq n k) a (f n)

-- the state of a job: not begun, begun by a worker with its acts so far, or returned with an end
pub data JobState : Type 0 where
  NotBegun : JobState
  Begun : ℕ → List Act → JobState
  Returned : End → JobState

-- the state of the farm: that of its slots, and that of each job
pub record FarmState (h : ℕ) : Type 0 where
  pub slots : SlotState h
  pub jobs : ℕ → JobState

-- nothing was called yet, and no job is begun
abbrev pub start : (h : ℕ) → FarmState h
start h = record { slots = opening h; jobs = λ j. NotBegun }

-- a call of a worker with its reply, a deed of a job, or the return of a job
pub data FarmStep : Type 0 where
  Calls : CallEntry → FarmStep
  Does : ℕ → Deed → FarmStep
  Returns : ℕ → End → FarmStep

-- the calls among the steps
abbrev pub calls_in : List FarmStep → List CallEntry
calls_in [] = []
calls_in (Calls e ∷ steps) = e ∷ calls_in steps
calls_in (Does j d ∷ steps) = calls_in steps
calls_in (Returns j end ∷ steps) = calls_in steps

-- the slot event that a call is, if it is one of this job
abbrev pub met_by : ℕ → JobCall → List Act
met_by j (Adds i mask x) = cond (nat_eq i j) (Met x ∷ []) []
met_by j other = []

-- what this job does in the steps, in order
abbrev pub acts_in : ℕ → List FarmStep → List Act
acts_in j [] = []
acts_in j (Calls e ∷ steps) = met_by j (job_call_of e) ++ acts_in j steps
acts_in j (Does i d ∷ steps) = cond (nat_eq i j) (Did d ∷ []) [] ++ acts_in j steps
acts_in j (Returns i end ∷ steps) = acts_in j steps

-- the ends with which this job returns in the steps
abbrev pub ends_in : ℕ → List FarmStep → List End
ends_in j [] = []
ends_in j (Calls e ∷ steps) = ends_in j steps
ends_in j (Does i d ∷ steps) = ends_in j steps
ends_in j (Returns i end ∷ steps) = cond (nat_eq i j) (end ∷ []) [] ++ ends_in j steps

-- a begun job has one act more
abbrev pub with_act : JobState → Act → JobState
with_act NotBegun act = NotBegun
with_act (Begun worker acts) act = Begun worker (acts ++ act ∷ [])
with_act (Returned end) act = Returned end

-- a draw begins the job that it answers, and a slot event is added to its job's acts
abbrev pub jobs_after : (ℕ → JobState) → ℕ → JobCall → ℕ → JobState
jobs_after jobs worker (Draws (Some j)) = set_at jobs j (Begun worker [])
jobs_after jobs worker (Draws None) = jobs
jobs_after jobs worker (Adds j mask x) = set_at jobs j (with_act (jobs j) (Met x))
jobs_after jobs worker (Waits j mask kind) = jobs
jobs_after jobs worker Mismatched = jobs

-- the state after a step
abbrev pub after : {h : ℕ} → Limits h → FarmState h → FarmStep → FarmState h
after l s (Calls e) = record { slots = (slot_step l s.slots e.call).0; jobs = jobs_after s.jobs e.caller (job_call_of e) }
after l s (Does j d) = record { slots = s.slots; jobs = set_at s.jobs j (with_act (s.jobs j) (Did d)) }
after l s (Returns j end) = record { slots = s.slots; jobs = set_at s.jobs j (Returned end) }

-- what a farm works by: the courses of each job, and which masks a take may have
pub record Farm : Type 1 where
  pub Course : ℕ → List Act → End → Type 0
  pub wants : Wants

-- an act may come next in some course of the job
abbrev pub MayBeNext : Farm → ℕ → List Act → Act → Type 0
MayBeNext f j acts act = (rest : List Act) × (end : End) × f.Course j (acts ++ act ∷ rest) end

-- a slot of this kind may be taken next in some course of the job
abbrev pub MayWait : Farm → ℕ → List Act → SlotKind → Type 0
MayWait f j acts HostSlot = (host : ℕ) × MayBeNext f j acts (Met (Takes host))
MayWait f j acts LocalSlot = MayBeNext f j acts (Met TakesLocal)

-- Which calls a worker may make: a draw if it has no begun job; any other call for its begun job. That is a slot event if it may come next,
-- or a refused take if a slot of its kind may be taken next. A take has the mask that is wanted.
abbrev pub MayCall : Farm → (ℕ → JobState) → ℕ → JobCall → Type 0
MayCall f jobs worker (Draws job) = (j : ℕ) (acts : List Act) → jobs j ≢ Begun worker acts
MayCall f jobs worker (Adds j mask x) =
    (acts : List Act) × (jobs j ≡ Begun worker acts) × MaskIs mask (f.wants (slots_of acts)) × MayBeNext f j acts (Met x)
MayCall f jobs worker (Waits j mask kind) =
    (acts : List Act) × (jobs j ≡ Begun worker acts) × MaskIs mask (f.wants (slots_of acts)) × MayWait f j acts kind
MayCall f jobs worker Mismatched = ⊥

-- Which steps the machine may make: a call with the reply of the slots; a deed of a begun job that may come next; the return of a begun
-- job whose acts and end are a course.
abbrev pub MayStep : {h : ℕ} → Farm → Limits h → FarmState h → FarmStep → Type 0
MayStep f l s (Calls e) = (e.reply ≡ (slot_step l s.slots e.call).1) × MayCall f s.jobs e.caller (job_call_of e)
MayStep f l s (Does j d) = (worker : ℕ) × (acts : List Act) × (s.jobs j ≡ Begun worker acts) × MayBeNext f j acts (Did d)
MayStep f l s (Returns j end) = (worker : ℕ) × (acts : List Act) × (s.jobs j ≡ Begun worker acts) × f.Course j acts end

-- the state after these steps
abbrev pub after_steps : {h : ℕ} → Limits h → FarmState h → List FarmStep → FarmState h
after_steps l s [] = s
after_steps l s (step ∷ steps) = after_steps l (after l s step) steps

-- the machine may make these steps one after another, from this state
abbrev pub IsAllowedFrom : {h : ℕ} → Farm → Limits h → FarmState h → List FarmStep → Type 0
IsAllowedFrom f l s [] = Unit {0}
IsAllowedFrom f l s (step ∷ steps) = MayStep f l s step × IsAllowedFrom f l (after l s step) steps

-- the machine may make these steps from the start
abbrev pub IsAllowed : {h : ℕ} → Farm → Limits h → List FarmStep → Type 0
IsAllowed {h} f l steps = IsAllowedFrom f l (start h) steps

abbrev pub AllReturned : {h : ℕ} → Limits h → FarmState h → Type 0
AllReturned l s = (j : ℕ) → j < l.jobs → (end : End) × (s.jobs j ≡ Returned end)

-- a run: steps that the machine may make from the start, after which every job has returned
pub record FarmRun {h : ℕ} (f : Farm) (l : Limits h) (steps : List FarmStep) : Type 0 where
  pub allowed : IsAllowed f l steps
  pub returned : AllReturned l (after_steps l (start h) steps)
