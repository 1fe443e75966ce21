-- The farm of some jobs, and what its machine keeps.
use Rattle.std.specs.Prelude.{◌≡◌, ◌≢◌, ℕ, ◌+◌, ◌<◌, ◌≤◌, Bool, false, ◌&&◌, not, cond, List, [], ◌∷◌, ◌++◌, Option, Some, None, nat_eq}
use Rattle.std.specs.List.{range_with_len, list_all}
use Rattle.slot_table.specs.declared.limits.Limits.{Limits}
use Rattle.slot_table.specs.declared.calls.CallEntry.{CallEntry}
use Rattle.slot_table.specs.declared.mask.Mask.{Mask}
use Rattle.slot_table.specs.Limits.{is_local}
use Rattle.slot_table.specs.Mask.{in_mask}
use Rattle.slot_table.specs.Step.{entries}
use Rattle.slot_table.specs.History.{Holding, holding_eq, host_eq, IsLegal, state_after, outstanding, jobs_drawn}
use Rattle.slot_table.specs.Laws.{SlotsAgree}
use Rattle.farm_machine.specs.declared.reports.End.{End}
use Rattle.farm_machine.specs.Acts.{SlotEvent, Act, slots_of, took, Loan, loan_of}
use Rattle.farm_machine.specs.Jobs.{Job, host_count, is_local_host}
use Rattle.farm_machine.specs.Course.{Course}
use Rattle.farm_machine.specs.Machine.{JobState, NotBegun, Begun, Returned, FarmState, start, FarmStep, calls_in, after_steps, Farm}
use Rattle.farm_machine.specs.Machine.{IsAllowed, FarmRun}
use Rattle.farm_machine.specs.Weave.{Reports, Agrees, weave}

-- the entry at this place is in the mask exactly if the job took no slot of it before
abbrev pub is_as_wanted : List SlotEvent → Mask → ℕ → Bool
is_as_wanted past mask host = cond (took host past) (not (in_mask mask host)) (in_mask mask host)

-- Of the entries a take has in its mask all but those that the job took before. With one try that is all of them. What a mask says of
-- places after the last entry doesn't matter.
abbrev pub wanted : {h : ℕ} → Limits h → List SlotEvent → Mask → Bool
wanted l past mask = list_all (is_as_wanted past mask) (entries l)

-- the farm of these jobs
abbrev pub farm_of : {h : ℕ} → Limits h → (ℕ → Job) → Farm
farm_of l jobs = record { Course = λ j. Course (jobs j); wants = wanted l }

-- the host list of each job of the limits has the limits' entries, local or not
pub record IsOf {h : ℕ} (l : Limits h) (jobs : ℕ → Job) : Type 0 where
  pub count : (j : ℕ) → j < l.jobs → host_count (jobs j) ≡ l.count
  pub local : (j host : ℕ) → j < l.jobs → host < l.count → is_local_host (jobs j) host ≡ is_local l host

-- The law of the weave: if calls agree with reports that are courses, what is woven of them is a run.
abbrev pub WeaveLaw : Type 0
WeaveLaw = (h : ℕ) (l : Limits h) (jobs : ℕ → Job) (r : Reports) (calls : List CallEntry)
    → IsOf l jobs → ((j : ℕ) → j < l.jobs → Course (jobs j) (r.acts j) (r.ends j))
    → Agrees l r (wanted l) calls → FarmRun (farm_of l jobs) l (weave calls r)

-- And then every grant was given back.
abbrev pub AllBackLaw : Type 0
AllBackLaw = (h : ℕ) (l : Limits h) (jobs : ℕ → Job) (r : Reports) (calls : List CallEntry)
    → IsOf l jobs → ((j : ℕ) → j < l.jobs → Course (jobs j) (r.acts j) (r.ends j))
    → Agrees l r (wanted l) calls → outstanding calls ≡ []

-- how often a grant is in the list
abbrev pub times : Holding → List Holding → ℕ
times x [] = 0
times x (y ∷ ys) = cond (holding_eq x y) (times x ys + 1) (times x ys)

-- a loan is a slot of this host, or a local one if there is none
abbrev pub is_loan : Loan → Option ℕ → Bool
is_loan None host = false
is_loan (Some slot) host = host_eq host slot

-- how often a job in this state has this grant: once if it is begun by the grant's caller, and its slot events have taken the grant and
-- not given it back
abbrev pub lent : JobState → Holding → ℕ
lent NotBegun x = 0
lent (Begun worker acts) x = cond (nat_eq x.caller worker && is_loan (loan_of None (slots_of acts)) x.host) 1 0
lent (Returned end) x = 0

-- What each step of the machine keeps. No job from the next number on was begun, and each below it is begun or has returned. The next
-- number is at most the number of jobs. A worker has at most one begun job. A begun job's acts are the front of a course of it. The
-- outstanding grants are exactly those that begun jobs took and have not given back.
pub record Kept {h : ℕ} (f : Farm) (l : Limits h) (out : List Holding) (s : FarmState h) : Type 0 where
  pub ahead : (j : ℕ) → s.slots.next ≤ j → s.jobs j ≡ NotBegun
  pub drawn : (j : ℕ) → j < s.slots.next → s.jobs j ≢ NotBegun
  pub below : s.slots.next ≤ l.jobs
  pub one : (worker j k : ℕ) (a b : List Act) → s.jobs j ≡ Begun worker a → s.jobs k ≡ Begun worker b → j ≡ k
  pub course : (j worker : ℕ) (acts : List Act) → s.jobs j ≡ Begun worker acts
      → (rest : List Act) × (end : End) × f.Course j (acts ++ rest) end
  pub lent : (x : Holding) → times x out ≡ lent (s.jobs x.job) x

-- What holds after steps that the machine may make: their calls are a legal history, which leaves the state of the slots, so that the laws
-- of legal histories hold; and what each step keeps.
pub record StepsKeep {h : ℕ} (f : Farm) (l : Limits h) (steps : List FarmStep) : Type 0 where
  pub legal : IsLegal l (calls_in steps)
  pub slots : (after_steps l (start h) steps).slots ≡ state_after l (calls_in steps)
  pub order : jobs_drawn (calls_in steps) ≡ range_with_len 0 (after_steps l (start h) steps).slots.next
  pub agree : l.count ≤ h → SlotsAgree l (after_steps l (start h) steps).slots (outstanding (calls_in steps))
  pub kept : Kept f l (outstanding (calls_in steps)) (after_steps l (start h) steps)

-- the law of the machine: for every list of steps that it may make from the start
abbrev pub KeptLaw : Type 0
KeptLaw = (h : ℕ) (l : Limits h) (jobs : ℕ → Job) (steps : List FarmStep)
    → IsOf l jobs → IsAllowed (farm_of l jobs) l steps → StepsKeep (farm_of l jobs) l steps

-- and at every front of such a list, since the machine may make its steps too
abbrev pub PrefixLaw : Type 0
PrefixLaw = (h : ℕ) (l : Limits h) (jobs : ℕ → Job) (front rest : List FarmStep)
    → IsOf l jobs → IsAllowed (farm_of l jobs) l (front ++ rest)
    → IsAllowed (farm_of l jobs) l front × StepsKeep (farm_of l jobs) l front

-- at the end of every run nothing is outstanding
abbrev pub RunLaw : Type 0
RunLaw = (h : ℕ) (l : Limits h) (jobs : ℕ → Job) (steps : List FarmStep)
    → IsOf l jobs → FarmRun (farm_of l jobs) l steps → outstanding (calls_in steps) ≡ []
