-- Calls that follow reports, and the steps that are woven of both.
use Rattle.std.specs.Prelude.{◌≡◌, ◌⊎◌, ◌↔◌, ℕ, ◌<◌, List, [], ◌∷◌, ◌++◌, Option, Some, None}
use Rattle.std.specs.List.{range_with_len}
use Rattle.slot_table.specs.declared.limits.Limits.{Limits}
use Rattle.slot_table.specs.declared.calls.CallEntry.{CallEntry}
use Rattle.slot_table.specs.History.{IsLegal, calls_by, jobs_drawn}
use Rattle.farm_machine.specs.declared.reports.End.{End}
use Rattle.farm_machine.specs.Acts.{SlotEvent, Takes, FindsDown, TakesLocal, Act, Did, Met, slots_of, next_met, after_met}
use Rattle.farm_machine.specs.Machine.{SlotKind, HostSlot, LocalSlot, JobCall, Draws, Adds, Waits, Mismatched, job_call_of, Wants, MaskIs}
use Rattle.farm_machine.specs.Machine.{set_at, FarmStep, Calls, Does, Returns, calls_in, acts_in, ends_in}

-- the reports of all jobs, as they are read: of each job its worker, its acts and its end
pub record Reports : Type 0 where
  pub worker : ℕ → ℕ
  pub acts : ℕ → List Act
  pub ends : ℕ → End

-- What the earlier calls of a list leave: the job that each worker's latest draw answered, and of each job the slot events that were
-- calls and the acts after them.
pub record Progress : Type 0 where
  pub current : ℕ → Option ℕ
  pub past : ℕ → List SlotEvent
  pub rest : ℕ → List Act

-- before the first call
abbrev pub no_progress : Reports → Progress
no_progress r = record { current = λ worker. None; past = λ j. []; rest = r.acts }

abbrev pub progress_after : Progress → ℕ → JobCall → Progress
progress_after p worker (Draws job) = record { current = set_at p.current worker job; past = p.past; rest = p.rest }
progress_after p worker (Adds j mask x) =
    record { current = p.current; past = set_at p.past j (p.past j ++ x ∷ []); rest = set_at p.rest j (after_met (p.rest j)) }
progress_after p worker (Waits j mask kind) = p
progress_after p worker Mismatched = p

abbrev pub next_progress : Progress → CallEntry → Progress
next_progress p e = progress_after p e.caller (job_call_of e)

abbrev pub last_progress : Progress → List CallEntry → Progress
last_progress p [] = p
last_progress p (e ∷ es) = last_progress (next_progress p e) es

-- what a refused take of a slot of this kind waits for
abbrev pub IsWaitedFor : SlotKind → SlotEvent → Type 0
IsWaitedFor HostSlot x = (x ≡ FindsDown) ⊎ ((host : ℕ) × (x ≡ Takes host))
IsWaitedFor LocalSlot x = x ≡ TakesLocal

-- The call of this worker follows if it is a draw that answers none, or a job whose report is this worker's. For the job that this worker's
-- latest draw answered, its next slot event follows, or a refused take before that event, if it is waited for. A take has the mask that is
-- wanted after the job's slot events so far.
abbrev pub Follows : Reports → Wants → Progress → ℕ → JobCall → Type 0
Follows r wants p worker (Draws None) = Unit {0}
Follows r wants p worker (Draws (Some j)) = r.worker j ≡ worker
Follows r wants p worker (Adds j mask x) = (p.current worker ≡ Some j) × MaskIs mask (wants (p.past j)) × (next_met (p.rest j) ≡ Some x)
Follows r wants p worker (Waits j mask kind) =
    (p.current worker ≡ Some j) × MaskIs mask (wants (p.past j))
    × ((x : SlotEvent) × (next_met (p.rest j) ≡ Some x) × IsWaitedFor kind x)
Follows r wants p worker Mismatched = ⊥

-- every call follows those before it
abbrev pub AllFollow : Reports → Wants → Progress → List CallEntry → Type 0
AllFollow r wants p [] = Unit {0}
AllFollow r wants p (e ∷ es) = Follows r wants p e.caller (job_call_of e) × AllFollow r wants (next_progress p e) es

-- every job was drawn
abbrev pub AllDrawn : {h : ℕ} → Limits h → List CallEntry → Type 0
AllDrawn l calls = jobs_drawn calls ≡ range_with_len 0 l.jobs

-- no slot event of the job is left over
abbrev pub IsUsedUp : Progress → ℕ → Type 0
IsUsedUp p j = next_met (p.rest j) ≡ None

-- calls agree with reports
pub record Agrees {h : ℕ} (l : Limits h) (r : Reports) (wants : Wants) (calls : List CallEntry) : Type 0 where
  pub legal : IsLegal l calls
  pub follow : AllFollow r wants (no_progress r) calls
  pub drawn : AllDrawn l calls
  pub used : (j : ℕ) → j < l.jobs → IsUsedUp (last_progress (no_progress r) calls) j

-- one worker's own calls follow, and leave over no slot event of its reports
pub record OwnAgrees {h : ℕ} (l : Limits h) (r : Reports) (wants : Wants) (worker : ℕ) (mine : List CallEntry) : Type 0 where
  pub follow : AllFollow r wants (no_progress r) mine
  pub used : (j : ℕ) → j < l.jobs → r.worker j ≡ worker → IsUsedUp (last_progress (no_progress r) mine) j

-- The law by callers: a legal list in which every job was drawn agrees exactly if each worker's own calls do.
abbrev pub CallersLaw : Type 0
CallersLaw = (h : ℕ) (l : Limits h) (r : Reports) (wants : Wants) (calls : List CallEntry)
    → IsLegal l calls → AllDrawn l calls
    → Agrees l r wants calls ↔ ((worker : ℕ) → OwnAgrees l r wants worker (calls_by worker calls))

-- Whether calls agree depends only on workers and slot events, so it can be tested before the reports' places are read.
abbrev pub UnreadLaw : Type 0
UnreadLaw = (h : ℕ) (l : Limits h) (r s : Reports) (wants : Wants) (calls : List CallEntry)
    → ((j : ℕ) → j < l.jobs → r.worker j ≡ s.worker j) → ((j : ℕ) → j < l.jobs → slots_of (r.acts j) ≡ slots_of (s.acts j))
    → Agrees l r wants calls → Agrees l s wants calls

-- the deeds before the next slot event, and the return if there is none
abbrev pub steps_until_met : ℕ → End → List Act → List FarmStep
steps_until_met j end [] = Returns j end ∷ []
steps_until_met j end (Did d ∷ acts) = Does j d ∷ steps_until_met j end acts
steps_until_met j end (Met x ∷ acts) = []

-- what is woven in directly after a call: after a job's draw and after each of its slot events, the steps before its next slot event
abbrev pub steps_behind : Reports → Progress → JobCall → List FarmStep
steps_behind r p (Draws (Some j)) = steps_until_met j (r.ends j) (p.rest j)
steps_behind r p (Draws None) = []
steps_behind r p (Adds j mask x) = steps_until_met j (r.ends j) (p.rest j)
steps_behind r p (Waits j mask kind) = []
steps_behind r p Mismatched = []

abbrev pub weave_from : Reports → Progress → List CallEntry → List FarmStep
weave_from r p [] = []
weave_from r p (e ∷ es) = Calls e ∷ (steps_behind r (next_progress p e) (job_call_of e) ++ weave_from r (next_progress p e) es)

-- the calls in their order, and after each draw of a job and each slot event what the job does until its next slot event
abbrev pub weave : List CallEntry → Reports → List FarmStep
weave calls r = weave_from r (no_progress r) calls

-- The weave leaves out nothing and adds nothing: its calls are the calls, and in it each job does exactly its report's acts, in order, and
-- returns once, with its report's end.
pub record HasAll {h : ℕ} (l : Limits h) (r : Reports) (es : List CallEntry) (steps : List FarmStep) : Type 0 where
  pub calls : calls_in steps ≡ es
  pub acts : (j : ℕ) → j < l.jobs → acts_in j steps ≡ r.acts j
  pub ends : (j : ℕ) → j < l.jobs → ends_in j steps ≡ r.ends j ∷ []

abbrev pub NothingLostLaw : Type 0
NothingLostLaw = (h : ℕ) (l : Limits h) (r : Reports) (wants : Wants) (calls : List CallEntry)
    → Agrees l r wants calls → HasAll l r calls (weave calls r)
