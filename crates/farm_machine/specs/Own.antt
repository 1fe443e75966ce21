-- What one worker's own calls say of its jobs.
use Rattle.std.specs.Prelude.{◌≡◌, ◌≢◌, ◌⊎◌, ℕ, ◌<◌, List, [], ◌∷◌, ◌++◌, Some, None}
use Rattle.slot_table.specs.declared.limits.Limits.{Limits}
use Rattle.slot_table.specs.declared.calls.CallEntry.{CallEntry}
use Rattle.slot_table.specs.declared.calls.SlotCall.TheVariants.{Draw}
use Rattle.slot_table.specs.declared.calls.SlotReply.TheVariants.{Drawn}
use Rattle.slot_table.specs.History.{entry}
use Rattle.farm_machine.specs.declared.reports.End.{End}
use Rattle.farm_machine.specs.Acts.{SlotEvent, Act, slots_of}
use Rattle.farm_machine.specs.Machine.{JobCall, Draws, Adds, Waits, Mismatched, job_call_of, Wants, MaskIs}
use Rattle.farm_machine.specs.Weave.{Reports, IsWaitedFor, OwnAgrees}

-- A call is of job j, and a take has a mask that is wanted. It is the slot event x, and `IsMet` holds; or it is a refused take that waits for
-- x, and `IsRefused` holds.
abbrev pub ServedBy : Wants → ℕ → List SlotEvent → SlotEvent → JobCall → Type 0 → Type 0 → Type 0
ServedBy wants j past x (Adds i mask y) IsMet IsRefused = (i ≡ j) × MaskIs mask (wants past) × (y ≡ x) × IsMet
ServedBy wants j past x (Waits i mask kind) IsMet IsRefused = (i ≡ j) × MaskIs mask (wants past) × IsWaitedFor kind x × IsRefused
ServedBy wants j past x (Draws job) IsMet IsRefused = ⊥
ServedBy wants j past x Mismatched IsMet IsRefused = ⊥

-- These calls of a worker are these slot events of its job, after those that are past, in order, with the refused takes before each.
abbrev pub Serves : Wants → ℕ → ℕ → List SlotEvent → List SlotEvent → List CallEntry → Type 0
Serves wants worker j past [] [] = Unit {0}
Serves wants worker j past [] (e ∷ es) = ⊥
Serves wants worker j past (x ∷ xs) [] = ⊥
Serves wants worker j past (x ∷ xs) (e ∷ es) =
    (e.caller ≡ worker)
    × ServedBy wants j past x (job_call_of e) (Serves wants worker j (past ++ x ∷ []) xs es) (Serves wants worker j past (x ∷ xs) es)

-- these calls of a worker are refused takes of its job before this slot event
abbrev pub AreRefused : Wants → ℕ → ℕ → List SlotEvent → SlotEvent → List CallEntry → Type 0
AreRefused wants worker j past x [] = Unit {0}
AreRefused wants worker j past x (e ∷ es) =
    (e.caller ≡ worker) × ServedBy wants j past x (job_call_of e) ⊥ (AreRefused wants worker j past x es)

-- a job that a worker did: its number, and its report as it is read
pub record DoneJob : Type 0 where
  pub number : ℕ
  pub acts : List Act
  pub end : End

abbrev pub Each : (DoneJob → Type 0) → List DoneJob → Type 0
Each P [] = Unit {0}
Each P (job ∷ jobs) = P job × Each P jobs

-- These calls of a worker are its jobs, one after another: of each its draw and the calls that serve it.
abbrev pub DoesJobs : Wants → ℕ → List DoneJob → List CallEntry → Type 0
DoesJobs wants worker [] es = es ≡ []
DoesJobs wants worker (job ∷ jobs) es =
    (calls : List CallEntry) × (more : List CallEntry)
    × (es ≡ entry worker Draw (Drawn (Some job.number)) ∷ (calls ++ more))
    × Serves wants worker job.number [] (slots_of job.acts) calls
    × DoesJobs wants worker jobs more

-- no two have one number
abbrev pub AreApart : List DoneJob → Type 0
AreApart [] = Unit {0}
AreApart (job ∷ jobs) = Each (λ other. other.number ≢ job.number) jobs × AreApart jobs

-- the reports have this job of the worker
abbrev pub IsReported : Reports → ℕ → DoneJob → Type 0
IsReported r worker job = (r.worker job.number ≡ worker) × (r.acts job.number ≡ job.acts)

-- a job with this number is among them
abbrev pub HasNumber : ℕ → List DoneJob → Type 0
HasNumber j [] = ⊥
HasNumber j (job ∷ jobs) = (job.number ≡ j) ⊎ HasNumber j jobs

-- The law of one worker: its own calls agree with the reports under three conditions. They do its jobs one after another, with a last draw
-- that answered none. No two of these jobs have one number. The reports have exactly these jobs of it.
abbrev pub WorkerLaw : Type 0
WorkerLaw = (h : ℕ) (l : Limits h) (r : Reports) (wants : Wants) (worker : ℕ) (jobs : List DoneJob) (es : List CallEntry)
    → DoesJobs wants worker jobs es → AreApart jobs → Each (IsReported r worker) jobs
    → ((j : ℕ) → j < l.jobs → r.worker j ≡ worker → HasNumber j jobs)
    → OwnAgrees l r wants worker (es ++ entry worker Draw (Drawn None) ∷ [])

-- The law of one more call. If the calls so far serve a job's slot events so far, they do so with one more event, the refused takes before
-- it and the call that is it.
abbrev pub ServesMoreLaw : Type 0
ServesMoreLaw = (wants : Wants) (worker j : ℕ) (past xs : List SlotEvent) (x : SlotEvent) (es refused : List CallEntry) (e : CallEntry)
    → Serves wants worker j past xs es
    → AreRefused wants worker j (past ++ xs) x refused
    → Serves wants worker j (past ++ xs) (x ∷ []) (e ∷ [])
    → Serves wants worker j past (xs ++ x ∷ []) (es ++ (refused ++ e ∷ []))
