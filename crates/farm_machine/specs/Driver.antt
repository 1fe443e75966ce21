-- All workers together.
use Rattle.std.specs.Prelude.{◌≡◌, ℕ, ◌<◌, ◌≤◌, List, [], ◌∷◌, ◌++◌, None}
use Rattle.slot_table.specs.declared.limits.Limits.{Limits}
use Rattle.slot_table.specs.declared.calls.CallEntry.{CallEntry}
use Rattle.slot_table.specs.declared.calls.SlotCall.TheVariants.{Draw}
use Rattle.slot_table.specs.declared.calls.SlotReply.TheVariants.{Drawn}
use Rattle.slot_table.specs.History.{entry, IsLegal, outstanding, calls_by}
use Rattle.farm_machine.specs.Jobs.{Job}
use Rattle.farm_machine.specs.Course.{Course}
use Rattle.farm_machine.specs.Machine.{Wants, FarmRun}
use Rattle.farm_machine.specs.Weave.{Reports, Agrees, weave}
use Rattle.farm_machine.specs.Farm.{wanted, farm_of, IsOf}
use Rattle.farm_machine.specs.Own.{DoneJob, Each, DoesJobs, IsReported, HasNumber}

-- These calls of a worker are its jobs, one after another, and at last a draw that answered none.
abbrev pub WorkedOff : Wants → ℕ → List DoneJob → List CallEntry → Type 0
WorkedOff wants worker jobs mine = (es : List CallEntry) × DoesJobs wants worker jobs es
    × (mine ≡ es ++ entry worker Draw (Drawn None) ∷ [])

-- Of these calls each of the n workers made those of its jobs, and no one else called.
pub record AllWorked (wants : Wants) (n : ℕ) (done : ℕ → List DoneJob) (calls : List CallEntry) : Type 0 where
  pub some : 0 < n
  pub each : (worker : ℕ) → worker < n → WorkedOff wants worker (done worker) (calls_by worker calls)
  pub others : (worker : ℕ) → n ≤ worker → calls_by worker calls ≡ []

-- what follows: each job of the limits was done by a worker, and the calls agree with all reports that have what the workers did
pub record WorkersAgree {h : ℕ} (l : Limits h) (wants : Wants) (n : ℕ) (done : ℕ → List DoneJob) (es : List CallEntry) : Type 0 where
  pub found : (j : ℕ) → j < l.jobs → (worker : ℕ) × (worker < n) × HasNumber j (done worker)
  pub agrees : (r : Reports) → ((worker : ℕ) → worker < n → Each (IsReported r worker) (done worker)) → Agrees l r wants es

-- the law of all workers, over one legal history
abbrev pub DriverLaw : Type 0
DriverLaw = (h : ℕ) (l : Limits h) (wants : Wants) (n : ℕ) (done : ℕ → List DoneJob) (calls : List CallEntry)
    → IsLegal l calls → AllWorked wants n done calls → WorkersAgree l wants n done calls

-- what each worker did was a course of its job
abbrev pub DidCourses : (ℕ → Job) → ℕ → (ℕ → List DoneJob) → Type 0
DidCourses jobs n done = (worker : ℕ) → worker < n → Each (λ job. Course (jobs job.number) job.acts job.end) (done worker)

-- There are reports with what the workers did, one for each job of the limits; they are courses, the calls agree with them, what is woven
-- of both is a run, and every grant was given back.
pub record WorkersRun {h : ℕ} (l : Limits h) (jobs : ℕ → Job) (n : ℕ) (done : ℕ → List DoneJob) (calls : List CallEntry) : Type 0 where
  pub reports : Reports
  pub workers : (j : ℕ) → j < l.jobs → reports.worker j < n
  pub reported : (worker : ℕ) → worker < n
      → Each (λ job. IsReported reports worker job × (reports.ends job.number ≡ job.end)) (done worker)
  pub courses : (j : ℕ) → j < l.jobs → Course (jobs j) (reports.acts j) (reports.ends j)
  pub agrees : Agrees l reports (wanted l) calls
  pub run : FarmRun (farm_of l jobs) l (weave calls reports)
  pub back : outstanding calls ≡ []

-- the law of all workers whose jobs were courses
abbrev pub WorkersRunLaw : Type 0
WorkersRunLaw = (h : ℕ) (l : Limits h) (jobs : ℕ → Job) (n : ℕ) (done : ℕ → List DoneJob) (calls : List CallEntry)
    → IsOf l jobs → IsLegal l calls → AllWorked (wanted l) n done calls → DidCourses jobs n done → WorkersRun l jobs n done calls
