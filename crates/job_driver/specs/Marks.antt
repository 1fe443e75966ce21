-- What a worker shows of its way.
use Rattle.std.specs.Prelude.{◌≡◌, ℕ, ◌+◌, Bool, true, List, [], ◌∷◌, ◌++◌, map, Some, None}
use Rattle.logbook.specs.Pages.{Book}
use Rattle.farm_machine.specs.declared.reports.Report.{Report}
use Rattle.farm_monitor.specs.declared.progress.Progress.{Progress}
use Rattle.farm_monitor.specs.Rows.{last_row}

-- the worker is at this job, and has ended that many
abbrev pub at_job : ℕ → ℕ → Progress
at_job job ended = record { job = Some job; ended = ended }

-- the worker is at no job
abbrev pub between_jobs : ℕ → Progress
between_jobs ended = record { job = None; ended = ended }

-- how many have ended by the last of these rows
abbrev pub ended_in : List Progress → ℕ
ended_in rows = (last_row rows).ended

-- each row up to this one was shown, or one was not
abbrev pub HasAdded : Bool → Bool → Progress → List Progress → List Progress → Type 0
HasAdded before after row old new = after ≡ true → (before ≡ true) × (new ≡ old ++ row ∷ [])

-- jobs one after another, if that many had ended before: a row when each is drawn, and one when its report is there
abbrev pub rows_of : ℕ → List ℕ → List Progress
rows_of ended [] = []
rows_of ended (job ∷ jobs) = at_job job ended ∷ between_jobs (ended + 1) ∷ rows_of (ended + 1) jobs

-- the jobs of these reports were marked on one board, unless a row wasn't shown
pub record HasMarked {M : Type 0} (board : M → Book) (all : M → Bool) (rows : M → List Progress) (old new : M)
    (reports : List Report) : Type 0 where
  pub same_board : board new ≡ board old
  pub added : all new ≡ true
      → (all old ≡ true) × (rows new ≡ rows old ++ rows_of (ended_in (rows old)) (map (λ report. report.number) reports))
