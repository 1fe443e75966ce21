-- What is counted over all boards.
use Rattle.std.specs.Prelude.{◌≡◌, ℕ, ◌+◌, min, List, [], ◌∷◌, map, Option, is_some, if◌then◌else◌}
use mathlib.Core.List.{IsPrefix}
use Rattle.farm_monitor.specs.declared.progress.Progress.{Progress}
use Rattle.farm_monitor.specs.declared.ends.Watcher.{Watcher}
use Rattle.farm_monitor.specs.Rows.{last_row}
use Rattle.farm_monitor.specs.Boards.{known_rows}
use Rattle.progress_lines.specs.declared.count.Count.{Count}

-- the rows that these watchers know, a list for each board
abbrev pub known : List Watcher → List (List Progress)
known watchers = map known_rows watchers

-- the jobs ended in the last rows of these boards, together
abbrev pub total : List (List Progress) → ℕ
total [] = 0
total (rows ∷ boards) = (last_row rows).ended + total boards

-- one for a job, none for no job
abbrev pub one_for : Option ℕ → ℕ
one_for job = if is_some job then 1 else 0

-- how many of these last rows have a job
abbrev pub at_jobs : List (List Progress) → ℕ
at_jobs [] = 0
at_jobs (rows ∷ boards) = one_for (last_row rows).job + at_jobs boards

-- what these last rows count to: no more of the jobs have ended than there are
abbrev pub count_of : ℕ → List (List Progress) → Count
count_of jobs boards = record { ended = min jobs (total boards); busy = at_jobs boards }

-- the same boards later: the rows of each begin with those that were read of it before
abbrev pub ReadOn : List (List Progress) → List (List Progress) → Type 0
ReadOn [] [] = Unit {0}
ReadOn [] (rows ∷ new) = ⊥
ReadOn (before ∷ old) [] = ⊥
ReadOn (before ∷ old) (rows ∷ new) = IsPrefix before rows × ReadOn old new

-- each count is of what had been read at one look, and the looks follow one another, from `old` to `new`
abbrev pub AreLooks : ℕ → List (List Progress) → List Count → List (List Progress) → Type 0
AreLooks jobs old [] new = ReadOn old new
AreLooks jobs old (c ∷ counts) new =
    (here : List (List Progress)) × ReadOn old here × (c ≡ count_of jobs here) × AreLooks jobs here counts new
