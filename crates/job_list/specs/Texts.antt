-- The lines of a text, and those that are jobs.
use Rattle.std.specs.Prelude.{ℕ, ◌+◌, List, [], ◌∷◌, Bool, false, not, ◌==◌, if◌then◌else◌}
use Rattle.std.specs.List.{slice_split}
use Rattle.farm_types.specs.Bytes.{line_feed, hash, is_blank}

-- the lines of a text, between its line feeds
abbrev pub lines_of : List ℕ → List (List ℕ)
lines_of text = slice_split (λ c. c == line_feed) text

-- a line is a job, unless it has blanks only or its first other byte is `#`
abbrev pub is_job : List ℕ → Bool
is_job [] = false
is_job (c ∷ cs) = if is_blank c then is_job cs else not (c == hash)

-- a line and its number
pub record NumberedLine : Type 0 where
  pub number : ℕ
  pub bytes : List ℕ

-- those of some lines that are jobs, if the first line has this number
abbrev pub jobs_from : ℕ → List (List ℕ) → List NumberedLine
jobs_from number [] = []
jobs_from number (l ∷ ls) =
    if is_job l then record { number = number; bytes = l } ∷ jobs_from (number + 1) ls else jobs_from (number + 1) ls

-- the lines of a text that are jobs; lines count from 1
abbrev pub job_lines : List ℕ → List NumberedLine
job_lines text = jobs_from 1 (lines_of text)
