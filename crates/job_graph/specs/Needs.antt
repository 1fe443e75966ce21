-- The needs of each job, and what is wrong with a line of needs.
use Rattle.std.specs.Prelude.{ℕ, ◌+◌, ◌-◌, List, [], ◌∷◌, ◌++◌, Bool, true, false, not, ◌&&◌, ◌||◌, nat_le, Option, Some, None}
use Rattle.std.specs.Prelude.{if◌then◌else◌}
use Rattle.std.specs.List.{filter_map}
use Rattle.std.specs.Option.{is_some}
use Rattle.farm_types.specs.Decimals.{decimal_of}
use Rattle.job_list.specs.Texts.{is_job, lines_of}
use Rattle.job_graph.specs.declared.fault.GraphFault.{GraphFault}
use Rattle.job_graph.specs.declared.fault.GraphFault.TheVariants.{BadNeed, NoJobAfter}
use Rattle.job_graph.specs.Lines.{is_needs, needed_words}

-- ---- a word

-- the number that a word spells in 1 to 3 decimal digits
abbrev pub short_number : List ℕ → Option ℕ
short_number word = decimal_of 3 0 999 word

-- the place of the job with this printed number, which is 1 to the number of jobs
abbrev pub job_numbered : ℕ → Option ℕ → Option ℕ
job_numbered count None = None
job_numbered count (Some number) = if nat_le 1 number && nat_le number count then Some (number - 1) else None

-- the place of the job that a word names
abbrev pub job_named : ℕ → List ℕ → Option ℕ
job_named count word = job_numbered count (short_number word)

-- each word names a job
abbrev pub all_named : ℕ → List (List ℕ) → Bool
all_named count [] = true
all_named count (word ∷ words) = is_some (job_named count word) && all_named count words

-- the jobs that words name
abbrev pub jobs_named : ℕ → List (List ℕ) → List ℕ
jobs_named count words = filter_map (job_named count) words

-- ---- the lines

-- a job of the graph: a job of the list, and no line of needs
abbrev pub is_graph_job : List ℕ → Bool
is_graph_job line = not (is_needs line) && is_job line

abbrev pub has_job : List (List ℕ) → Bool
has_job [] = false
has_job (l ∷ ls) = is_graph_job l || has_job ls

-- what is wrong with a line of needs that these lines follow
abbrev pub wrong_needs : ℕ → List ℕ → List (List ℕ) → Option GraphFault
wrong_needs count line after =
    if all_named count (needed_words line) then (if has_job after then None else Some NoJobAfter) else Some BadNeed

-- what is wrong with a line; one that is no line of needs is right
abbrev pub line_fault : ℕ → List ℕ → List (List ℕ) → Option GraphFault
line_fault count line after = if is_needs line then wrong_needs count line after else None

-- a fault and the number of its line
pub record FaultAt : Type 0 where
  pub line : ℕ
  pub fault : GraphFault

abbrev pub fault_or : ℕ → Option GraphFault → Option FaultAt → Option FaultAt
fault_or number (Some fault) later = Some (record { line = number; fault = fault })
fault_or number None later = later

-- the first of these lines that is wrong, if the first line has this number
abbrev pub fault_from : ℕ → ℕ → List (List ℕ) → Option FaultAt
fault_from count number [] = None
fault_from count number (l ∷ ls) = fault_or number (line_fault count l ls) (fault_from count (number + 1) ls)

-- of a text with that many jobs the first wrong line of needs; lines count from 1
abbrev pub needs_fault : ℕ → List ℕ → Option FaultAt
needs_fault count text = fault_from count 1 (lines_of text)

-- ---- the needs

-- the needs of each job of these lines, in the order of their words; the first of the jobs has those ahead before them
abbrev pub needs_from : ℕ → List ℕ → List (List ℕ) → List (List ℕ)
needs_from count ahead [] = []
needs_from count ahead (l ∷ ls) =
    if is_needs l then needs_from count (ahead ++ jobs_named count (needed_words l)) ls else
    (if is_job l then ahead ∷ needs_from count [] ls else needs_from count ahead ls)

-- the needs of each job of a text with that many jobs: what all lines of needs name that are between it and the job before it
abbrev pub needs_of : ℕ → List ℕ → List (List ℕ)
needs_of count text = needs_from count [] (lines_of text)
