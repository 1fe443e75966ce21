-- What the steps of the reader give.
use Rattle.std.specs.Prelude.{ℕ, ◌≡◌, ◌+◌, ◌<◌, ◌≤◌, List, [], ◌∷◌, ◌++◌, length, drop, map, Option, Some, None, true, false, ◌⊎◌}
use Rattle.std.specs.List.{flat_map, slice_get}
use Rattle.farm_types.specs.Bytes.{double_quote}
use Rattle.farm_types.specs.Limits.{jobs_max}
use Rattle.job_list.specs.declared.line.Reader.{Reader}
use Rattle.job_list.specs.declared.quotes.Closed.{Closed}
use Rattle.job_list.specs.declared.list.Listed.{Listed}
use Rattle.job_list.specs.declared.fault.JobFault.{JobFault}
use Rattle.job_list.specs.declared.fault.JobFault.TheVariants.{SameOutput}
use Rattle.job_list.specs.Parts.{Each, Quoted, IsQuoted, quoted_text, quoted_bytes, Part, IsPart, part_text}
use Rattle.job_list.specs.Lines.{words_of, goes_on, onto_words}
use Rattle.job_list.specs.Texts.{is_job, lines_of, NumberedLine, jobs_from, job_lines}
use Rattle.job_list.specs.Outputs.{outputs_of, IsLeastPair}
use Rattle.job_list.specs.Jobs.{JobOf, AreJobs}

-- ---- a line

-- what is from one place of a line up to another is spelled between double quotes, and adds its bytes
pub record MoreQuoted (line : List ℕ) (from to : ℕ) (old new : List ℕ) : Type 0 where
  pub quoted : List Quoted
  pub right : Each IsQuoted quoted
  pub spelled : drop from line ≡ flat_map quoted_text quoted ++ drop to line
  pub meant : new ≡ old ++ flat_map quoted_bytes quoted

-- after a double quote these bytes are spelled, up to the next one, which ends at this place
pub record IsClosed (line : List ℕ) (from : ℕ) (closed : Closed) : Type 0 where
  pub quoted : List Quoted
  pub right : Each IsQuoted quoted
  pub spelled : drop from line ≡ flat_map quoted_text quoted ++ (double_quote ∷ drop closed.end line)
  pub meant : closed.bytes ≡ flat_map quoted_bytes quoted
  pub low : from < closed.end
  pub high : closed.end ≤ length line

-- the bytes of the word that is open
abbrev pub opened : Option (List ℕ) → List ℕ
opened None = []
opened (Some word) = word

-- a reader with the word that is open, if there is one, ended
abbrev pub ended : List (List ℕ) → Option (List ℕ) → List (List ℕ)
ended words None = words
ended words (Some word) = words ++ word ∷ []

-- the words of parts that follow the word that is open
abbrev pub with_open : Option (List ℕ) → List Part → List (List ℕ)
with_open None ps = words_of ps
with_open (Some word) ps = onto_words (goes_on ps) word (words_of ps)

-- parts more take a reader from one state to another
abbrev pub Takes : Reader → List Part → Reader → Type 0
Takes old parts new = (more : List Part)
    → old.words ++ with_open old.word (parts ++ more) ≡ new.words ++ with_open new.word more

-- some parts spell what is from one place of a line up to another, and take the reader there
pub record Reads (line : List ℕ) (from to : ℕ) (old new : Reader) : Type 0 where
  pub parts : List Part
  pub right : Each IsPart parts
  pub spelled : drop from line ≡ flat_map part_text parts ++ drop to line
  pub takes : Takes old parts new

-- ---- lines of a text

abbrev pub numbers_of : List NumberedLine → List ℕ
numbers_of lines = map (λ (line : NumberedLine). line.number) lines

-- a line that is a job adds its words and its number, and another one nothing
abbrev pub AddsLine : List ℕ → ℕ → Listed → Listed → Type 0
AddsLine line number old new =
    ((is_job line ≡ false) × (new ≡ old))
    ⊎ ((is_job line ≡ true) × (words : List (List ℕ)) × JobOf line words
    × (new ≡ record { jobs = old.jobs ++ words ∷ []; lines = old.lines ++ number ∷ [] }))

-- and there are at most 512 jobs still
pub record TakesLine (line : List ℕ) (number : ℕ) (old new : Listed) : Type 0 where
  pub by : AddsLine line number old new
  pub few : length new.jobs ≤ jobs_max

-- the jobs of a text are these lines and those from a place on, if a line with this number begins; none begins
-- after the text's end
abbrev pub Left : List ℕ → ℕ → ℕ → List NumberedLine → Type 0
Left text from number before =
    ((from ≤ length text) × (job_lines text ≡ before ++ jobs_from number (lines_of (drop from text))))
    ⊎ ((length text < from) × (job_lines text ≡ before))

-- the lines before a place list these jobs, and the next line has this number
pub record ListsUpTo (text : List ℕ) (from number : ℕ) (listed : Listed) : Type 0 where
  pub before : List NumberedLine
  pub left : Left text from number before
  pub right : AreJobs before listed.jobs
  pub few : length listed.jobs ≤ jobs_max
  pub numbers : listed.lines ≡ numbers_of before

-- two of the listed jobs have the same output
pub record ListedShare (listed : Listed) (at : ℕ) (fault : JobFault) : Type 0 where
  pub first : ℕ
  pub second : ℕ
  pub pair : IsLeastPair (outputs_of listed.jobs) first second
  pub there : slice_get listed.lines second ≡ Some at
  pub named : fault ≡ SameOutput (first + 1) (second + 1)
