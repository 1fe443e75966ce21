-- The jobs of a text, and what is wrong with a text that has none.
use Rattle.std.specs.Prelude.{ℕ, ◌≡◌, ◌+◌, ◌≤◌, ◌<◌, List, [], ◌∷◌, ◌++◌, length, not, ◌==◌, ◌⊎◌, Some}
use Rattle.std.specs.List.{AllPass, slice_get}
use Rattle.std.specs.Str.{IsUtf8}
use Rattle.farm_types.specs.Limits.{jobs_max, job_list_max}
use Rattle.job_list.specs.declared.fault.JobFault.{JobFault}
use Rattle.job_list.specs.declared.fault.JobFault.TheVariants.{NoJobs, TooMany, TooLong, SameOutput, NotText}
use Rattle.job_list.specs.Lines.{LineOf, LineFault}
use Rattle.job_list.specs.Texts.{NumberedLine, job_lines}
use Rattle.job_list.specs.Outputs.{outputs_of, AreApart, IsLeastPair}

-- ---- one job

abbrev pub HasNoZero : List ℕ → Type 0
HasNoZero line = AllPass (λ c. not (c == 0)) line

-- UTF-8 without a zero byte
pub record IsText (line : List ℕ) : Type 0 where
  pub utf8 : IsUtf8 line
  pub plain : HasNoZero line

-- the words of a line that is a job
pub record JobOf (line : List ℕ) (words : List (List ℕ)) : Type 0 where
  pub legible : IsText line
  pub split : LineOf line words

-- what is wrong with a line that is a job, after this many jobs: it is no text, or its words break off, or it is the 513th job
abbrev pub IsWrongLine : ℕ → List ℕ → JobFault → Type 0
IsWrongLine count line fault =
    ((fault ≡ NotText) × (IsText line → ⊥))
    ⊎ (IsText line × LineFault line fault)
    ⊎ ((fault ≡ TooMany) × (count ≡ jobs_max) × (words : List (List ℕ)) × JobOf line words)

-- ---- all jobs

-- the words of the lines, one by one
abbrev pub AreJobs : List NumberedLine → List (List (List ℕ)) → Type 0
AreJobs [] [] = Unit {0}
AreJobs [] (j ∷ js) = ⊥
AreJobs (l ∷ ls) [] = ⊥
AreJobs (l ∷ ls) (j ∷ js) = JobOf l.bytes j × AreJobs ls js

-- the text is a list of these jobs
pub record JobsOf (text : List ℕ) (jobs : List (List (List ℕ))) : Type 0 where
  pub short : length text ≤ job_list_max
  pub each : AreJobs (job_lines text) jobs
  pub some : 1 ≤ length jobs
  pub few : length jobs ≤ jobs_max
  pub apart : AreApart (outputs_of jobs)

-- ---- the fault

-- the first of the lines that isn't right
pub record HasWrongLine (lines : List NumberedLine) (at : ℕ) (fault : JobFault) : Type 0 where
  pub before : List NumberedLine
  pub line : NumberedLine
  pub after : List NumberedLine
  pub jobs : List (List (List ℕ))
  pub split : lines ≡ before ++ line ∷ after
  pub right : AreJobs before jobs
  pub few : length jobs ≤ jobs_max
  pub wrong : IsWrongLine (length jobs) line.bytes fault
  pub place : at ≡ line.number

-- two jobs have the same output; jobs are named by numbers that count from 1
pub record SharesOutput (lines : List NumberedLine) (at : ℕ) (fault : JobFault) : Type 0 where
  pub jobs : List (List (List ℕ))
  pub first : ℕ
  pub second : ℕ
  pub line : NumberedLine
  pub each : AreJobs lines jobs
  pub few : length jobs ≤ jobs_max
  pub pair : IsLeastPair (outputs_of jobs) first second
  pub there : slice_get lines second ≡ Some line
  pub place : at ≡ line.number
  pub named : fault ≡ SameOutput (first + 1) (second + 1)

-- the fault of the lines that are jobs
abbrev pub LinesFault : List NumberedLine → ℕ → JobFault → Type 0
LinesFault lines at fault =
    HasWrongLine lines at fault
    ⊎ ((lines ≡ []) × (at ≡ 0) × (fault ≡ NoJobs))
    ⊎ SharesOutput lines at fault

-- the fault of a text, by the first of these rules that it falls under
abbrev pub JobFaultStands : List ℕ → ℕ → JobFault → Type 0
JobFaultStands text at fault =
    ((job_list_max < length text) × (at ≡ 0) × (fault ≡ TooLong (length text)))
    ⊎ ((length text ≤ job_list_max) × LinesFault (job_lines text) at fault)
