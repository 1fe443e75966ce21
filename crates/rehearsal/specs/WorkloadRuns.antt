-- What the runs of the workload's jobs leave.
use Rattle.std.specs.Prelude.{ℕ, ◌≡◌, ◌≤◌, ◌<◌, ◌^◌, false, List, [], map}
use Rattle.farm_types.specs.Limits.{jobs_max}
use Rattle.farm_types.specs.declared.ran.Ran.{Ran}
use Rattle.farm_types.specs.declared.placed.Word.TheVariants.{Text}
use Rattle.arg_scan.specs.Names.{is_preprocessed}
use Rattle.arg_scan.specs.Class.{IsRemote, plan_of}
use Rattle.arg_strip.specs.Words.{stripped, placed_words, preprocessing_words}
use Rattle.sample_compiler.specs.Samples.{SampleOf, printed}
use Rattle.sample_compiler.specs.Stations.{StationRan}
use Rattle.workload.specs.Loads.{source_text, factor_of, generator_after, job_words, files_of}

-- the source of a job, if the generator began with n
abbrev pub text_of_job : ℕ → ℕ → List ℕ
text_of_job n job = source_text job (factor_of (generator_after n job))

-- the command of a job may be sent, and its source is to be preprocessed
pub record IsSent (job : ℕ) : Type 0 where
  pub remote : IsRemote (job_words job)
  pub raw : is_preprocessed (plan_of (job_words job)).ending ≡ false

abbrev pub SentLaw : Type 0
SentLaw = (job : ℕ) → job < 2 ^ 64 → IsSent job

-- the preprocessor's run leaves the source itself, and no message
abbrev pub PreprocessedLaw : Type 0
PreprocessedLaw = (n job : ℕ) (ran : Ran) → n ≤ jobs_max → 1 ≤ job → job ≤ n
    → StationRan (files_of n) (map Text (preprocessing_words (job_words job))) [] ran → ran ≡ printed (text_of_job n job)

-- a compile of the source by the words that are sent leaves what the compiler leaves by the job's own words over the files
abbrev pub CompiledLaw : Type 0
CompiledLaw = (n job : ℕ) (ran : Ran) → n ≤ jobs_max → 1 ≤ job → job ≤ n
    → StationRan (files_of n) (placed_words (stripped (job_words job))) (text_of_job n job) ran → SampleOf (files_of n) (job_words job) ran
