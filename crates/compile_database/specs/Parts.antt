-- What is known of the entries before they are written.
use Rattle.std.specs.Prelude.{ℕ, List}
use Rattle.serde_json.specs.Data.{Data}
use Rattle.job_list.specs.Jobs.{JobsOf}
use Rattle.compile_database.specs.Choices.{Choice}
use Rattle.compile_database.specs.Databases.{JobsOfEntries}

-- the list is a job list of the entries that are taken
pub record ListOfEntries (choice : Choice) (entries : List Data) (list : List ℕ) : Type 0 where
  pub jobs : List (List (List ℕ))
  pub words : JobsOfEntries choice entries jobs
  pub written : JobsOf list jobs
