-- What the words of a command say is within its limits.
use Rattle.std.specs.Prelude.{ℕ, ◌<◌, ◌≤◌, length}
use Rattle.farm_types.specs.Limits.{jobs_max, lines_max}
use Rattle.farm_options.specs.Commands.{Meaning, Build, Watch, Graph, Cc, Rehearse}
use Rattle.farm_options.specs.Limits.{tries_max}
use Rattle.farm_options.specs.Options.{Given, worker_count, try_count, line_count}

-- at least one worker, 1 to 16 tries, and 1 to 100 lines
pub record AreWithin (options : Given) : Type 0 where
  pub some_workers : 1 ≤ worker_count options
  pub some_tries : 1 ≤ try_count options
  pub most_tries : try_count options ≤ tries_max
  pub some_lines : 1 ≤ line_count options
  pub most_lines : line_count options ≤ lines_max

-- 1 to 512 jobs
pub record AreFew (jobs : ℕ) : Type 0 where
  pub some : 1 ≤ jobs
  pub most : jobs ≤ jobs_max

-- a single command has a word, and the numbers of a build, watched or not, of a graph and of a rehearsal are within their limits
abbrev pub IsWithin : Meaning → Type 0
IsWithin (Build options) = AreWithin options
IsWithin (Watch options) = AreWithin options
IsWithin (Graph options) = AreWithin options
IsWithin (Cc words) = 0 < length words
IsWithin (Rehearse jobs) = AreFew jobs
IsWithin meant = Unit {0}
