use Rattle.std.proofs.Common.{◌≡◌, ◌≤◌, map}
use Rattle.std.specs.List.{range_with_len}
use Rattle.std.specs.FinMap.{from_entries}
use Rattle.workload.specs.Loads.{job_words, job_file, generator_after}
use Rattle.workload.proofs.load.make.Given as goal

-- the jobs before this number are made, and their files
abbrev pub invariant-loop-before : goal.invariant-loop-before
invariant-loop-before l = record {
  jobs : l.jobs ≡ map job_words (range_with_len 1 l.before);
  files : l.files ≡ from_entries (map (job_file l.n) (range_with_len 1 l.before));
  state : l.generator.state ≡ generator_after l.n l.before;
  within : l.before ≤ l.n;
}
