use Rattle.std.proofs.Common.{◌≤◌, ◌<◌, List, ℕ, length, get_or}
use Rattle.sample_linker.specs.Runs.{number_in}
use Rattle.sample_linker.proofs.circle.lowest.Given as goal

abbrev pub invariant-loop-at : goal.invariant-loop-at
invariant-loop-at l = record {
  within : l.lowest < length l.names;
  least : (k : ℕ) (d e : List ℕ) → k < l.at → number_in l.table (get_or l.names l.lowest d) ≤ number_in l.table (get_or l.names k e);
}
