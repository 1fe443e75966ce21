use Rattle.std.proofs.Common.{◌≡◌, ◌<◌, length, max}
use Rattle.std.specs.Prelude.{All}
use Rattle.job_graph.specs.Depths.{depth_above}
use Rattle.job_graph.specs.Steps.{known_depth, mark_at}
use Rattle.job_graph.proofs.walk.depth_over.Given as goal

abbrev pub invariant-over : goal.invariant-over
invariant-over l = record {
  same : max l.depth (depth_above (λ n. known_depth (mark_at l.marks n)) l.rest) ≡ depth_above (λ n. known_depth (mark_at l.marks n))
      l.needs;
  within : All (λ n. n < length l.marks) l.rest;
  low : All (λ n. known_depth (mark_at l.marks n) < 2000) l.rest;
}

abbrev pub decreases-over : goal.decreases-over
decreases-over l = length l.rest
