use Rattle.std.proofs.Common.{ℕ, List, map, ap, sym, ◌∙◌, subst, arith}
use Rattle.job_graph.specs.Depths.{DepthsOf}
use Rattle.job_graph.specs.Steps.{IsRingOf, known_depth}
use Rattle.job_graph.proofs.Walking.{depths_from}
use Rattle.job_graph.proofs.WalkSteps.{fresh_walk}
use Rattle.job_graph.proofs.depths.find_depths.Goals as goal

pub loop-job-init : goal.loop-job-init
loop-job-init c = record {
  walk = fresh_walk c.as_slice-needs.result.now c.in_ok-marks.marks.items (c.in_ok-marks.ensures.items_if_clones_equal (λ y e. e));
  known = λ k lt. absurd (omega arith);
}

pub returns-in-Some : goal.returns-in-Some
returns-in-Some c =
    let ring = rw c.in-Some.is at c.in_ok-ring.ensures.ring in
    c.cycle_of.ensures c.args.needs.now (subst (λ (xs : List (List ℕ)). IsRingOf xs c.in-Some.ring.items) c.as_slice-needs.ensures ring)

pub returns : goal.returns
returns c =
    let all = depths_from c.as_slice-needs.result.now c.loop-job.marks.items c.loop-job.invariant.walk
    (λ k lt. c.loop-job.invariant.known k (omega arith)) in
    let is = c.from_vec.ensures ∙ c.in_ok-depths.ensures ∙ ap (map known_depth) c.deref.ensures.value in
    subst (λ (xs : List (List ℕ)). DepthsOf xs c.from_vec.result) c.as_slice-needs.ensures
    (subst (λ (ds : List ℕ). DepthsOf c.as_slice-needs.result.now ds) (sym is) all)
