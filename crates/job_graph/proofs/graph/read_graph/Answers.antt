use Rattle.std.proofs.Common.{ℕ, List, length, ap, sym, ◌∙◌, subst, arith}
use Rattle.job_list.specs.Jobs.{JobsOf}
use Rattle.job_graph.specs.Needs.{needs_of}
use Rattle.job_graph.proofs.Cutting.{list_counted, list_short}
use Rattle.job_graph.proofs.Answering.{needs_long, needs_within}
use Rattle.job_graph.proofs.graph.read_graph.Goals as goal

pub read_needs-requires-clause-short : goal.read_needs-requires-clause-short
read_needs-requires-clause-short c =
    let listed = subst (λ (t : List ℕ). JobsOf t c.in_ok-jobs.jobs) (c.as_slice.ensures ∙ c.in_ok-cut.ensures) c.in_ok-jobs.ensures.list in
    list_short c.args.text.now c.in_ok-jobs.jobs listed

pub read_needs-requires-clause-jobs : goal.read_needs-requires-clause-jobs
read_needs-requires-clause-jobs c =
    let listed = subst (λ (t : List ℕ). JobsOf t c.in_ok-jobs.jobs) (c.as_slice.ensures ∙ c.in_ok-cut.ensures) c.in_ok-jobs.ensures.list in
    list_counted c.args.text.now c.in_ok-jobs.jobs listed ∙ sym c.len.ensures

pub find_depths-requires-clause-few : goal.find_depths-requires-clause-few
find_depths-requires-clause-few c =
    let listed = subst (λ (t : List ℕ). JobsOf t c.in_ok-jobs.jobs) (c.as_slice.ensures ∙ c.in_ok-cut.ensures) c.in_ok-jobs.ensures.list in
    let few = listed.few in
    let long = ap (λ (xs : List (List ℕ)). length xs) (c.in_ok-needs.ensures.needs ∙ ap (λ n. needs_of n c.args.text.now) c.len.ensures)
    ∙ needs_long c.args.text.now c.in_ok-jobs.jobs listed in
    omega arith

pub find_depths-requires-clause-within : goal.find_depths-requires-clause-within
find_depths-requires-clause-within c =
    let listed = subst (λ (t : List ℕ). JobsOf t c.in_ok-jobs.jobs) (c.as_slice.ensures ∙ c.in_ok-cut.ensures) c.in_ok-jobs.ensures.list in
    needs_within c.args.text.now c.in_ok-jobs.jobs c.in_ok-needs.needs listed
    (c.in_ok-needs.ensures.needs ∙ ap (λ n. needs_of n c.args.text.now) c.len.ensures)
