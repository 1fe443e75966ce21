use Rattle.std.proofs.Common.{ℕ, ◌<◌, ◌≤◌, List, length, get_or, sym, ◌∙◌, subst}
use Rattle.std.specs.Prelude.{All}
use Rattle.job_graph.specs.Cycles.{IsCycle}
use Rattle.job_graph.proofs.Rings.{cycle_from}
use Rattle.job_graph.proofs.cycle.cycle_of.Goals as goal

pub returns : goal.returns
returns c needs h =
    let at = c.least_at-least.result in
    let same = c.deref.ensures.value in
    let within = subst (λ (xs : List ℕ). at < length xs) same c.least_at-least.ensures.within in
    let least = subst (λ (xs : List ℕ). All (λ job. get_or xs at 0 ≤ job) xs) same c.least_at-least.ensures.least in
    subst (λ (xs : List ℕ). IsCycle needs xs) (sym (c.from_vec.ensures ∙ c.rotate_left.ensures.items))
    (cycle_from c.args.ring.items at within least needs h)
