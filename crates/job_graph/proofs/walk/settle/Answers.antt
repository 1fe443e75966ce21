use Rattle.std.proofs.Common.{◌≡◌, List, [], ◌∷◌, ◌++◌, set, ap, sym, ◌∙◌, subst, arith}
use Rattle.job_graph.specs.declared.walk.Mark.TheVariants.{Fresh, Open}
use Rattle.job_graph.specs.declared.walk.Step.{Step}
use Rattle.job_graph.specs.Steps.{Walk, mark_at}
use Rattle.job_graph.proofs.Walking.{known_end}
use Rattle.job_graph.proofs.WalkSteps.{fresh_is, walk_begun, root_begun, nil_is}
use Rattle.job_graph.proofs.walk.settle.Goals as goal

pub loop-step-init : goal.loop-step-init
loop-step-init c =
    let fresh : mark_at c.args.marks.now c.args.root ≡ Fresh =
    fresh_is (mark_at c.args.marks.now c.args.root) (sym c.is_fresh.ensures ∙ c.if-not-is_fresh.false) in
    let first : Step = record { job = c.args.root; known = 0 } in
    let on = walk_begun c.args.needs.now c.args.marks.now c.args.root c.requires.walk c.requires.there fresh in
    let path = c.in_ok-push.ensures.items ∙ ap (λ (xs : List Step). xs ++ first ∷ []) c.new-path.ensures.items in
    let long = c.requires.walk.long in
    let there = c.requires.there in
    record {
      walk = subst (λ (xs : List Step). Walk c.args.needs.now (set c.args.marks.now c.args.root (Open 0)) xs) (sym path) on.walk;
      begun = root_begun c.args.marks.now c.args.root (omega arith);
      kept = on.kept;
    }

pub returns-clause-known : goal.returns-clause-known
returns-clause-known c =
    let zero = c.in_default.ensures.cases.0 in
    let ok = c.loop-step.path.ok in
    let none = nil_is c.loop-step.path.items (omega arith) in
    record {
      reached = known_end c.args.needs.now c.loop-step.marks c.args.root
          (subst (λ (xs : List Step). Walk c.args.needs.now c.loop-step.marks xs) none c.loop-step.invariant.walk)
          c.loop-step.invariant.begun;
      kept = c.loop-step.invariant.kept;
    }
