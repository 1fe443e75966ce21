use Rattle.std.proofs.Common.{◌≡◌, ℕ, ◌<◌, ◌≤◌, List, [], ◌∷◌, ◌++◌, length, set, ap, sym, ◌∙◌, subst, arith}
use Rattle.std.proofs.lemmas.List.{get_or_read}
use Rattle.job_graph.specs.declared.walk.Mark.TheVariants.{Open}
use Rattle.job_graph.specs.declared.walk.Step.{Step}
use Rattle.job_graph.specs.declared.walk.Stop.{Stop}
use Rattle.job_graph.specs.Steps.{Ends, StepsOn, EndsInRing}
use Rattle.job_graph.proofs.Walking.{path_within, path_seen}
use Rattle.job_graph.proofs.WalkSteps.{needs_marked, step_settled, step_pushed, step_ring}
use Rattle.job_graph.proofs.walk.step_on.Goals as goal

pub bounds-needs-step : goal.bounds-needs-step
bounds-needs-step c = path_within c.args.needs.now c.args.marks.now c.args.path.now.items c.args.step c.requires.walk

pub known_end-look-requires-clause-within : goal.known_end-look-requires-clause-within
known_end-look-requires-clause-within c =
    let there = path_within c.args.needs.now c.args.marks.now c.args.path.now.items c.args.step c.requires.walk in
    let same = c.as_slice-needed.ensures ∙ get_or_read c.args.needs.now c.args.step.job c.index-needs-step.result there
    c.index-needs-step.is [] in
    needs_marked c.args.needs.now c.args.marks.now c.args.step.job c.as_slice-needed.result.now c.requires.within c.requires.walk.long
    there same

pub known_end-look-requires-clause-from : goal.known_end-look-requires-clause-from
known_end-look-requires-clause-from c =
    let there = path_within c.args.needs.now c.args.marks.now c.args.path.now.items c.args.step c.requires.walk in
    let same = c.as_slice-needed.ensures ∙ get_or_read c.args.needs.now c.args.step.job c.index-needs-step.result there
    c.index-needs-step.is [] in
    subst (λ (xs : List ℕ). c.args.step.known ≤ length xs) (sym same)
    (path_seen c.args.needs.now c.args.marks.now c.args.path.now.items c.args.step c.requires.walk).within

pub depth_over-depth-requires-clause-within : goal.depth_over-depth-requires-clause-within
depth_over-depth-requires-clause-within c =
    let there = path_within c.args.needs.now c.args.marks.now c.args.path.now.items c.args.step c.requires.walk in
    let same = c.as_slice-needed.ensures ∙ get_or_read c.args.needs.now c.args.step.job c.index-needs-step.result there
    c.index-needs-step.is [] in
    needs_marked c.args.needs.now c.args.marks.now c.args.step.job c.as_slice-needed.result.now c.requires.within c.requires.walk.long
    there same

pub bounds-marks-step : goal.bounds-marks-step
bounds-marks-step c =
    let there = path_within c.args.needs.now c.args.marks.now c.args.path.now.items c.args.step c.requires.walk in
    let long = c.requires.walk.long in
    omega arith

pub bounds-marks-job : goal.bounds-marks-job
bounds-marks-job c =
    let there = path_within c.args.needs.now c.args.marks.now c.args.path.now.items c.args.step c.requires.walk in
    let same = c.as_slice-needed.ensures ∙ get_or_read c.args.needs.now c.args.step.job c.index-needs-step.result there
    c.index-needs-step.is [] in
    let all = needs_marked c.args.needs.now c.args.marks.now c.args.step.job c.as_slice-needed.result.now c.requires.within
    c.requires.walk.long there same in
    let ends = subst (λ (s : Stop). Ends c.as_slice-needed.result.now c.args.marks.now c.known_end-look.result.at s) c.in-Fresh.is
    c.known_end-look.ensures.ends in
    subst (λ (n : ℕ). n < length c.args.marks.now) ends.1 (all c.known_end-look.result.at 0 ends.0)

pub returns-in-End-clause-on : goal.returns-in-End-clause-on
returns-in-End-clause-on c =
    let there = path_within c.args.needs.now c.args.marks.now c.args.path.now.items c.args.step c.requires.walk in
    let same = c.as_slice-needed.ensures ∙ get_or_read c.args.needs.now c.args.step.job c.index-needs-step.result there
    c.index-needs-step.is [] in
    let ends = subst (λ (s : Stop). Ends c.as_slice-needed.result.now c.args.marks.now c.known_end-look.result.at s) c.in-End.is
    c.known_end-look.ensures.ends in
    step_settled c.args.needs.now c.args.marks.now c.args.path.now.items c.args.step c.as_slice-needed.result.now
    c.known_end-look.result.at c.depth_over-depth.result c.requires.walk same c.known_end-look.ensures.low
    c.known_end-look.ensures.known ends c.depth_over-depth.ensures

pub returns-in_ok-push-in-Fresh-2-clause-on : goal.returns-in_ok-push-in-Fresh-2-clause-on
returns-in_ok-push-in-Fresh-2-clause-on c =
    let there = path_within c.args.needs.now c.args.marks.now c.args.path.now.items c.args.step c.requires.walk in
    let same = c.as_slice-needed.ensures ∙ get_or_read c.args.needs.now c.args.step.job c.index-needs-step.result there
    c.index-needs-step.is [] in
    let all = needs_marked c.args.needs.now c.args.marks.now c.args.step.job c.as_slice-needed.result.now c.requires.within
    c.requires.walk.long there same in
    let ends = subst (λ (s : Stop). Ends c.as_slice-needed.result.now c.args.marks.now c.known_end-look.result.at s) c.in-Fresh.is
    c.known_end-look.ensures.ends in
    let within = subst (λ (n : ℕ). n < length c.args.marks.now) ends.1 (all c.known_end-look.result.at 0 ends.0) in
    let t : Step = record { job = c.args.step.job; known = c.known_end-look.result.at } in
    let u : Step = record { job = c.in-Fresh.job; known = 0 } in
    let step = step_pushed c.args.needs.now c.args.marks.now c.args.path.now.items c.args.step c.as_slice-needed.result.now
    c.known_end-look.result.at c.in-Fresh.job c.requires.walk same c.known_end-look.ensures.low c.known_end-look.ensures.known
    ends.0 ends.1 ends.2 within in
    let count : length (c.args.path.now.items ++ t ∷ []) ≡ c.len.result =
    let is = ap (λ (xs : List Step). length xs) c.in_ok-push-in-Fresh.ensures.items in
    let ok = c.push.new.self.ok in
    omega (arith, c.len.ensures) in
    subst (λ (xs : List Step). StepsOn c.args.needs.now c.args.marks.now (set c.args.marks.now c.in-Fresh.job (Open c.len.result)) xs)
    (sym (c.in_ok-push-in-Fresh-2.ensures.items ∙ ap (λ (xs : List Step). xs ++ u ∷ []) c.in_ok-push-in-Fresh.ensures.items))
    (subst (λ (n : ℕ). StepsOn c.args.needs.now c.args.marks.now (set c.args.marks.now c.in-Fresh.job (Open n))
    ((c.args.path.now.items ++ t ∷ []) ++ u ∷ [])) count step)

pub returns-in_ok-push-in-Open-clause-ring : goal.returns-in_ok-push-in-Open-clause-ring
returns-in_ok-push-in-Open-clause-ring c =
    let there = path_within c.args.needs.now c.args.marks.now c.args.path.now.items c.args.step c.requires.walk in
    let same = c.as_slice-needed.ensures ∙ get_or_read c.args.needs.now c.args.step.job c.index-needs-step.result there
    c.index-needs-step.is [] in
    let ends = subst (λ (s : Stop). Ends c.as_slice-needed.result.now c.args.marks.now c.known_end-look.result.at s) c.in-Open.is
    c.known_end-look.ensures.ends in
    subst (λ (xs : List Step). EndsInRing c.args.needs.now xs c.in-Open.place) (sym c.in_ok-push-in-Open.ensures.items)
    (step_ring c.args.needs.now c.args.marks.now c.args.path.now.items c.args.step c.as_slice-needed.result.now
    c.known_end-look.result.at c.in-Open.place c.requires.walk same ends.0 ends.1)
