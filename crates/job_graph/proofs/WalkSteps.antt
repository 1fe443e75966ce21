-- One step of a walk over needs, and all walks.
use Rattle.std.proofs.Common.{◌≡◌, ℕ, true, false, zero, suc, ◌+◌, ◌-◌, ◌*◌, ◌<◌, ◌≤◌, List, [], ◌∷◌, ◌++◌, length, get_or, set}
use Rattle.std.proofs.Common.{replicate, refl, ap, sym, ◌∙◌, subst, ⊎_elim, arith}
use Rattle.std.specs.Prelude.{All, Contains}
use Rattle.std.proofs.lemmas.Bool.{cases_lt}
use Rattle.std.proofs.lemmas.List.{length-replicate}
use Rattle.std.proofs.lemmas.List.{get_or_default}
use Rattle.std.proofs.lemmas.List.{length_push}
use Rattle.job_graph.specs.declared.walk.Mark.{Mark}
use Rattle.job_graph.specs.declared.walk.Mark.TheVariants.{Fresh, Open, Known}
use Rattle.job_graph.specs.declared.walk.Step.{Step}
use Rattle.job_graph.specs.Depths.{needs_at, depth_above, NeedsWithin}
use Rattle.job_graph.specs.Cycles.{Needs}
use Rattle.job_graph.specs.Steps.{mark_at, is_fresh, IsKnown, known_depth, steps_left, all_steps_left, job_at}
use Rattle.job_graph.specs.Steps.{HasSeen, Walk, StepsOn, EndsInRing}
use Rattle.job_graph.proofs.Walking.{open_unknown, fresh_unknown, open_within, same_mark, known_kept, steps_set, job_back, path_top}
use Rattle.job_graph.proofs.Walking.{path_seen, walk_settled, walk_on, walk_pushed, path_ring, no_marks, begun_kept}

-- ---- one step

all_known : (needs : List (List ℕ)) (marks : List Mark) (s : Step) (ns : List ℕ) (at : ℕ) → ns ≡ needs_at needs s.job
    → HasSeen needs marks s → s.known ≤ at → ((k : ℕ) → s.known ≤ k → k < at → IsKnown (mark_at marks (get_or ns k 0))) → (k : ℕ)
    → k < at → IsKnown (mark_at marks (get_or (needs_at needs s.job) k 0))
all_known needs marks s ns at same has low known k lt = ⊎_elim
    (λ (before : k < s.known). has.known k before)
    (λ (behind : s.known ≤ k). subst (λ (xs : List ℕ). IsKnown (mark_at marks (get_or xs k 0))) same (known k behind lt))
    (cases_lt k s.known)

pub step_settled : (needs : List (List ℕ)) (marks : List Mark) (p : List Step) (s : Step) (ns : List ℕ) (at d : ℕ)
    → Walk needs marks (p ++ s ∷ []) → ns ≡ needs_at needs s.job → s.known ≤ at
    → ((k : ℕ) → s.known ≤ k → k < at → IsKnown (mark_at marks (get_or ns k 0))) → at ≡ length ns
    → d ≡ depth_above (λ n. known_depth (mark_at marks n)) ns → StepsOn needs marks (set marks s.job (Known d)) p
step_settled needs marks p s ns at d w same low known whole is =
    let top : mark_at marks s.job ≡ Open (length p) = path_top needs marks p s w in
    let there : s.job < length marks = open_within marks s.job (length p) top in
    let un : IsKnown (mark_at marks s.job) → ⊥ = open_unknown (mark_at marks s.job) (length p) top in
    let long : length ns ≡ length (needs_at needs s.job) = ap length same in
    let each = all_known needs marks s ns at same (path_seen needs marks p s w) low known in
    let all : All (λ n. IsKnown (mark_at marks n)) (needs_at needs s.job) =
    λ k e lt. subst (λ n. IsKnown (mark_at marks n)) (get_or_default (needs_at needs s.job) k 0 e lt) (each k (omega arith)) in
    let steps = steps_set marks s.job (Known d) there in
    let weight : steps_left (mark_at marks s.job) ≡ 1 = ap steps_left top in
    record {
      walk = walk_settled needs marks p s d w all (is ∙ ap (depth_above (λ n. known_depth (mark_at marks n))) same);
      fewer = omega arith;
      kept = known_kept marks s.job (Known d) un;
      begun = λ other h. begun_kept marks s.job other (Known d) refl h;
    }

pub step_pushed : (needs : List (List ℕ)) (marks : List Mark) (p : List Step) (s : Step) (ns : List ℕ) (at job : ℕ)
    → Walk needs marks (p ++ s ∷ []) → ns ≡ needs_at needs s.job → s.known ≤ at
    → ((k : ℕ) → s.known ≤ k → k < at → IsKnown (mark_at marks (get_or ns k 0))) → at < length ns → get_or ns at 0 ≡ job
    → mark_at marks job ≡ Fresh → job < length marks
    → StepsOn needs marks (set marks job (Open (length (p ++ record { job = s.job; known = at } ∷ []))))
    ((p ++ record { job = s.job; known = at } ∷ []) ++ record { job = job; known = 0 } ∷ [])
step_pushed needs marks p s ns at job w same low known here is fresh there =
    let t : Step = record { job = s.job; known = at } in
    let long : length ns ≡ length (needs_at needs s.job) = ap length same in
    let has : HasSeen needs marks t = record {
      within = omega arith;
      known = all_known needs marks s ns at same (path_seen needs marks p s w) low known;
    } in
    let on : Walk needs marks (p ++ t ∷ []) = walk_on needs marks p s t w refl has in
    let un : IsKnown (mark_at marks job) → ⊥ = fresh_unknown (mark_at marks job) fresh in
    let steps = steps_set marks job (Open (length (p ++ t ∷ []))) there in
    let weight : steps_left (mark_at marks job) ≡ 2 = ap steps_left fresh in
    let need : Needs needs s.job job = needs_here needs s.job ns at job same here is in
    record {
      walk = walk_pushed needs marks (p ++ t ∷ []) job on there fresh
          (λ place e. let eq : length p ≡ place = omega (arith, length_push p t) in
          subst (λ x. Needs needs x job) (sym (job_back p t) ∙ ap (job_at (p ++ t ∷ [])) eq) need);
      fewer = omega arith;
      kept = known_kept marks job (Open (length (p ++ t ∷ []))) un;
      begun = λ other h. begun_kept marks job other (Open (length (p ++ t ∷ []))) refl h;
    }
  where
    needs_here : (needs : List (List ℕ)) (from : ℕ) (ns : List ℕ) (at job : ℕ) → ns ≡ needs_at needs from → at < length ns
        → get_or ns at 0 ≡ job → Needs needs from job
    needs_here needs from ns at job same here is = subst (λ (xs : List ℕ). Contains xs job) same
        (at, here, get_or_default ns at job 0 here ∙ is)

pub step_ring : (needs : List (List ℕ)) (marks : List Mark) (p : List Step) (s : Step) (ns : List ℕ) (at place : ℕ)
    → Walk needs marks (p ++ s ∷ []) → ns ≡ needs_at needs s.job → at < length ns → mark_at marks (get_or ns at 0) ≡ Open place
    → EndsInRing needs (p ++ s ∷ []) place
step_ring needs marks p s ns at place w same here stands =
    let target : ℕ = get_or ns at 0 in
    let need : Needs needs s.job target = subst (λ (xs : List ℕ). Contains xs target) same (at, here, get_or_default ns at target 0 here) in
    let was = w.placed target place stands in
    let lt = was.0 in
    record {
      within = omega arith;
      ring = path_ring needs marks (p ++ s ∷ []) target place w
          (λ k e. let eq : length p ≡ k = omega (arith, length_push p s) in
          subst (λ x. Needs needs x target) (sym (job_back p s) ∙ ap (job_at (p ++ s ∷ [])) eq) need) stands;
    }

-- the first job of a walk
pub walk_begun : (needs : List (List ℕ)) (marks : List Mark) (root : ℕ) → Walk needs marks [] → root < length needs
    → mark_at marks root ≡ Fresh → StepsOn needs marks (set marks root (Open 0)) (record { job = root; known = 0 } ∷ [])
walk_begun needs marks root w there fresh =
    let long = w.long in
    let within : root < length marks = omega arith in
    let un : IsKnown (mark_at marks root) → ⊥ = fresh_unknown (mark_at marks root) fresh in
    let steps = steps_set marks root (Open 0) within in
    let weight : steps_left (mark_at marks root) ≡ 2 = ap steps_left fresh in
    record {
      walk = walk_pushed needs marks [] root w within fresh (λ place e. absurd (omega arith));
      fewer = omega arith;
      kept = known_kept marks root (Open 0) un;
      begun = λ other h. begun_kept marks root other (Open 0) refl h;
    }

pub fresh_is : (m : Mark) → is_fresh m ≡ true → m ≡ Fresh
fresh_is Fresh e = refl
fresh_is (Open place) e = absurd cc
fresh_is (Known d) e = absurd cc

pub needs_marked : (needs : List (List ℕ)) (marks : List Mark) (job : ℕ) (ns : List ℕ) → NeedsWithin needs → length marks ≡ length needs
    → job < length needs → ns ≡ needs_at needs job → All (λ n. n < length marks) ns
needs_marked needs marks job ns within long there same =
    subst (λ (xs : List ℕ). All (λ n. n < length marks) xs) (sym same) (λ k d lt. let low = within job [] there k d lt in omega arith)

-- ---- all walks

pub root_begun : (marks : List Mark) (root : ℕ) → root < length marks → is_fresh (mark_at (set marks root (Open 0)) root) ≡ false
root_begun marks root there = ap is_fresh (same_mark marks root (Open 0) there)

all_fresh : (n job : ℕ) → mark_at (replicate n Fresh) job ≡ Fresh
all_fresh zero job = refl
all_fresh (suc n) zero = refl
all_fresh (suc n) (suc job) = all_fresh n job

fresh_steps : (n : ℕ) → all_steps_left (replicate n Fresh) ≡ 2 * n
fresh_steps zero = refl
fresh_steps (suc n) = let i = fresh_steps n in omega arith

pub fresh_walk : (needs : List (List ℕ)) (marks : List Mark) → marks ≡ replicate (length needs) Fresh → Walk needs marks []
fresh_walk needs marks is =
    no_marks needs marks
    (ap length is ∙ length-replicate (length needs) Fresh)
    (λ job. ap (λ (ms : List Mark). mark_at ms job) is ∙ all_fresh (length needs) job)
    (let e = ap all_steps_left is ∙ fresh_steps (length needs) in omega arith)

pub nil_is : {X : Type 0} (xs : List X) → length xs ≡ 0 → xs ≡ []
nil_is [] e = refl
nil_is (x ∷ xs) e = absurd (omega arith)
