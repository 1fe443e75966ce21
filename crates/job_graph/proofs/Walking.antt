-- A walk over needs.
use Rattle.std.proofs.Common.{◌≡◌, ℕ, true, false, zero, suc, ◌+◌, ◌-◌, ◌*◌, ◌<◌, ◌≤◌, List, [], ◌∷◌, ◌++◌, length, get_or, set}
use Rattle.std.proofs.Common.{drop, map, refl, ap, sym, ◌∙◌, subst, ⊎_elim, arith}
use Rattle.std.specs.Prelude.{All}
use Rattle.std.proofs.lemmas.Bool.{cases_lt, cases_eq}
use Rattle.std.proofs.lemmas.List.{length-set, length-drop, length-map, get_or-set_same, get_or-set_other}
use Rattle.std.proofs.lemmas.List.{get_or_append_left, get_or_push, get_or_past, get_or-drop, drop_more, drop_all}
use Rattle.std.proofs.lemmas.List.{length_push}
use Rattle.std.proofs.lemmas.List.Elements.{All-weaker}
use Rattle.job_graph.specs.declared.walk.Mark.{Mark}
use Rattle.job_graph.specs.declared.walk.Mark.TheVariants.{Fresh, Open, Known}
use Rattle.job_graph.specs.declared.walk.Step.{Step}
use Rattle.job_graph.specs.Depths.{needs_at, depth_above, DepthsOf}
use Rattle.job_graph.specs.Cycles.{Needs, Links, IsRing}
use Rattle.job_graph.specs.Steps.{mark_at, is_fresh, IsKnown, known_depth, steps_left, all_steps_left, IsSettled, step_at, job_at}
use Rattle.job_graph.specs.Steps.{HasSeen, Walk, IsRingOf}
use Rattle.job_graph.proofs.Deep.{above_same, above_most}

-- ---- marks

pub mark_past : (marks : List Mark) (job : ℕ) → length marks ≤ job → mark_at marks job ≡ Fresh
mark_past marks job h = get_or_past marks job Fresh h

pub known_is : (marks : List Mark) (job : ℕ) (m : Mark) → mark_at marks job ≡ m → IsKnown m → IsKnown (mark_at marks job)
known_is marks job m e h = subst IsKnown (sym e) h

pub open_unknown : (m : Mark) (place : ℕ) → m ≡ Open place → IsKnown m → ⊥
open_unknown m place e h = subst IsKnown e h

pub fresh_unknown : (m : Mark) → m ≡ Fresh → IsKnown m → ⊥
fresh_unknown m e h = subst IsKnown e h

pub open_within : (marks : List Mark) (job place : ℕ) → mark_at marks job ≡ Open place → job < length marks
open_within marks job place e = ⊎_elim
    (λ (lt : job < length marks). lt)
    (λ (past : length marks ≤ job). let f = mark_past marks job past in absurd cc)
    (cases_lt job (length marks))

other_mark : (marks : List Mark) (job other : ℕ) (m : Mark) → (other ≡ job → ⊥) → mark_at (set marks job m) other ≡ mark_at marks other
other_mark marks job other m ne = get_or-set_other marks job other m Fresh ne

pub same_mark : (marks : List Mark) (job : ℕ) (m : Mark) → job < length marks → mark_at (set marks job m) job ≡ m
same_mark marks job m lt = get_or-set_same marks job m Fresh lt

-- a known job isn't one whose mark isn't known
known_other : (marks : List Mark) (job other : ℕ) → (IsKnown (mark_at marks job) → ⊥) → IsKnown (mark_at marks other) → other ≡ job → ⊥
known_other marks job other un k e = un (subst (λ j. IsKnown (mark_at marks j)) e k)

-- what is known stays so where another mark changes
pub known_kept : (marks : List Mark) (job : ℕ) (m : Mark) → (IsKnown (mark_at marks job) → ⊥) → (other : ℕ)
    → IsKnown (mark_at marks other) → IsKnown (mark_at (set marks job m) other)
known_kept marks job m un other k = subst IsKnown (sym (other_mark marks job other m (known_other marks job other un k))) k

pub steps_set : (marks : List Mark) (job : ℕ) (m : Mark) → job < length marks
    → all_steps_left (set marks job m) + steps_left (mark_at marks job) ≡ all_steps_left marks + steps_left m
steps_set [] job m lt = absurd (omega arith)
steps_set (x ∷ xs) zero m lt = omega arith
steps_set (x ∷ xs) (suc job) m lt = let i = steps_set xs job m (omega arith) in omega arith

settled_kept : (needs : List (List ℕ)) (marks : List Mark) (job : ℕ) (m : Mark) → (IsKnown (mark_at marks job) → ⊥) → (other : ℕ)
    → IsKnown (mark_at marks other) → IsSettled needs marks other → IsSettled needs (set marks job m) other
settled_kept needs marks job m un other k h =
    let ns : List ℕ = needs_at needs other in
    let same : (n : ℕ) → IsKnown (mark_at marks n)
    → mark_at (set marks job m) n ≡ mark_at marks n = λ n kn. other_mark marks job n m (known_other marks job n un kn) in
    record {
      all = All-weaker (λ n. IsKnown (mark_at marks n)) (λ n. IsKnown (mark_at (set marks job m) n))
          (λ n kn. known_kept marks job m un n kn) ns h.all;
      depth = ap known_depth (same other k) ∙ h.depth
          ∙ above_same (λ n. known_depth (mark_at marks n)) (λ n. known_depth (mark_at (set marks job m) n)) ns
          (λ i l. ap known_depth (sym (same (get_or ns i 0) (h.all i 0 l))));
    }

pub seen_kept : (needs : List (List ℕ)) (old new : List Mark) (step : Step)
    → ((other : ℕ) → IsKnown (mark_at old other) → IsKnown (mark_at new other)) → HasSeen needs old step → HasSeen needs new step
seen_kept needs old new step more h = record {
  within = h.within;
  known = λ k lt. more (get_or (needs_at needs step.job) k 0) (h.known k lt);
}

-- ---- paths

front : (p : List Step) (s : Step) (place : ℕ) → place < length p → step_at (p ++ s ∷ []) place ≡ step_at p place
front p s place lt = get_or_append_left p (s ∷ []) (record { job = 0; known = 0 }) place lt

back : (p : List Step) (s : Step) → step_at (p ++ s ∷ []) (length p) ≡ s
back p s = get_or_push p s (record { job = 0; known = 0 }) (length p) refl

job_front : (p : List Step) (s : Step) (place : ℕ) → place < length p → job_at (p ++ s ∷ []) place ≡ job_at p place
job_front p s place lt = ap (λ (x : Step). x.job) (front p s place lt)

pub job_back : (p : List Step) (s : Step) → job_at (p ++ s ∷ []) (length p) ≡ s.job
job_back p s = ap (λ (x : Step). x.job) (back p s)

pub path_top : (needs : List (List ℕ)) (marks : List Mark) (p : List Step) (s : Step) → Walk needs marks (p ++ s ∷ [])
    → mark_at marks s.job ≡ Open (length p)
path_top needs marks p s w = ap (mark_at marks) (sym (job_back p s)) ∙ w.stands (length p) (omega (arith, length_push p s))

pub path_within : (needs : List (List ℕ)) (marks : List Mark) (p : List Step) (s : Step) → Walk needs marks (p ++ s ∷ [])
    → s.job < length needs
path_within needs marks p s w =
    let lt = open_within marks s.job (length p) (path_top needs marks p s w) in
    let long = w.long in
    omega arith

pub path_seen : (needs : List (List ℕ)) (marks : List Mark) (p : List Step) (s : Step) → Walk needs marks (p ++ s ∷ [])
    → HasSeen needs marks s
path_seen needs marks p s w = subst (HasSeen needs marks) (back p s) (w.seen (length p) (omega (arith, length_push p s)))

-- ---- the last job on the path is settled

pub walk_settled : (needs : List (List ℕ)) (marks : List Mark) (p : List Step) (s : Step) (d : ℕ) → Walk needs marks (p ++ s ∷ [])
    → All (λ n. IsKnown (mark_at marks n)) (needs_at needs s.job)
    → d ≡ depth_above (λ n. known_depth (mark_at marks n)) (needs_at needs s.job) → Walk needs (set marks s.job (Known d)) p
walk_settled needs marks p s d w all is =
    let new : List Mark = set marks s.job (Known d) in
    let ns : List ℕ = needs_at needs s.job in
    let long : length (p ++ s ∷ []) ≡ length p + 1 = length_push p s in
    let top : mark_at marks s.job ≡ Open (length p) = path_top needs marks p s w in
    let there : s.job < length marks = open_within marks s.job (length p) top in
    let un : IsKnown (mark_at marks s.job) → ⊥ = open_unknown (mark_at marks s.job) (length p) top in
    let here : mark_at new s.job ≡ Known d = same_mark marks s.job (Known d) there in
    let more : (other : ℕ) → IsKnown (mark_at marks other) → IsKnown (mark_at new other) = known_kept marks s.job (Known d) un in
    let same : (n : ℕ) → IsKnown (mark_at marks n)
    → mark_at new n ≡ mark_at marks n = λ n kn. other_mark marks s.job n (Known d) (known_other marks s.job n un kn) in
    let one : IsSettled needs new s.job = record {
      all = All-weaker (λ n. IsKnown (mark_at marks n)) (λ n. IsKnown (mark_at new n)) more ns all;
      depth = ap known_depth here ∙ is ∙ above_same (λ n. known_depth (mark_at marks n)) (λ n. known_depth (mark_at new n)) ns
          (λ i l. ap known_depth (sym (same (get_or ns i 0) (all i 0 l))));
    } in
    let steps = steps_set marks s.job (Known d) there in
    let weight : steps_left (mark_at marks s.job) ≡ 1 = ap steps_left top in
    let most = w.low 0 in
    let small : d ≤ 2 * length needs - all_steps_left marks + 1 =
    subst (λ x. x ≤ 2 * length needs - all_steps_left marks + 1) (sym is)
    (above_most (λ n. known_depth (mark_at marks n)) ns (2 * length needs - all_steps_left marks)
    (λ i l. let low = w.low (get_or ns i 0) in omega arith)) in
    record {
      long = length-set marks s.job (Known d) ∙ w.long;
      settled = λ job k. ⊎_elim (λ (e : job ≡ s.job). subst (IsSettled needs new) (sym e) one)
          (λ (ne : job ≡ s.job → ⊥). let k' = subst IsKnown (other_mark marks s.job job (Known d) ne) k in
          settled_kept needs marks s.job (Known d) un job k' (w.settled job k')) (cases_eq job s.job);
      low = λ job. ⊎_elim (λ (e : job ≡ s.job). let at = ap known_depth (ap (mark_at new) e ∙ here) in omega arith)
          (λ (ne : job ≡ s.job → ⊥). let at = ap known_depth (other_mark marks s.job job (Known d) ne) in let low = w.low job in
          omega arith) (cases_eq job s.job);
      placed = λ job place o. ⊎_elim (λ (e : job ≡ s.job). let at = sym here ∙ ap (mark_at new) (sym e) ∙ o in absurd cc)
          (λ (ne : job ≡ s.job → ⊥). placed_front needs marks p s w job place ne (sym (other_mark marks s.job job (Known d) ne) ∙ o))
          (cases_eq job s.job);
      stands = λ place lt.
          let was : mark_at marks (job_at p place) ≡ Open place = ap (mark_at marks) (sym (job_front p s place lt))
          ∙ w.stands place (omega arith) in
          other_mark marks s.job (job_at p place) (Known d) (apart marks (job_at p place) s.job place (length p) was top lt) ∙ was;
      seen = λ place lt. subst (HasSeen needs new) (front p s place lt)
          (seen_kept needs marks new (step_at (p ++ s ∷ []) place) more (w.seen place (omega arith)));
      linked = λ place lt.
          let link = w.linked place (omega arith) in
          subst (λ x. Needs needs x (job_at p (place + 1))) (job_front p s place (omega arith))
          (subst (λ x. Needs needs (job_at (p ++ s ∷ []) place) x) (job_front p s (place + 1) lt) link);
    }
  where
    apart : (marks : List Mark) (a b i j : ℕ) → mark_at marks a ≡ Open i → mark_at marks b ≡ Open j → i < j → a ≡ b → ⊥
    apart marks a b i j e f lt same =
        let both : Open i ≡ Open j = sym e ∙ ap (mark_at marks) same ∙ f in
        let eq : i ≡ j = cc in
        omega arith

    placed_front : (needs : List (List ℕ)) (marks : List Mark) (p : List Step) (s : Step) → Walk needs marks (p ++ s ∷ [])
        → (job place : ℕ) → (job ≡ s.job → ⊥) → mark_at marks job ≡ Open place → (place < length p) × (job_at p place ≡ job)
    placed_front needs marks p s w job place ne o =
        let was = w.placed job place o in
        let long : length (p ++ s ∷ []) ≡ length p + 1 = length_push p s in
        ⊎_elim
        (λ (lt : place < length p). (lt, sym (job_front p s place lt) ∙ was.1))
        (λ (ge : length p ≤ place).
        let within = was.0 in
        let eq : place ≡ length p = omega arith in
        absurd (ne (sym was.1 ∙ ap (job_at (p ++ s ∷ [])) eq ∙ job_back p s)))
        (cases_lt place (length p))

-- ---- the last job on the path has more of its needs known

job_same : (p : List Step) (s t : Step) → t.job ≡ s.job → (place : ℕ) → job_at (p ++ s ∷ []) place ≡ job_at (p ++ t ∷ []) place
job_same [] s t e zero = sym e
job_same [] s t e (suc place) = refl
job_same (x ∷ p) s t e zero = refl
job_same (x ∷ p) s t e (suc place) = job_same p s t e place

pub walk_on : (needs : List (List ℕ)) (marks : List Mark) (p : List Step) (s t : Step) → Walk needs marks (p ++ s ∷ []) → t.job ≡ s.job
    → HasSeen needs marks t → Walk needs marks (p ++ t ∷ [])
walk_on needs marks p s t w e has =
    let long : length (p ++ s ∷ []) ≡ length p + 1 = length_push p s in
    let long' : length (p ++ t ∷ []) ≡ length p + 1 = length_push p t in
    record {
      long = w.long;
      settled = w.settled;
      low = w.low;
      placed = λ job place o. let was = w.placed job place o in let lt = was.0 in (omega arith, sym (job_same p s t e place) ∙ was.1);
      stands = λ place lt. ap (mark_at marks) (sym (job_same p s t e place)) ∙ w.stands place (omega arith);
      seen = λ place lt. ⊎_elim
          (λ (low : place < length p). subst (HasSeen needs marks) (front p s place low ∙ sym (front p t place low))
          (w.seen place (omega arith)))
          (λ (ge : length p ≤ place). let eq : length p ≡ place = omega arith in
          subst (λ k. HasSeen needs marks (step_at (p ++ t ∷ []) k)) eq (subst (HasSeen needs marks) (sym (back p t)) has))
          (cases_lt place (length p));
      linked = λ place lt.
          let link = w.linked place (omega arith) in
          subst (λ x. Needs needs x (job_at (p ++ t ∷ []) (place + 1))) (job_same p s t e place)
          (subst (λ x. Needs needs (job_at (p ++ s ∷ []) place) x) (job_same p s t e (place + 1)) link);
    }

-- ---- a fresh job comes onto the path

pub walk_pushed : (needs : List (List ℕ)) (marks : List Mark) (q : List Step) (job : ℕ) → Walk needs marks q → job < length marks
    → mark_at marks job ≡ Fresh → ((place : ℕ) → place + 1 ≡ length q → Needs needs (job_at q place) job)
    → Walk needs (set marks job (Open (length q))) (q ++ record { job = job; known = 0 } ∷ [])
walk_pushed needs marks q job w there fresh need =
    let new : List Mark = set marks job (Open (length q)) in
    let last : Step = record { job = job; known = 0 } in
    let long : length (q ++ last ∷ []) ≡ length q + 1 = length_push q last in
    let un : IsKnown (mark_at marks job) → ⊥ = fresh_unknown (mark_at marks job) fresh in
    let here : mark_at new job ≡ Open (length q) = same_mark marks job (Open (length q)) there in
    let more : (other : ℕ) → IsKnown (mark_at marks other) → IsKnown (mark_at new other) = known_kept marks job (Open (length q)) un in
    let steps = steps_set marks job (Open (length q)) there in
    let weight : steps_left (mark_at marks job) ≡ 2 = ap steps_left fresh in
    let most = w.low 0 in
    record {
      long = length-set marks job (Open (length q)) ∙ w.long;
      settled = λ other k. ⊎_elim (λ (e : other ≡ job). absurd
          (open_unknown (mark_at new other) (length q) (ap (mark_at new) e ∙ here) k))
          (λ (ne : other ≡ job → ⊥). let k' = subst IsKnown (other_mark marks job other (Open (length q)) ne) k in
          settled_kept needs marks job (Open (length q)) un other k' (w.settled other k')) (cases_eq other job);
      low = λ other. ⊎_elim (λ (e : other ≡ job). let at = ap known_depth (ap (mark_at new) e ∙ here) in omega arith)
          (λ (ne : other ≡ job → ⊥). let at = ap known_depth (other_mark marks job other (Open (length q)) ne) in let low =
          w.low other in omega arith) (cases_eq other job);
      placed = λ other place o. ⊎_elim
          (λ (e : other ≡ job).
          let both : Open (length q) ≡ Open place = sym here ∙ ap (mark_at new) (sym e) ∙ o in
          let eq : length q ≡ place = cc in
          (omega arith, ap (job_at (q ++ last ∷ [])) (sym eq) ∙ job_back q last ∙ sym e))
          (λ (ne : other ≡ job → ⊥).
          let was = w.placed other place (sym (other_mark marks job other (Open (length q)) ne) ∙ o) in
          let lt = was.0 in
          (omega arith, job_front q last place lt ∙ was.1))
          (cases_eq other job);
      stands = λ place lt. ⊎_elim
          (λ (low : place < length q).
          let was : mark_at marks (job_at q place) ≡ Open place = w.stands place low in
          ap (mark_at new) (job_front q last place low)
          ∙ other_mark marks job (job_at q place) (Open (length q)) (no_fresh marks (job_at q place) job place was fresh) ∙ was)
          (λ (ge : length q ≤ place).
          let eq : length q ≡ place = omega arith in
          subst (λ k. mark_at new (job_at (q ++ last ∷ []) k) ≡ Open k) eq (ap (mark_at new) (job_back q last) ∙ here))
          (cases_lt place (length q));
      seen = λ place lt. ⊎_elim
          (λ (low : place < length q). subst (HasSeen needs new) (sym (front q last place low))
          (seen_kept needs marks new (step_at q place) more (w.seen place low)))
          (λ (ge : length q ≤ place).
          let eq : length q ≡ place = omega arith in
          let none : HasSeen needs new last = record { within = omega arith; known = λ k l. absurd (omega arith) } in
          subst (λ k. HasSeen needs new (step_at (q ++ last ∷ []) k)) eq (subst (HasSeen needs new) (sym (back q last)) none))
          (cases_lt place (length q));
      linked = λ place lt. ⊎_elim
          (λ (low : place + 1 < length q).
          subst (λ x. Needs needs x (job_at (q ++ last ∷ []) (place + 1))) (sym (job_front q last place (omega arith)))
          (subst (λ x. Needs needs (job_at q place) x) (sym (job_front q last (place + 1) low)) (w.linked place low)))
          (λ (ge : length q ≤ place + 1).
          let eq : place + 1 ≡ length q = omega arith in
          let end : job_at (q ++ last ∷ []) (place + 1) ≡ job = ap (job_at (q ++ last ∷ [])) eq ∙ job_back q last in
          subst (λ x. Needs needs x (job_at (q ++ last ∷ []) (place + 1))) (sym (job_front q last place (omega arith)))
          (subst (λ x. Needs needs (job_at q place) x) (sym end) (need place eq)))
          (cases_lt (place + 1) (length q));
    }
  where
    no_fresh : (marks : List Mark) (a b place : ℕ) → mark_at marks a ≡ Open place → mark_at marks b ≡ Fresh → a ≡ b → ⊥
    no_fresh marks a b place e f same = let both : Open place ≡ Fresh = sym e ∙ ap (mark_at marks) same ∙ f in cc

-- ---- needs lead back onto the path

links_path : (needs : List (List ℕ)) (path : List Step) (left place end : ℕ) → place + 1 + left ≡ length path
    → ((k : ℕ) → k + 1 < length path → Needs needs (job_at path k) (job_at path (k + 1)))
    → ((k : ℕ) → k + 1 ≡ length path → Needs needs (job_at path k) end)
    → Links needs (job_at path place) (map (λ (s : Step). s.job) (drop (place + 1) path)) end
links_path needs path zero place end e linked last =
    subst (λ (t : List Step). Links needs (job_at path place) (map (λ (s : Step). s.job) t) end)
    (sym (drop_all (place + 1) path (omega arith))) (last place (omega arith))
links_path needs path (suc left) place end e linked last =
    subst (λ (t : List Step). Links needs (job_at path place) (map (λ (s : Step). s.job) t) end)
    (sym (drop_more path (place + 1) (record { job = 0; known = 0 }) (omega arith)))
    (linked place (omega arith), links_path needs path left (place + 1) end (omega arith) linked last)

jobs_get : (path : List Step) (i : ℕ) → get_or (map (λ (s : Step). s.job) path) i 0 ≡ job_at path i
jobs_get [] i = refl
jobs_get (s ∷ path) zero = refl
jobs_get (s ∷ path) (suc i) = jobs_get path i

pub path_ring : (needs : List (List ℕ)) (marks : List Mark) (path : List Step) (target place : ℕ) → Walk needs marks path
    → ((k : ℕ) → k + 1 ≡ length path → Needs needs (job_at path k) target) → mark_at marks target ≡ Open place
    → IsRingOf needs (map (λ (s : Step). s.job) (drop place path))
path_ring needs marks path target place w need at =
    let was = w.placed target place at in
    let within : place < length path = was.0 in
    let rest : ℕ = length path - (place + 1) in
    let links : Links needs (job_at path place) (map (λ (s : Step). s.job) (drop (place + 1) path)) target =
    links_path needs path rest place target (omega arith) w.linked need in
    let ring : IsRing needs (job_at path place ∷ map (λ (s : Step). s.job) (drop (place + 1) path)) =
    subst (λ x. Links needs (job_at path place) (map (λ (s : Step). s.job) (drop (place + 1) path)) x) (sym was.1) links in
    let first : drop place path ≡ step_at path place ∷ drop (place + 1) path =
    drop_more path place (record { job = 0; known = 0 }) within in
    record {
      ring = subst (λ (t : List Step). IsRing needs (map (λ (s : Step). s.job) t)) (sym first) ring;
      distinct = λ i j li lj e.
          let long : length (map (λ (s : Step). s.job) (drop place path)) ≡ length path - place =
          length-map (drop place path) (λ (s : Step). s.job) ∙ length-drop place path in
          let gi : get_or (map (λ (s : Step). s.job) (drop place path)) i 0 ≡ job_at path (place + i) = jobs_get (drop place path) i
          ∙ ap (λ (s : Step). s.job) (get_or-drop place path i (record { job = 0; known = 0 })) in
          let gj : get_or (map (λ (s : Step). s.job) (drop place path)) j 0 ≡ job_at path (place + j) = jobs_get (drop place path) j
          ∙ ap (λ (s : Step). s.job) (get_or-drop place path j (record { job = 0; known = 0 })) in
          let same : Open (place + i) ≡ Open (place + j) = sym (w.stands (place + i) (omega arith))
          ∙ ap (mark_at marks) (sym gi ∙ e ∙ gj) ∙ w.stands (place + j) (omega arith) in
          let eq : place + i ≡ place + j = cc in
          omega arith;
    }

-- ---- the whole walk

pub no_marks : (needs : List (List ℕ)) (marks : List Mark) → length marks ≡ length needs → ((job : ℕ) → mark_at marks job ≡ Fresh)
    → all_steps_left marks ≤ 2 * length needs → Walk needs marks []
no_marks needs marks long fresh most = record {
  long = long;
  settled = λ job k. absurd (fresh_unknown (mark_at marks job) (fresh job) k);
  low = λ job. let at = ap known_depth (fresh job) in omega arith;
  placed = λ job place o. let f = fresh job in absurd cc;
  stands = λ place lt. absurd (omega arith);
  seen = λ place lt. absurd (omega arith);
  linked = λ place lt. absurd (omega arith);
}

-- where the path is empty, a job that isn't fresh is known
pub known_end : (needs : List (List ℕ)) (marks : List Mark) (job : ℕ) → Walk needs marks [] → is_fresh (mark_at marks job) ≡ false
    → IsKnown (mark_at marks job)
known_end needs marks job w begun = by (mark_at marks job) refl
  where
    by : (m : Mark) → mark_at marks job ≡ m → IsKnown (mark_at marks job)
    by Fresh e = let t : true ≡ false = ap is_fresh (sym e) ∙ begun in absurd cc
    by (Open place) e = let was = w.placed job place e in let lt = was.0 in absurd (omega arith)
    by (Known d) e = known_is marks job (Known d) e tt

-- a job that isn't fresh stays so
pub begun_kept : (marks : List Mark) (job other : ℕ) (m : Mark) → is_fresh m ≡ false → is_fresh (mark_at marks other) ≡ false
    → is_fresh (mark_at (set marks job m) other) ≡ false
begun_kept marks job other m not_fresh h = ⊎_elim
    (λ (e : other ≡ job). ⊎_elim
    (λ (lt : job < length marks). ap (λ j. is_fresh (mark_at (set marks job m) j)) e ∙ ap is_fresh (same_mark marks job m lt) ∙ not_fresh)
    (λ (past : length marks ≤ job). let t : true ≡ false = sym (ap is_fresh (ap (mark_at marks) e ∙ mark_past marks job past))
    ∙ h in absurd cc)
    (cases_lt job (length marks)))
    (λ (ne : other ≡ job → ⊥). ap is_fresh (other_mark marks job other m ne) ∙ h)
    (cases_eq other job)

-- ---- the depths

pub depths_from : (needs : List (List ℕ)) (marks : List Mark) → Walk needs marks []
    → ((k : ℕ) → k < length needs → IsKnown (mark_at marks k)) → DepthsOf needs (map known_depth marks)
depths_from needs marks w known =
    let depth : (job : ℕ) → get_or (map known_depth marks) job 0 ≡ known_depth (mark_at marks job) = λ job. depth_get marks job in
    record {
      long = length-map marks known_depth ∙ w.long;
      each = λ job there. depth job ∙ (w.settled job (known job there)).depth
          ∙ above_same (λ n. known_depth (mark_at marks n)) (λ n. get_or (map known_depth marks) n 0) (needs_at needs job)
          (λ i l. sym (depth (get_or (needs_at needs job) i 0)));
    }
  where
    depth_get : (marks : List Mark) (job : ℕ) → get_or (map known_depth marks) job 0 ≡ known_depth (mark_at marks job)
    depth_get [] job = refl
    depth_get (m ∷ ms) zero = refl
    depth_get (m ∷ ms) (suc job) = depth_get ms job
