-- The laws of depths.
use Rattle.std.proofs.Common.{◌≡◌, ℕ, zero, suc, ◌+◌, ◌<◌, ◌≤◌, List, [], ◌∷◌, length, get_or, max, refl, ap, sym, ◌∙◌, subst, ⊎_elim}
use Rattle.std.proofs.Common.{arith}
use Rattle.std.proofs.lemmas.Bool.{cases_lt}
use Rattle.std.proofs.lemmas.List.{get_or_past, get_or_default, ext_get_or}
use Rattle.std.proofs.Math.Nat.{le-max_left, le-max_right}
use Rattle.job_graph.specs.Depths.{needs_at, depth_above, DepthsOf, DepthOf}
use Rattle.job_graph.specs.Cycles.{Needs, Links, IsRing}

-- ---- a depth over needs

pub above_each : (f : ℕ → ℕ) (ns : List ℕ) (k : ℕ) → k < length ns → f (get_or ns k 0) + 1 ≤ depth_above f ns
above_each f [] k lt = absurd (omega arith)
above_each f (n ∷ ns) zero lt = le-max_left (f n + 1) (depth_above f ns)
above_each f (n ∷ ns) (suc k) lt = omega (arith, le-max_right (f n + 1) (depth_above f ns), above_each f ns k (omega arith))

pub above_most : (f : ℕ → ℕ) (ns : List ℕ) (most : ℕ) → ((k : ℕ) → k < length ns → f (get_or ns k 0) ≤ most) → depth_above f ns ≤ most + 1
above_most f [] most h = omega arith
above_most f (n ∷ ns) most h =
    let here : f n ≤ most = h 0 (omega arith) in
    let rest : depth_above f ns ≤ most + 1 = above_most f ns most (λ k lt. h (suc k) (omega arith)) in
    omega arith

pub above_same : (f g : ℕ → ℕ) (ns : List ℕ) → ((k : ℕ) → k < length ns → f (get_or ns k 0) ≡ g (get_or ns k 0))
    → depth_above f ns ≡ depth_above g ns
above_same f g [] h = refl
above_same f g (n ∷ ns) h =
    ap (λ x. max (x + 1) (depth_above f ns)) (h 0 (omega arith))
    ∙ ap (λ x. max (g n + 1) x) (above_same f g ns (λ k lt. h (suc k) (omega arith)))

-- ---- jobs have one depth

same_below : (needs : List (List ℕ)) (a b : List ℕ) → DepthsOf needs a → DepthsOf needs b → (bound job : ℕ) → get_or a job 0 < bound
    → get_or a job 0 ≡ get_or b job 0
same_below needs a b h k zero job lt = absurd (omega arith)
same_below needs a b h k (suc bound) job lt = ⊎_elim
    (λ (there : job < length needs).
    let ns : List ℕ = needs_at needs job in
    let each : (i : ℕ) → i < length ns → get_or a (get_or ns i 0) 0 ≡ get_or b (get_or ns i 0) 0 =
    λ i l. same_below needs a b h k bound (get_or ns i 0)
    (let up = above_each (λ n. get_or a n 0) ns i l in let is = h.each job there in omega arith) in
    h.each job there ∙ above_same (λ n. get_or a n 0) (λ n. get_or b n 0) ns each ∙ sym (k.each job there))
    (λ (past : length needs ≤ job).
    let m = h.long in
    let n = k.long in
    get_or_past a job 0 (omega arith) ∙ sym (get_or_past b job 0 (omega arith)))
    (cases_lt job (length needs))

pub one_depths : (needs : List (List ℕ)) (a b : List ℕ) → DepthsOf needs a → DepthsOf needs b → a ≡ b
one_depths needs a b h k = ext_get_or 0 a b (h.long ∙ sym k.long) (λ i lt. same_below needs a b h k (suc (get_or a i 0)) i (omega arith))

pub one_depth : (needs : List (List ℕ)) (job one other : ℕ) → DepthOf needs job one → DepthOf needs job other → one ≡ other
one_depth needs job one other h k = sym h.value ∙ ap (λ d. get_or d job 0) (one_depths needs h.depths k.depths h.fit k.fit) ∙ k.value

-- ---- a ring has none

-- what needs another is there
pub needs_there : (needs : List (List ℕ)) (job other : ℕ) → Needs needs job other → job < length needs
needs_there needs job other h = ⊎_elim
    (λ (there : job < length needs). there)
    (λ (past : length needs ≤ job).
    let none : length (needs_at needs job) ≡ 0 = ap length (get_or_past needs job [] past) in
    absurd (omega (arith, h.1)))
    (cases_lt job (length needs))

pub deeper : (needs : List (List ℕ)) (depths : List ℕ) → DepthsOf needs depths → (job other : ℕ) → Needs needs job other
    → get_or depths other 0 + 1 ≤ get_or depths job 0
deeper needs depths h job other need =
    let there = needs_there needs job other need in
    let ns : List ℕ = needs_at needs job in
    let is : get_or ns need.0 0 ≡ other = get_or_default ns need.0 0 other need.1 ∙ need.2 in
    let up : get_or depths (get_or ns need.0 0) 0 + 1 ≤ depth_above (λ n. get_or depths n 0) ns =
    above_each (λ n. get_or depths n 0) ns need.0 need.1 in
    let up' : get_or depths other 0 + 1 ≤ depth_above (λ n. get_or depths n 0) ns =
    subst (λ x. get_or depths x 0 + 1 ≤ depth_above (λ n. get_or depths n 0) ns) is up in
    let each = h.each job there in
    omega arith

links_deeper : (needs : List (List ℕ)) (depths : List ℕ) → DepthsOf needs depths → (more : List ℕ) (first end : ℕ)
    → Links needs first more end → get_or depths end 0 + 1 ≤ get_or depths first 0
links_deeper needs depths h [] first end l = deeper needs depths h first end l
links_deeper needs depths h (next ∷ more) first end l =
    let one = deeper needs depths h first next l.0 in
    let two = links_deeper needs depths h more next end l.1 in
    omega arith

pub no_ring : (needs : List (List ℕ)) (depths cycle : List ℕ) → DepthsOf needs depths → IsRing needs cycle → ⊥
no_ring needs depths [] h ring = ring
no_ring needs depths (first ∷ more) h ring = let up = links_deeper needs depths h more first first ring in absurd (omega arith)
