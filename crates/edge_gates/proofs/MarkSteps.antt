-- Each kind of step keeps the rule of a mark.
use Rattle.std.proofs.Common.{◌≡◌, ℕ, ◌≤◌, Bool, true, false, List, [], ◌∷◌, set, count_by, refl, sym, ap, subst, arith, if◌then◌else◌}
use mathlib.Core.Option.{some}
use lib.ListN.{get_elem?}
use Rattle.crossbeam_utils.specs.Register.{Admits, Turns}
use Rattle.edge_gates.specs.declared.marked.Marked.{Marked}
use Rattle.edge_gates.specs.declared.marked.Marked.TheVariants.{Clear, Set}
use Rattle.edge_gates.specs.declared.marked.MarkView.{MarkView}
use Rattle.edge_gates.specs.MarkRule.{marks_of, is_inside, outsider, KeptAt, tried, EntersAt, LeavesAt}
use Rattle.edge_gates.proofs.Counts.{one_if, count-set, count-snoc}

-- one user alone, outside
pub starts : KeptAt Clear (outsider ∷ [])
starts = refl

-- a new user may come
pub admits : Admits KeptAt outsider
admits x views kept = let more = count-snoc is_inside views outsider in let k : count_by is_inside views ≡ marks_of x = kept in omega arith

-- a user enters
entered : (pass : ℕ) (v : MarkView) → v.inside ≡ false → (views : List MarkView) → KeptAt Clear views
    → get_elem? views pass ≡ some v → KeptAt Set (set views pass (tried v Clear))
entered pass v outside views kept at =
    let out : one_if (is_inside v) ≡ 0 = ap one_if outside in
    let n = count-set is_inside views pass (tried v Clear) v at in
    let k : count_by is_inside views ≡ 0 = kept in omega arith

-- a user is refused
refused : (pass : ℕ) (v : MarkView) (views : List MarkView) → KeptAt Set views → get_elem? views pass ≡ some v
    → KeptAt Set (set views pass (tried v Set))
refused pass v views kept at = let n = count-set is_inside views pass (tried v Set) v at in let k : count_by is_inside views ≡ 1 =
    kept in omega arith

-- an exchange from Clear to Set, where the test tells the two apart
pub enters-turn : (same : Marked → Bool) → same Clear ≡ true → same Set ≡ false → (pass : ℕ) (v : MarkView) → v.inside ≡ false
    → Turns KeptAt pass v (λ x. if same x then Set else x) EntersAt
enters-turn same hit miss pass v outside Clear views kept at = (
  tried v Clear,
  subst (λ b. KeptAt (if b then Set else Clear) (set views pass (tried v Clear))) (sym hit)
      (entered pass v outside views kept at),
  refl,
)
enters-turn same hit miss pass v outside Set views kept at = (
  tried v Set,
  subst (λ b. KeptAt (if b then Set else Set) (set views pass (tried v Set))) (sym miss)
      (refused pass v views kept at),
  refl,
)

-- the user that is inside leaves
pub leaves-turn : (pass : ℕ) (v : MarkView) → v.inside ≡ true → Turns KeptAt pass v (λ x. Clear) LeavesAt
leaves-turn pass v inside x views kept at =
    let w : MarkView = record { inside = false; turns = v.turns } in
    let in_it : one_if (is_inside v) ≡ 1 = ap one_if inside in
    let n = count-set is_inside views pass w v at in
    let k : count_by is_inside views ≡ marks_of x = kept in
    let most = at-most x in
    let none : count_by is_inside (set views pass w) ≡ 0 = omega arith in (w, none, refl)
  where
    at-most : (a : Marked) → marks_of a ≤ 1
    at-most Clear = omega arith
    at-most Set = omega arith
