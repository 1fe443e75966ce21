-- Each kind of step keeps the rule of a gate.
use Rattle.std.proofs.Common.{◌≡◌, ◌≢◌, ℕ, ◌+◌, ◌≤◌, min, Bool, true, false, List, [], ◌∷◌, set, count_by, refl, sym, ap, ◌∙◌, subst}
use Rattle.std.proofs.Common.{⊎_elim, true≢false, arith, zero, suc, if◌then◌else◌}
use mathlib.Core.Option.{some, some-ne-none, some-injective}
use lib.ListN.{get_elem?}
use Rattle.atomic_table.proofs.Lists.{at_set, at_snoc}
use Rattle.crossbeam_utils.specs.Register.{Admits, Turns}
use Rattle.edge_gates.specs.declared.asked.Asked.{Asked}
use Rattle.edge_gates.specs.declared.asked.Asked.TheVariants.{Nobody, One, Several}
use Rattle.edge_gates.specs.declared.asked.Place.{Place}
use Rattle.edge_gates.specs.declared.asked.Place.TheVariants.{NotYet, First, Later}
use Rattle.edge_gates.specs.declared.asked.GateView.{GateView}
use Rattle.edge_gates.specs.GateRule.{number_of, is_first_place, is_later_place, is_first, is_later, newcomer, KeptAt, LooksAt}
use Rattle.edge_gates.specs.GateRule.{first_asked, AsksFirstAt, AsksLaterAt}
use Rattle.edge_gates.proofs.Counts.{one_if, count-set, count-snoc}

-- one user alone, that hasn't asked
pub starts : KeptAt Nobody (newcomer ∷ [])
starts = record { first = refl; later = refl; seen = seen }
  where
    seen : (user : ℕ) (v : GateView) → get_elem? (newcomer ∷ []) user ≡ some v → number_of v.seen ≤ 0
    seen zero v at = subst (λ (u : GateView). number_of u.seen ≤ 0) (some-injective newcomer v at) (omega arith)
    seen (suc user) v at = absurd (some-ne-none v (sym at))

-- a new user may come
pub admits : Admits KeptAt newcomer
admits x views kept = record {
  first = (let more = count-snoc is_first views newcomer in let k = kept.first in omega arith);
  later = (let more = count-snoc is_later views newcomer in let k = kept.later in omega arith);
  seen = λ user v at. ⊎_elim (λ (t : get_elem? views user ≡ some v). kept.seen user v t)
      (λ (t : newcomer ≡ v). subst (λ (u : GateView). number_of u.seen ≤ number_of x) t (omega arith)) (at_snoc views newcomer v user at);
}

-- no user sees more than there are, where a user's view becomes one that doesn't
below : (pass : ℕ) (views : List GateView) (x y : Asked) (w : GateView)
    → ((user : ℕ) (v : GateView) → get_elem? views user ≡ some v → number_of v.seen ≤ number_of x) → number_of x ≤ number_of y
    → number_of w.seen ≤ number_of y
    → (user : ℕ) (v : GateView) → get_elem? (set views pass w) user ≡ some v → number_of v.seen ≤ number_of y
below pass views x y w seen up own user v at = ⊎_elim
    (λ (t : (user ≡ pass) × (w ≡ v)). subst (λ (u : GateView). number_of u.seen ≤ number_of y) t.1 own)
    (λ (t : (user ≢ pass) × (get_elem? views user ≡ some v)). let s = seen user v t.1 in omega arith)
    (at_set views pass user w v at)

-- a look changes no place
looked : (pass : ℕ) (v : GateView) (looks : ℕ) (x : Asked) (views : List GateView) → KeptAt x views → get_elem? views pass ≡ some v
    → KeptAt x (set views pass (record { place = v.place; seen = x; looks = looks }))
looked pass v looks x views kept at =
    let w : GateView = record { place = v.place; seen = x; looks = looks } in record {
      first = (let n = count-set is_first views pass w v at in let k = kept.first in omega arith);
      later = (let n = count-set is_later views pass w v at in let k = kept.later in
          let m : count_by is_later (set views pass w) ≡ count_by is_later views = omega arith in ap (λ i. min i 1) m ∙ k);
      seen = below pass views x x w kept.seen (omega arith) (omega arith);
    }

pub looks-turn : (pass : ℕ) (v : GateView) → Turns KeptAt pass v (λ x. x) LooksAt
looks-turn pass v x views kept at =
    (record { place = v.place; seen = x; looks = v.looks + 1 }, looked pass v (v.looks + 1) x views kept at, refl)

-- the first user asks
asked-first : (pass : ℕ) (v : GateView) → v.place ≡ NotYet → (views : List GateView) → KeptAt Nobody views
    → get_elem? views pass ≡ some v → KeptAt One (set views pass (first_asked v Nobody))
asked-first pass v fresh views kept at =
    let w : GateView = first_asked v Nobody in
    let not_first : one_if (is_first v) ≡ 0 = ap (λ (p : Place). one_if (is_first_place p)) fresh in
    let not_later : one_if (is_later v) ≡ 0 = ap (λ (p : Place). one_if (is_later_place p)) fresh in record {
      first = (let n = count-set is_first views pass w v at in let k : count_by is_first views ≡ 0 = kept.first in
          let m : count_by is_first (set views pass w) ≡ 1 = omega arith in m);
      later = (let n = count-set is_later views pass w v at in let k : min (count_by is_later views) 1 ≡ 0 = kept.later in
          let m : count_by is_later (set views pass w) ≡ count_by is_later views = omega arith in ap (λ i. min i 1) m ∙ k);
      seen = below pass views Nobody One w kept.seen (omega arith) (omega arith);
    }

-- a later one asks
asked-later : (pass : ℕ) (v : GateView) → v.place ≡ NotYet → v.seen ≢ Nobody → (x : Asked) (views : List GateView) → KeptAt x views
    → get_elem? views pass ≡ some v → KeptAt Several (set views pass (record { place = Later; seen = Several; looks = v.looks }))
asked-later pass v fresh somebody x views kept at =
    let w : GateView = record { place = Later; seen = Several; looks = v.looks } in
    let not_first : one_if (is_first v) ≡ 0 = ap (λ (p : Place). one_if (is_first_place p)) fresh in
    let not_later : one_if (is_later v) ≡ 0 = ap (λ (p : Place). one_if (is_later_place p)) fresh in
    let some_asked : 1 ≤ number_of v.seen = at-least v.seen somebody in
    let seen = kept.seen pass v at in
    let most = at-most x in record {
      first = (let n = count-set is_first views pass w v at in let k = kept.first in
          let m : count_by is_first (set views pass w) ≡ 1 = omega arith in m);
      later = (let n = count-set is_later views pass w v at in let m : 1 ≤ count_by is_later (set views pass w) = omega arith in
          let r : min (count_by is_later (set views pass w)) 1 ≡ 1 = omega arith in r);
      seen = below pass views x Several w kept.seen most (omega arith);
    }
  where
    at-least : (a : Asked) → a ≢ Nobody → 1 ≤ number_of a
    at-least Nobody asked = absurd (asked refl)
    at-least One asked = omega arith
    at-least Several asked = omega arith

    at-most : (a : Asked) → number_of a ≤ 2
    at-most Nobody = omega arith
    at-most One = omega arith
    at-most Several = omega arith

pub asks-later-turn : (pass : ℕ) (v : GateView) → v.place ≡ NotYet → v.seen ≢ Nobody → Turns KeptAt pass v (λ x. Several) AsksLaterAt
asks-later-turn pass v fresh somebody x views kept at =
    (record { place = Later; seen = Several; looks = v.looks }, asked-later pass v fresh somebody x views kept at, refl)

-- an exchange that makes the user the first, where the test tells Nobody from the others
pub asks-first-turn : (same : Asked → Bool) → same Nobody ≡ true → same One ≡ false → same Several ≡ false
    → (pass : ℕ) (v : GateView) → v.place ≡ NotYet
    → Turns KeptAt pass v (λ x. if same x then One else x) AsksFirstAt
asks-first-turn same hit miss far pass v fresh Nobody views kept at = (
  first_asked v Nobody,
  subst (λ b. KeptAt (if b then One else Nobody) (set views pass (first_asked v Nobody))) (sym hit)
      (asked-first pass v fresh views kept at),
  refl,
)
asks-first-turn same hit miss far pass v fresh One views kept at = (
  first_asked v One,
  subst (λ b. KeptAt (if b then One else One) (set views pass (first_asked v One))) (sym miss)
      (looked pass v v.looks One views kept at),
  refl,
)
asks-first-turn same hit miss far pass v fresh Several views kept at = (
  first_asked v Several,
  subst (λ b. KeptAt (if b then One else Several) (set views pass (first_asked v Several))) (sym far)
      (looked pass v v.looks Several views kept at),
  refl,
)

-- what such an exchange told the user
pub was-first : (same : Asked → Bool) → same One ≡ false → same Several ≡ false → (v : GateView) (x : Asked) (w : GateView)
    → same x ≡ true → w ≡ first_asked v x → w ≡ record { place = First; seen = One; looks = v.looks }
was-first same miss far v Nobody w found is = is
was-first same miss far v One w found is = absurd (true≢false (sym found ∙ miss))
was-first same miss far v Several w found is = absurd (true≢false (sym found ∙ far))

pub record SawSomebody (v w : GateView) : Type 0 where
  pub place : w.place ≡ v.place
  pub somebody : w.seen ≢ Nobody
  pub looks : w.looks ≡ v.looks

pub saw-somebody : (same : Asked → Bool) → same Nobody ≡ true → (v : GateView) (x : Asked) (w : GateView) → same x ≡ false
    → w ≡ first_asked v x → SawSomebody v w
saw-somebody same hit v Nobody w found is = absurd (true≢false (sym hit ∙ found))
saw-somebody same hit v One w found is =
    record {
      place = ap (λ (u : GateView). u.place) is;
      somebody = λ e. let s = ap (λ (u : GateView). u.seen) is in
          cc;
      looks = ap (λ (u : GateView). u.looks) is;
    }
saw-somebody same hit v Several w found is =
    record {
      place = ap (λ (u : GateView). u.place) is;
      somebody = λ e. let s = ap (λ (u : GateView). u.seen) is in
          cc;
      looks = ap (λ (u : GateView). u.looks) is;
    }
