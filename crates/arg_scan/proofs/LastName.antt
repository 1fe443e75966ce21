-- The part of a path after its last `/`.
use Rattle.std.proofs.Common.{◌≡◌, ℕ, zero, suc, ◌+◌, ◌<◌, true, false, nat_eq, List, [], ◌∷◌, length, take, drop, ◌-◌, get_or, refl, sym}
use Rattle.std.proofs.Common.{◌∙◌, ap, cond, arith}
use Rattle.std.specs.List.{list_any}
use Rattle.std.proofs.lemmas.Grind.{common_steps}
use Rattle.std.proofs.lemmas.Bool.Decides.{Decides-eqb, eqb_tells}
use Rattle.std.proofs.lemmas.List.Folds.{list_any_at, list_any_none}
use Rattle.std.proofs.lemmas.List.Elements.{All-from_get_or}
use Rattle.arg_scan.specs.Names.{last_name}

swapped : (x y b : ℕ) → b ≡ x → nat_eq x b ≡ true
swapped x y b h = (Decides-eqb x b).1 (sym h)

-- where no byte is a `/`
no_slash : (path : List ℕ) → ((k : ℕ) → k < length path → nat_eq (get_or path k 0) 47 ≡ false) → list_any (nat_eq 47) path ≡ false
no_slash path none = list_any_none _ path
    (All-from_get_or (λ b. nat_eq 47 b ≡ false) path 0 (λ k within. turned (get_or path k 0) (none k within)))
  where
    turned : (b : ℕ) → nat_eq b 47 ≡ false → nat_eq 47 b ≡ false
    turned b h = grind (arith, eqb_tells)

pub last_name-none : (path : List ℕ) → ((k : ℕ) → k < length path → nat_eq (get_or path k 0) 47 ≡ false) → last_name path ≡ path
last_name-none [] none = refl
last_name-none (b ∷ bs) none = ap (λ t. cond t (last_name bs) (b ∷ bs)) (no_slash (b ∷ bs) none)

-- what stands behind the last `/`
pub last_name-at : (path : List ℕ) (at : ℕ) → at < length path → nat_eq (get_or path at 0) 47 ≡ true
    → ((k : ℕ) → at < k → k < length path → nat_eq (get_or path k 0) 47 ≡ false) → last_name path ≡ drop (suc at) path
last_name-at [] at within slash after = absurd (omega arith)
last_name-at (b ∷ bs) zero within slash after =
    ap (λ t. cond t (last_name bs) (b ∷ bs)) (list_any_at (nat_eq 47) (b ∷ bs) 0 0 within (swapped 47 0 b ((Decides-eqb b 47).0 slash)))
    ∙ last_name-none bs (λ k l. after (suc k) (omega arith) (omega arith))
last_name-at (b ∷ bs) (suc at) within slash after =
    ap (λ t. cond t (last_name bs) (b ∷ bs))
    (list_any_at (nat_eq 47) (b ∷ bs) (suc at) 0 within (swapped 47 0 (get_or bs at 0) ((Decides-eqb (get_or bs at 0) 47).0 slash)))
    ∙ last_name-at bs at (omega arith) slash (λ k l m. after (suc k) (omega arith) (omega arith))

-- the bytes behind a place, as they are read
pub whole_rest : (path : List ℕ) (at : ℕ) → take (length path - (at + 1)) (drop (at + 1) path) ≡ drop (suc at) path
whole_rest path at = grind (arith, common_steps)
