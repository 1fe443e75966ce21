-- A name without its ending, by its last dot or `/`.
use Rattle.std.proofs.Common.{◌≡◌, ℕ, zero, suc, ◌<◌, ◌==◌, Bool, true, false, not, ◌&&◌, nat_eq, List, [], ◌∷◌, length, take, get_or}
use Rattle.std.proofs.Common.{cond, ◌||◌, refl, sym, ◌∙◌, ap, arith}
use Rattle.std.specs.List.{list_any}
use Rattle.std.proofs.lemmas.Bool.Decides.{Decides-eqb}
use Rattle.std.proofs.lemmas.List.Folds.{list_any_at, list_any_none}
use Rattle.std.proofs.lemmas.List.Elements.{All-from_get_or}
use Rattle.option_table.proofs.Positions.{fails_by}
use Rattle.dependency_options.specs.Words.{is_mark, stem}

-- no byte of the path is a dot or a `/`
abbrev pub IsPlain : List ℕ → Type 0
IsPlain path = (k : ℕ) → k < length path → is_mark (get_or path k 0) ≡ false

-- no byte behind the place is a dot or a `/`
abbrev pub IsPlainAfter : List ℕ → ℕ → Type 0
IsPlainAfter path at = (k : ℕ) → at < k → k < length path → is_mark (get_or path k 0) ≡ false

rest_plain : (b : ℕ) (bs : List ℕ) → IsPlainAfter (b ∷ bs) 0 → IsPlain bs
rest_plain b bs after k within = after (suc k) (omega arith) (omega arith)

rest_after : (b : ℕ) (bs : List ℕ) (at : ℕ) → IsPlainAfter (b ∷ bs) (suc at) → IsPlainAfter bs at
rest_after b bs at after k low high = after (suc k) (omega arith) (omega arith)

no_mark : (path : List ℕ) → IsPlain path → list_any is_mark path ≡ false
no_mark path plain = list_any_none is_mark path (All-from_get_or (λ b. is_mark b ≡ false) path 0 plain)

not_dot : (b : ℕ) → is_mark b ≡ false → (b == 46) ≡ false
not_dot b h = by_dot (b == 46) (b == 47) h
  where
    by_dot : (x y : Bool) → (x || y) ≡ false → x ≡ false
    by_dot true y h = cc
    by_dot false y h = refl

and_false : (x : Bool) → (x && false) ≡ false
and_false true = refl
and_false false = refl

dot_is : (b : ℕ) → b ≡ 46 → (b == 46) ≡ true
dot_is b h = (Decides-eqb b 46).1 h

other_is : (b : ℕ) → (b ≡ 46 → ⊥) → (b == 46) ≡ false
other_is b h = fails_by (b == 46) (λ t. h ((Decides-eqb b 46).0 t))

keeps : (b : ℕ) (bs rest : List ℕ) (ends : Bool) → ends ≡ false → stem bs ≡ rest → cond ends [] (b ∷ stem bs) ≡ b ∷ rest
keeps b bs rest true h e = cc
keeps b bs rest false h e = ap (λ l. b ∷ l) e

-- a name without a dot and a `/`
pub stem-plain : (path : List ℕ) → IsPlain path → stem path ≡ path
stem-plain [] plain = refl
stem-plain (b ∷ bs) plain =
    keeps b bs bs (b == 46 && not (list_any is_mark bs))
    (ap (λ t. t && not (list_any is_mark bs)) (not_dot b (plain 0 (omega arith))))
    (stem-plain bs (λ k within. plain (suc k) (omega arith)))

marked : (bs : List ℕ) (at : ℕ) → at < length bs → is_mark (get_or bs at 0) ≡ true → (b : ℕ)
    → (b == 46 && not (list_any is_mark bs)) ≡ false
marked bs at within mark b =
    ap (λ t. b == 46 && not t) (list_any_at is_mark bs at 0 within mark) ∙ and_false (b == 46)

-- the last of both is a `/`
pub stem-slash : (path : List ℕ) (at : ℕ) → at < length path → is_mark (get_or path at 0) ≡ true → (get_or path at 0 ≡ 46 → ⊥)
    → IsPlainAfter path at → stem path ≡ path
stem-slash [] at within mark other after = absurd (omega arith)
stem-slash (b ∷ bs) zero within mark other after =
    keeps b bs bs (b == 46 && not (list_any is_mark bs))
    (ap (λ t. t && not (list_any is_mark bs)) (other_is b other))
    (stem-plain bs (rest_plain b bs after))
stem-slash (b ∷ bs) (suc at) within mark other after =
    keeps b bs bs (b == 46 && not (list_any is_mark bs)) (marked bs at (omega arith) mark b)
    (stem-slash bs at (omega arith) mark other (rest_after b bs at after))

-- the last of both is a dot
pub stem-dot : (path : List ℕ) (at : ℕ) → at < length path → is_mark (get_or path at 0) ≡ true → get_or path at 0 ≡ 46
    → IsPlainAfter path at → stem path ≡ take at path
stem-dot [] at within mark dot after = absurd (omega arith)
stem-dot (b ∷ bs) zero within mark dot after =
    ap (λ t. cond (t && not (list_any is_mark bs)) [] (b ∷ stem bs)) (dot_is b dot)
    ∙ ap (λ t. cond (not t) [] (b ∷ stem bs)) (no_mark bs (rest_plain b bs after))
stem-dot (b ∷ bs) (suc at) within mark dot after =
    keeps b bs (take at bs) (b == 46 && not (list_any is_mark bs)) (marked bs at (omega arith) mark b)
    (stem-dot bs at (omega arith) mark dot (rest_after b bs at after))
