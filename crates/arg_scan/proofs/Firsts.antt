-- The first element of a list that passes a test.
use Rattle.std.proofs.Common.{◌≡◌, ℕ, zero, suc, ◌<◌, Bool, true, false, cond, List, [], ◌∷◌, length, get_or, Some, None, refl, sym, ◌∙◌}
use Rattle.std.proofs.Common.{ap, arith}
use Rattle.std.specs.List.{find, slice_get}

pub find_first : {X : Type 0} (p : X → Bool) (xs : List X) (i : ℕ) (d : X) → i < length xs
    → ((k : ℕ) → k < i → p (get_or xs k d) ≡ false) → p (get_or xs i d) ≡ true → Some (get_or xs i d) ≡ find p xs
find_first p [] i d within before here = absurd (omega arith)
find_first p (x ∷ xs) zero d within before here = sym (ap (λ t. cond t (Some x) (find p xs)) here)
find_first p (x ∷ xs) (suc i) d within before here =
    find_first p xs i d (omega arith) (λ k l. before (suc k) (omega arith)) here
    ∙ sym (ap (λ t. cond t (Some x) (find p xs)) (before 0 (omega arith)))

pub find_none : {X : Type 0} (p : X → Bool) (xs : List X) (d : X) → ((k : ℕ) → k < length xs → p (get_or xs k d) ≡ false) → find p xs ≡ None
find_none p [] d fails = refl
find_none p (x ∷ xs) d fails =
    ap (λ t. cond t (Some x) (find p xs)) (fails 0 (omega arith)) ∙ find_none p xs d (λ k l. fails (suc k) (omega arith))

-- past the end of a list of words stands the empty word
pub past_end : (words : List (List ℕ)) (at : ℕ) → None ≡ slice_get words at → [] ≡ get_or words at []
past_end [] at h = refl
past_end (word ∷ words) zero h = cc
past_end (word ∷ words) (suc at) h = past_end words at h
