-- Lists of workers, from the last to the first.
use Rattle.std.proofs.Common.{◌≡◌, ◌+◌, List, [], ◌∷◌, ◌++◌, length, reverse, map, sym, ap, ◌∙◌, append_assoc, arith}
use Rattle.std.specs.List.{flat_map}
use Rattle.std.proofs.lemmas.List.{append-nil, length-append, map-append, reverse-append}
use Rattle.std.proofs.lemmas.List.Concat.{flat_map-append, length-flat_map}
use Rattle.std.proofs.lemmas.List.Sorted.{sum_by-IsPermutation, IsPermutation-reverse}

-- the last worker is taken off
pub gathered-more : {X Y : Type 0} (f : X → List Y) (all : List Y) (before mid after : List Y) (xs ys : List X) (x : X) → xs ≡ ys ++ x ∷ []
    → reverse xs ≡ x ∷ reverse ys
    → before ++ flat_map f (reverse xs) ≡ all → mid ≡ before ++ f x → mid ++ flat_map f (reverse ys) ≡ all
gathered-more f all before mid after xs ys x is back so_far more =
    ap (λ z. z ++ flat_map f (reverse ys)) more ∙ append_assoc before (f x) (flat_map f (reverse ys))
    ∙ ap (λ z. before ++ flat_map f z) (sym back) ∙ so_far

pub gathered-room : {X Y : Type 0} (f : X → List Y) (xs ys : List X) (x : X) → xs ≡ ys ++ x ∷ []
    → length (flat_map f xs) ≡ length (flat_map f ys) + length (f x)
gathered-room f xs ys x is =
    let e = ap (λ z. length (flat_map f z)) is in
    let s = ap length (flat_map-append f ys (x ∷ [])) in
    let t = length-append (flat_map f ys) (flat_map f (x ∷ [])) in
    let u : length (flat_map f (x ∷ [])) ≡ length (f x) = ap length (append-nil (f x)) in
    omega (arith, e, s, t, u)

-- and what it had goes to the end of another list
pub moved-more : {X Y : Type 0} (f : X → Y) (all before mid : List Y) (xs ys : List X) (x : X) → xs ≡ ys ++ x ∷ []
    → before ++ reverse (map f xs) ≡ all → mid ≡ before ++ f x ∷ [] → mid ++ reverse (map f ys) ≡ all
moved-more f all before mid xs ys x is so_far more =
    ap (λ z. z ++ reverse (map f ys)) more ∙ append_assoc before (f x ∷ []) (reverse (map f ys))
    ∙ ap (λ z. before ++ z) (sym (ap reverse (ap (map f) is ∙ map-append f ys (x ∷ [])) ∙ reverse-append (map f ys) (f x ∷ []))) ∙ so_far

-- in whatever order the lists are put together, there are as many
pub flat-length : {X Y : Type 0} (f : X → List Y) (xs : List X) → length (flat_map f xs) ≡ length (flat_map f (reverse xs))
flat-length f xs = length-flat_map f xs ∙ sym (sum_by-IsPermutation (λ x. length (f x)) xs (reverse xs) (IsPermutation-reverse xs))
    ∙ sym (length-flat_map f (reverse xs))
