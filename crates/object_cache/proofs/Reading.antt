-- Bytes in pieces, read from the front.
use Rattle.std.proofs.Common.{◌≡◌, ℕ, ◌+◌, ◌-◌, ◌<◌, ◌≤◌, List, [], ◌∷◌, ◌++◌, length, get_or, take, drop, refl, sym, ◌∙◌, ap, arith}
use Rattle.std.proofs.Common.{append_assoc}
use Rattle.std.specs.Prelude.{true, false, ◌&&◌, Bool, not}
use Rattle.std.specs.List.{concat}
use Rattle.std.specs.Str.{bytes_eq}
use Rattle.std.proofs.lemmas.List.{append-nil, length-append, drop-drop, length-drop, length-take-le, take-append-drop, take_all}
use Rattle.std.proofs.Math.Seq.{take-append-add, drop-append-add}

pub concat_more : (xs : List (List ℕ)) (x : List ℕ) → concat (xs ++ x ∷ []) ≡ concat xs ++ x
concat_more [] x = append-nil x
concat_more (y ∷ xs) x = ap (λ zs. y ++ zs) (concat_more xs x) ∙ sym (append_assoc y (concat xs) x)

-- what is left after a piece of at most so many bytes was read
pub drop_piece : (piece rest : List ℕ) (n : ℕ) → length piece ≤ n → drop n (piece ++ rest) ≡ drop (n - length piece) rest
drop_piece piece rest n le =
    let e : n ≡ length piece + (n - length piece) = omega (arith, le) in
    ap (λ k. drop k (piece ++ rest)) e ∙ drop-append-add piece rest (n - length piece)

pub take_piece : (piece rest : List ℕ) (n : ℕ) → length piece ≤ n → take n (piece ++ rest) ≡ piece ++ take (n - length piece) rest
take_piece piece rest n le =
    let e : n ≡ length piece + (n - length piece) = omega (arith, le) in
    ap (λ k. take k (piece ++ rest)) e ∙ take-append-add piece rest (n - length piece)

pub next_piece : (left : ℕ) (first piece front rest whole : List ℕ) → first ≡ piece ++ front → first ++ rest ≡ whole → length piece ≤ left
    → take left whole ≡ piece ++ take (left - length piece) (front ++ rest)
next_piece left first piece front rest whole first_is whole_is le =
    ap (take left) (sym whole_is ∙ ap (λ xs. xs ++ rest) first_is ∙ append_assoc piece front rest)
    ∙ take_piece piece (front ++ rest) left le

-- a list is its first item and the others
pub first_rest : {X : Type 0} (xs : List X) (x : X) → 1 ≤ length xs → x ≡ get_or xs 0 x → xs ≡ x ∷ take (length xs - 1) (drop 1 xs)
first_rest [] x some is = absurd (omega (arith, some))
first_rest (y ∷ xs) x some is =
    let all : take (length (y ∷ xs) - 1) xs ≡ xs = take_all (length (y ∷ xs) - 1) xs (omega arith) in
    ap (λ z. z ∷ xs) (sym is) ∙ ap (λ zs. x ∷ zs) (sym all)

-- two texts match one after the other where both together do
pub both_match : (a b text : List ℕ)
    → bytes_eq (take (length (a ++ b)) text) (a ++ b) ≡ (bytes_eq (take (length a) text) a && bytes_eq (take (length b) (drop
    (length a) text)) b)
both_match [] b text = refl
both_match (x ∷ a) b [] = refl
both_match (x ∷ a) b (y ∷ text) = grind (arith, both_match a b text)

pub both_left : (a b text : List ℕ) → drop (length (a ++ b)) text ≡ drop (length b) (drop (length a) text)
both_left a b text = ap (λ n. drop n text) (length-append a b) ∙ sym (drop-drop (length b) (length a) text)

pub bytes_piece : (piece a front b : List ℕ) → length piece ≡ length front → bytes_eq (piece ++ a) (front ++ b) ≡
    (bytes_eq piece front && bytes_eq a b)
bytes_piece [] a [] b e = refl
bytes_piece [] a (y ∷ front) b e = absurd (omega (arith, e))
bytes_piece (x ∷ piece) a [] b e = absurd (omega (arith, e))
bytes_piece (x ∷ piece) a (y ∷ front) b e = grind (arith, bytes_piece piece a front b)

pub by_not : (b : Bool) → not b ≡ false → b ≡ true
by_not true h = refl
by_not false h = absurd (cc)

-- the bytes that are read are those up to the piece's end, and then the others
pub match_piece : (piece new rest : List ℕ) → length piece ≤ length rest
    → bytes_eq (take (length rest) (piece ++ new)) rest
    ≡ (bytes_eq piece (take (length piece) rest) && bytes_eq (take (length (drop (length piece) rest)) new) (drop (length piece) rest))
match_piece piece new rest le =
    let k = length piece in
    let len : length rest - k ≡ length (drop k rest) = sym (length-drop k rest) in
    let front : length piece ≡ length (take k rest) = sym (length-take-le k rest le) in
    ap (λ bs. bytes_eq bs rest) (take_piece piece new (length rest) le ∙ ap (λ n. piece ++ take n new) len)
    ∙ ap (λ bs. bytes_eq (piece ++ take (length (drop k rest)) new) bs) (sym (take-append-drop k rest))
    ∙ bytes_piece piece (take (length (drop k rest)) new) (take k rest) (drop k rest) front

-- nothing is left behind as many bytes
pub all_same : (a b : List ℕ) → length (drop (length b) a) ≡ 0 → take (length b) a ≡ a
all_same a b none = take_all (length b) a (omega (arith, none, length-drop (length b) a))

pub more_left : (a b : List ℕ) → 0 < length (drop (length b) a) → bytes_eq a b ≡ false
more_left [] [] h = absurd (omega (arith, h))
more_left [] (y ∷ b) h = refl
more_left (x ∷ a) [] h = refl
more_left (x ∷ a) (y ∷ b) h = grind (arith, more_left a b)

pub front_differs : (a b : List ℕ) → bytes_eq (take (length b) a) b ≡ false → bytes_eq a b ≡ false
front_differs [] [] h = h
front_differs [] (y ∷ b) h = refl
front_differs (x ∷ a) [] h = refl
front_differs (x ∷ a) (y ∷ b) h = grind (arith, front_differs a b)

pub lengths_differ : (a b : List ℕ) → bytes_eq a b ≡ true → length a ≡ length b
lengths_differ [] [] h = refl
lengths_differ [] (y ∷ b) h = absurd (cc)
lengths_differ (x ∷ a) [] h = absurd (cc)
lengths_differ (x ∷ a) (y ∷ b) h = grind (arith, lengths_differ a b)
