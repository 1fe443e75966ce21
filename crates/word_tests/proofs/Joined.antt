-- Words that are joined, and one more behind them.
use Rattle.std.proofs.Common.{◌≡◌, ℕ, ◌+◌, ◌<◌, List, [], ◌∷◌, ◌++◌, length, take, refl, sym, ap, ◌∙◌, append_assoc, length-take, arith}
use Rattle.std.specs.List.{join_with_byte}

abbrev Words : Type 0
Words = List (List ℕ)

one_joined : (c : ℕ) (front : Words) (word : List ℕ) → length front ≡ 0
    → join_with_byte c (front ++ word ∷ []) ≡ join_with_byte c front ++ word
one_joined c [] word e = refl
one_joined c (x ∷ xs) word e = absurd (omega (arith, e))

more_joined : (c : ℕ) (front : Words) (word : List ℕ) → 0 < length front
    → join_with_byte c (front ++ word ∷ []) ≡ join_with_byte c front ++ c ∷ word
more_joined c [] word l = absurd (omega (arith, l))
more_joined c (x ∷ []) word l = refl
more_joined c (x ∷ y ∷ xs) word l =
    let more = more_joined c (y ∷ xs) word (omega arith) in
    ap (λ line. x ++ c ∷ line) more ∙ sym (append_assoc x (c ∷ join_with_byte c (y ∷ xs)) (c ∷ word))

-- the words up to a place, with the one there behind them: alone where it is the first, and else behind the byte
module _ (c : ℕ) (words : Words) (at : ℕ) (word : List ℕ) (lt : at < length words) where
  pub joined_first : take (at + 1) words ≡ take at words ++ word ∷ [] → at ≡ 0
      → join_with_byte c (take at words) ++ word ≡ join_with_byte c (take (at + 1) words)
  joined_first more e = sym (ap (join_with_byte c) more ∙ one_joined c (take at words) word (omega (arith, e, length-take at words)))

  pub joined_next : take (at + 1) words ≡ take at words ++ word ∷ [] → 0 < at
      → (join_with_byte c (take at words) ++ c ∷ []) ++ word ≡ join_with_byte c (take (at + 1) words)
  joined_next more l =
      let next = more_joined c (take at words) word (omega (arith, l, lt, length-take at words)) in
      append_assoc (join_with_byte c (take at words)) (c ∷ []) word ∙ sym (ap (join_with_byte c) more ∙ next)
