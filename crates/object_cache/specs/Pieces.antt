-- Pieces of one size in a block, in an order of their own.
use Rattle.std.specs.Prelude.{◌≡◌, ℕ, ◌+◌, ◌*◌, ◌≤◌, List, [], ◌∷◌, ◌++◌, length, map, take, drop, nat_eq, cond, slice_index_or}
use Rattle.std.specs.Prelude.{slice_range}
use Rattle.std.specs.List.{concat}

-- the pieces at these places of a block
abbrev pub in_order : List (List ℕ) → List ℕ → List (List ℕ)
in_order block order = map (λ place. slice_index_or block place []) order

-- how often a number is in a list
abbrev pub times : ℕ → List ℕ → ℕ
times n [] = 0
times n (x ∷ xs) = cond (nat_eq x n) 1 0 + times n xs

-- each place of a block of that many pieces, once
pub record IsOrder (count : ℕ) (order : List ℕ) : Type 0 where
  pub len : length order ≡ count
  pub once : (n : ℕ) → times n order ≤ 1
  pub within : (n : ℕ) → count ≤ n → times n order ≡ 0

-- the items from `mid` up to `end` before those from `from` up to `mid`
abbrev pub turned : {X : Type 0} → ℕ → ℕ → ℕ → List X → List X
turned from mid end xs = take from xs ++ ((slice_range xs mid end ++ slice_range xs from mid) ++ drop end xs)

-- the pieces in use, the text after them, and how many pieces there is memory for
pub record PiecesView : Type 0 where
  pub used : List (List ℕ)
  pub text : List ℕ
  pub room : ℕ

-- the bytes of the full pieces after those in use, and of the one that is being filled
abbrev pub text_behind : ℕ → ℕ → ℕ → List ℕ → List (List ℕ) → List ℕ
text_behind used at len last pieces = concat (drop used (take at pieces)) ++ take len last

pub record ArePieces (block : List (List ℕ)) (order : List ℕ) (block_room order_room room used at len : ℕ) (last : List ℕ) : Type 0 where
  pub order_is : IsOrder (length block) order
  pub used_le : used ≤ at
  pub at_le : at ≤ length order
  pub len_le : len ≤ 320
  pub counted : length (text_behind used at len last (in_order block order)) + 320 * used ≡ 320 * at + len
  pub in_block : room ≤ block_room
  pub in_numbers : room ≤ order_room
  pub few : room ≤ 4294967295
  pub few_before : at ≤ 4294967295
