use Rattle.std.proofs.Common.{ℕ, List, ◌∷◌, [], get_or, ap}
use Rattle.object_cache.specs.Packs.{len_bytes}
use Rattle.object_cache.proofs.coding.text_head.Goals as goal

pub returns : goal.returns
unfolding len_bytes
returns c =
    ap (λ (xs : List ℕ). 0 ∷ (get_or xs 0 0 ∷ (get_or xs 1 0 ∷ (get_or xs 2 0 ∷ (get_or xs 3 0 ∷ []))))) c.to_be_bytes.ensures
