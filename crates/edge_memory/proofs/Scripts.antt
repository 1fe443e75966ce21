-- What a script has given so far.
use Rattle.std.proofs.Common.{◌≡◌, ℕ, ◌+◌, ◌-◌, ◌≤◌, List, ◌++◌, length, take, drop, take-append-drop, drop-drop, ap, sym, ◌∙◌, arith}
use Rattle.std.proofs.lemmas.Grind.{common_steps}
use Rattle.std.proofs.Math.Seq.{take-add}
use Rattle.edge_traits.specs.Told.{Grew, told}
use Rattle.edge_traits.specs.Sources.{Lost}

-- n bytes behind the first `at` are put in front of the room: the script has given n bytes more
pub gives_more : (gives room : List ℕ) (at n : ℕ) (piece : List ℕ) → at + n ≤ length gives
    → piece ≡ take (at + n - at) (drop at gives) → take (length piece) room ≡ piece
    → Grew (told (take at gives)) (told (take (at + n) gives)) (take n room)
gives_more gives room at n piece fits is put =
    let same : at + n - at ≡ n = omega arith in
    let long : length piece ≡ n = grind (arith, common_steps) in
    let here : take n room ≡ take n (drop at gives) = grind (arith, common_steps) in
    record { known = λ k. k; grew = λ k. take-add at n gives ∙ ap (λ zs. take at gives ++ zs) (sym here) }

-- and n bytes fewer are left
pub leaves_less : (gives room : List ℕ) (at n : ℕ) (piece : List ℕ) → at + n ≤ length gives
    → piece ≡ take (at + n - at) (drop at gives) → take (length piece) room ≡ piece
    → Lost (told (drop at gives)) (told (drop (at + n) gives)) (take n room)
leaves_less gives room at n piece fits is put =
    let same : at + n - at ≡ n = omega arith in
    let long : length piece ≡ n = grind (arith, common_steps) in
    let here : take n room ≡ take n (drop at gives) = grind (arith, common_steps) in
    record {
      known = λ k. k;
      lost = λ k. sym (take-append-drop n (drop at gives))
          ∙ ap (λ zs. take n (drop at gives) ++ zs) (drop-drop n at gives) ∙ ap (λ zs. zs ++ drop (at + n) gives) (sym here);
    }
