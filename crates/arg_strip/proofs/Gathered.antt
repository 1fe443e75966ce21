-- One more word of the words that are gathered.
use Rattle.std.proofs.Common.{◌≡◌, ℕ, suc, ◌+◌, ◌<◌, List, [], ◌∷◌, ◌++◌, length, get_or, Option, Some, None, sym, ◌∙◌, ap, append_assoc}
use Rattle.std.proofs.Common.{arith}
use Rattle.std.specs.Option.{option_to_list}
use Rattle.option_table.specs.declared.row.Effect.{Effect}
use Rattle.arg_scan.specs.declared.part.Part.{Part}
use Rattle.arg_scan.specs.Roles.{owner_at, part_at, part_of, word_at}
use Rattle.arg_strip.specs.Words.{gather}

abbrev at_place : {A : Type 0} → (Part → List ℕ → Option A) → List (List ℕ) → ℕ → Option A
at_place pick words at = pick (part_at words at) (word_at words at)

gather-next : {A : Type 0} (f : ℕ → Option A) (n : ℕ) → gather f (n + 1) ≡ gather f n ++ option_to_list (f n)
gather-next f n = ap (gather f) (one n)
  where
    one : (n : ℕ) → n + 1 ≡ suc n
    one n = omega arith

-- what is picked at a place, by what the loop knows of it
picked_is : {A : Type 0} (pick : Part → List ℕ → Option A) (words : List (List ℕ)) (n : ℕ) (owner : Option Effect) (word : List ℕ)
    (part : Part) → part ≡ part_of owner n word → owner ≡ owner_at words n → word ≡ word_at words n
    → pick part word ≡ pick (part_at words n) (word_at words n)
picked_is pick words n owner word part p e f =
    ap (λ q. pick q word) p
    ∙ ap (λ o. pick (part_of o n word) word) e
    ∙ ap (λ w. pick (part_of (owner_at words n) n w) w) f

pub gathered : {A : Type 0} (pick : Part → List ℕ → Option A) (words : List (List ℕ)) (n : ℕ) (owner : Option Effect)
    (word : List ℕ) (part : Part) (before after : List A) (x : Option A) → part ≡ part_of owner n word → owner ≡ owner_at words n
    → word ≡ word_at words n → x ≡ pick part word → before ≡ gather (at_place pick words) n → after ≡ before ++ option_to_list x
    → after ≡ gather (at_place pick words) (n + 1)
gathered pick words n owner word part before after x p e f picked front is =
    is ∙ ap (λ l. l ++ option_to_list x) front
    ∙ ap (λ o. gather (at_place pick words) n ++ option_to_list o) (picked ∙ picked_is pick words n owner word part p e f)
    ∙ sym (gather-next (at_place pick words) n)

-- two items added one after the other
pub two_more : {A : Type 0} (front front' mid last : List A) (x x' y y' : A) → front ≡ front' → x ≡ x' → y ≡ y'
    → mid ≡ front ++ x ∷ [] → last ≡ mid ++ y ∷ [] → last ≡ front' ++ x' ∷ y' ∷ []
two_more front front' mid last x x' y y' f e g first second =
    second ∙ ap (λ l. l ++ y ∷ []) first ∙ append_assoc front (x ∷ []) (y ∷ [])
    ∙ ap (λ l. l ++ x ∷ y ∷ []) f
    ∙ ap (λ a. front' ++ a ∷ y ∷ []) e
    ∙ ap (λ a. front' ++ x' ∷ a ∷ []) g
