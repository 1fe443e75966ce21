-- The assembler's words that ask for a listing or for dependencies.
use Rattle.std.specs.Prelude.{ℕ, Bool, ◌||◌, nat_eq, List, [], ◌∷◌, codes}
use Rattle.std.specs.List.{starts_with}

-- whether the piece is somewhere in the word
abbrev pub holds : List ℕ → List ℕ → Bool
holds piece [] = starts_with nat_eq [] piece
holds piece (b ∷ bs) = starts_with nat_eq (b ∷ bs) piece || holds piece bs

abbrev pub is_listing : List ℕ → Bool
is_listing word = holds (codes ",-a") word || holds (codes "--MD") word
