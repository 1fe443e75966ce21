-- Which commands of gcc want a word that has the preprocessed text name its folder.
use Rattle.std.specs.Prelude.{ℕ, Bool, false, not, ◌&&◌, ◌||◌, nat_eq, List, [], ◌∷◌, codes}
use Rattle.std.specs.List.{list_any, starts_with}
use Rattle.whole_command.specs.Clang.{asks_debug}

-- The name of gcc or g++ begins at some place of the name.
abbrev pub is_gcc : List ℕ → Bool
is_gcc [] = false
is_gcc (byte ∷ bytes) =
    (starts_with nat_eq (byte ∷ bytes) (codes "gcc") || starts_with nat_eq (byte ∷ bytes) (codes "g++")) || is_gcc bytes

abbrev pub is_link_time : List ℕ → Bool
is_link_time word = starts_with nat_eq word (codes "-flto")

abbrev pub says_marks : List ℕ → Bool
says_marks word = starts_with nat_eq word (codes "-fworking-directory") || starts_with nat_eq word (codes "-fno-working-directory")

abbrev pub asks_link_time : List (List ℕ) → Bool
asks_link_time words = list_any is_link_time words

abbrev pub settles_marks : List (List ℕ) → Bool
settles_marks words = list_any says_marks words

-- gcc's command for link-time optimisation without debug information that doesn't say whether the text names its folder
abbrev pub needs_marks : List ℕ → List (List ℕ) → Bool
needs_marks driver words =
    is_gcc driver && (asks_link_time words && (not (asks_debug words) && not (settles_marks words)))
