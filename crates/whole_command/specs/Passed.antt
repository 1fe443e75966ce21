-- Which words for the preprocessor change more than its text.
use Rattle.std.specs.Prelude.{ℕ, Bool, false, not, ◌&&◌, ◌||◌, bytes_eq, nat_eq, List, [], ◌∷◌, codes}
use Rattle.std.specs.List.{list_any, starts_with}

-- macros, folders of headers, and dependency files
abbrev pub is_for_text : List ℕ → Bool
is_for_text word = starts_with nat_eq word (codes "-D") || (starts_with nat_eq word (codes "-U")
    || (starts_with nat_eq word (codes "-I") || starts_with nat_eq word (codes "-M")))

-- any other option
abbrev pub is_other : List ℕ → Bool
is_other word = starts_with nat_eq word (codes "-") && not (is_for_text word)

-- Some part after a comma is one.
abbrev pub has_other_part : List ℕ → Bool
has_other_part [] = false
has_other_part (byte ∷ bytes) = (nat_eq byte 44 && is_other bytes) || has_other_part bytes

abbrev pub passes_part : List ℕ → Bool
passes_part word = starts_with nat_eq word (codes "-Wp,") && has_other_part word

abbrev pub has_passing_part : List (List ℕ) → Bool
has_passing_part words = list_any passes_part words

-- The word is `-Xpreprocessor`, and the next one is such an option.
abbrev pub passes_first : List ℕ → List (List ℕ) → Bool
passes_first word [] = false
passes_first word (next ∷ words) = bytes_eq word (codes "-Xpreprocessor") && is_other next

abbrev pub passes_next : List (List ℕ) → Bool
passes_next [] = false
passes_next (word ∷ words) = passes_first word words || passes_next words

abbrev pub passes_option : List (List ℕ) → Bool
passes_option words = has_passing_part words || passes_next words
