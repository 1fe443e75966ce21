-- The folders of a compiler's own parts.
use Rattle.std.specs.Prelude.{ℕ, ◌==◌, Bool, true, not, ◌&&◌, ◌||◌, nat_eq, List, [], ◌∷◌, length, drop, codes}
use Rattle.std.specs.List.{list_any, starts_with, ends_with}
use Rattle.allowed_options.specs.Spellings.{folder_fronts}

-- the path ends here, or its next part begins
abbrev pub is_part_end : List ℕ → Bool
is_part_end [] = true
is_part_end (b ∷ bs) = b == 47

-- its first part is `..`
unfoldable pub begins_parent : List ℕ → Bool
begins_parent path = starts_with nat_eq path (codes "..") && is_part_end (drop 2 path)

-- no part after a `/` is `..`
abbrev pub stays_below : List ℕ → Bool
stays_below [] = true
stays_below (b ∷ bs) = (not (b == 47) || not (begins_parent bs)) && stays_below bs

-- an absolute path that doesn't end in `/`, without a part `..`
abbrev pub is_tool_folder : List ℕ → Bool
is_tool_folder path = starts_with nat_eq path (codes "/") && not (ends_with nat_eq path (codes "/")) && stays_below path

-- the path is the folder, or begins with all its parts
abbrev pub is_below : List ℕ → List ℕ → Bool
is_below folder path = starts_with nat_eq path folder && is_part_end (drop (length folder) path)

-- one of the folders of tools, or a path below one
abbrev pub is_in_tools : List (List ℕ) → List ℕ → Bool
is_in_tools tools path = stays_below path && list_any (λ tool. is_below tool path) tools

-- an option with such a path in the same word
unfoldable pub names_tools : List (List ℕ) → List ℕ → Bool
names_tools tools word = list_any (λ front. starts_with nat_eq word front && is_in_tools tools (drop (length front) word)) folder_fronts
