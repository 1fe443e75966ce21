-- Which programs are drivers of gcc or clang, by their names.
use Rattle.std.specs.Prelude.{ℕ, ◌==◌, nat_le, Bool, false, ◌&&◌, ◌||◌, nat_eq, List, [], ◌∷◌, length, drop, codes}
use Rattle.std.specs.List.{list_any, list_all, starts_with}

abbrev pub drivers : List (List ℕ)
drivers = codes "gcc" ∷ codes "cc" ∷ codes "g++" ∷ codes "c++" ∷ codes "clang" ∷ codes "clang++" ∷ []

-- a digit, a point or a dash
abbrev pub is_version_byte : ℕ → Bool
is_version_byte b = (nat_le 48 b && nat_le b 57) || (b == 45) || (b == 46)

-- a driver's name, and after it a version or nothing
unfoldable pub is_driver_tail : List ℕ → Bool
is_driver_tail tail = list_any (λ name. starts_with nat_eq tail name && list_all is_version_byte (drop (length name) tail)) drivers

-- it begins after a `/` or a `-`
abbrev pub has_driver_tail : List ℕ → Bool
has_driver_tail [] = false
has_driver_tail (b ∷ bs) = (((b == 47) || (b == 45)) && is_driver_tail bs) || has_driver_tail bs

-- Its last part is such a name, with or without a target's name and a dash before it.
abbrev pub is_driver : List ℕ → Bool
is_driver program = is_driver_tail program || has_driver_tail program
