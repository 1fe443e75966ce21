-- What the words after `--link` and `--run` ask for.
use Rattle.std.specs.Prelude.{ℕ, List, [], ◌∷◌, length, codes, not, ◌&&◌, nat_lt, nat_le, if◌then◌else◌, Bool, Option, None, Some}
use Rattle.std.specs.List.{before_first, after_first}
use Rattle.std.specs.Str.{bytes_eq}
use Rattle.farm_types.specs.Limits.{jobs_max}
use Rattle.arg_scan.specs.Names.{is_reserved}

-- the most files that are linked
abbrev pub link_max : ℕ
link_max = jobs_max

-- the word before the image's name
abbrev pub is_output : List ℕ → Bool
is_output word = bytes_eq word (codes "-o")

-- these files, and the image's name, which is the one word after the first `-o`
abbrev pub link_of : List (List ℕ) → List (List ℕ) → Option (List (List ℕ) × List ℕ)
link_of files [] = None
link_of files (image ∷ []) = if nat_lt 0 (length files) && nat_le (length files) link_max && not (is_reserved image) then Some
    (files, image) else None
link_of files (image ∷ other ∷ more) = None

-- what the words after `--link` ask for: 1 to `link_max` files, `-o`, and a name that doesn't end in `.farm~`
abbrev pub link_form : List (List ℕ) → Option (List (List ℕ) × List ℕ)
link_form words = link_of (before_first is_output words) (after_first is_output words)

-- what the words after `--run` ask for: an image
abbrev pub run_form : List (List ℕ) → Option (List ℕ)
run_form [] = None
run_form (image ∷ []) = Some image
run_form (image ∷ other ∷ more) = None
