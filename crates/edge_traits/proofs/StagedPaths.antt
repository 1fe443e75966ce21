-- Paths that end in `.farm~`.
use Rattle.std.proofs.Common.{◌≡◌, ◌∙◌, ℕ, ◌-◌, true, List, [], ◌∷◌, ◌++◌, length, take, drop, sym, ap, take-append-drop}
use Rattle.std.proofs.lemmas.List.Prefix.{end_rest}
use Rattle.std.proofs.lemmas.Cmp.{nat_list_eq_equiv}
use Rattle.std.specs.Prelude.{nat_eq}
use Rattle.std.specs.List.{ends_with}
use Rattle.std.specs.Cmp.Lexicographic.{same_text}
use lib.Pointwise.{pointwise}
use Rattle.edge_traits.specs.FileMaps.{IsStaged}

abbrev ending : List ℕ
ending = 46 ∷ 102 ∷ 97 ∷ 114 ∷ 109 ∷ 126 ∷ []

-- what a test of the end says of the path
pub staged_from : (path : List ℕ) → ends_with nat_eq path ending ≡ true → IsStaged path
staged_from path same = (
  take (length path - 6) path,
  sym (take-append-drop (length path - 6) path)
      ∙ ap (λ rest. take (length path - 6) path ++ rest) (sym (same_text ending (drop (length path - 6) path) (sym same))),
)

-- and the path of the test
pub staged_to : (path : List ℕ) → IsStaged path → ends_with nat_eq path ending ≡ true
staged_to path staged = ap (λ rest. pointwise nat_eq ending rest) (end_rest path ending staged.0 staged.1) ∙ nat_list_eq_equiv.refl ending
