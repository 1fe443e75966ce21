-- A list of files without one of its paths.
use Rattle.std.proofs.Common.{◌≡◌, ℕ, Bool, true, false, cond, not, List, [], ◌∷◌, map, refl, ◌∙◌, sym, ap, subst}
use Rattle.std.specs.Prelude.{None, nat_eq}
use Rattle.std.specs.Ordering.{nat_cmp, eq_by_cmp}
use Rattle.std.specs.Cmp.{eq_by_cmp_equiv}
use Rattle.std.specs.Cmp.Lexicographic.{slice_cmp, nat_list_cmp_total, texts_ties}
use Rattle.std.specs.FinMap.{from_entries, get, remove, same_map, find, get-from_entries, get-remove, slice_cmp-IsAntisymmetric}
use Rattle.std.specs.FinMap.{nat_cmp-IsAntisymmetric}
use Rattle.std.specs.FinMap.Entries.{where_key, find-where_key}
use Rattle.std.specs.List.Retain.{IsFiltered}
use Rattle.std.specs.List.{filter, IsDistinct, AllByRecursion}
use Rattle.file_map.specs.FileMaps.{EachOnce}
use lib.Pointwise.{pointwise}
use Rattle.std.proofs.lemmas.Fn.{filter_same}

-- the path is another one
abbrev pub is_other : List ℕ → List ℕ → Bool
is_other path key = not (eq_by_cmp (slice_cmp nat_cmp) path key)

turned : {A : Type 0} (b c : Bool) (x y : A) → b ≡ c → cond (not b) x y ≡ cond c y x
turned b c x y same = ap (λ d. cond (not d) x y) same ∙ elim c as (λ d. cond (not d) x y ≡ cond d y x) [ true ↦ refl | false ↦ refl ]

left_at : (path q : List ℕ) (files : List (List ℕ × List ℕ))
    → get (from_entries {R = slice_cmp nat_cmp} (where_key (slice_cmp nat_cmp) (is_other path) files)) q
    ≡ get (remove (from_entries {R = slice_cmp nat_cmp} files) path) q
left_at path q files =
    get-from_entries nat_list_cmp_total (where_key (slice_cmp nat_cmp) (is_other path) files) q
    ∙ find-where_key (slice_cmp nat_cmp) (is_other path) q
    (λ x tie. ap (is_other path) (sym (slice_cmp-IsAntisymmetric nat_cmp-IsAntisymmetric q x tie))) files
    ∙ turned _ _ (find (slice_cmp nat_cmp) q files) None ((eq_by_cmp_equiv nat_list_cmp_total).symm path q)
    ∙ ap (λ found. cond (eq_by_cmp (slice_cmp nat_cmp) q path) None found) (sym (get-from_entries nat_list_cmp_total files q))
    ∙ sym (get-remove nat_list_cmp_total (from_entries files) path q)

-- a test of texts says whether the path is another one
pub tests_other : (path key : List ℕ) → not (pointwise nat_eq key path) ≡ is_other path key
tests_other path key = ap (λ b. not b) (texts_ties key path ∙ (eq_by_cmp_equiv nat_list_cmp_total).symm key path)

others_filtered : (keep : List ℕ × List ℕ → Bool) (first : List ℕ) (files : List (List ℕ × List ℕ))
    → AllByRecursion (λ other. pointwise nat_eq first other ≡ false) (map (λ file. file.0) files)
    → AllByRecursion (λ other. pointwise nat_eq first other ≡ false) (map (λ file. file.0) (filter keep files))
others_filtered keep first [] all = all
others_filtered keep first (file ∷ files) all =
    elim (keep file) as (λ b. AllByRecursion (λ other. pointwise nat_eq first other ≡ false)
    (map (λ f. f.0) (cond b (file ∷ filter keep files) (filter keep files)))) [
      | true ↦ (all.0, others_filtered keep first files all.1)
      | false ↦ others_filtered keep first files all.1
    ]

-- some of the files, each path once
once_filtered : (keep : List ℕ × List ℕ → Bool) (files : List (List ℕ × List ℕ))
    → IsDistinct (pointwise nat_eq) (map (λ file. file.0) files) → IsDistinct (pointwise nat_eq) (map (λ file. file.0) (filter keep files))
unfolding IsDistinct
once_filtered keep [] once = once
once_filtered keep (file ∷ files) once =
    elim (keep file) as (λ b. IsDistinct (pointwise nat_eq) (map (λ f. f.0) (cond b (file ∷ filter keep files) (filter keep files)))) [
      | true ↦ (others_filtered keep file.0 files once.0, once_filtered keep files once.1)
      | false ↦ once_filtered keep files once.1
    ]

module _ {F : Type 0} (R : F → List ℕ × List ℕ → Bool → F → Type 0) (path : List ℕ) (f : F)
    (says : (file : List ℕ × List ℕ) (b : Bool) (f' : F) → R f file b f' → (b ≡ not (pointwise nat_eq file.0 path)) × (f' ≡ f))
    (files left : List (List ℕ × List ℕ)) (kept : IsFiltered R f files left) where
  are_left : left ≡ filter (λ file. is_other path file.0) files
  are_left = filter_same R (λ file. is_other path file.0) f
      (λ file b f' called. ((says file b f' called).0 ∙ tests_other path file.0, (says file b f' called).1)) files left kept

  -- The files whose paths are others are the map without the path.
  pub removed : from_entries {R = slice_cmp nat_cmp} left ≡ remove (from_entries files) path
  removed =
      ap (λ fs. from_entries {R = slice_cmp nat_cmp} fs) are_left
      ∙ same_map nat_list_cmp_total (slice_cmp-IsAntisymmetric nat_cmp-IsAntisymmetric) _ _ (λ q. left_at path q files)

  -- and each of them stands once
  pub once_left : EachOnce files → EachOnce left
  once_left once = subst EachOnce (sym are_left) (once_filtered (λ file. is_other path file.0) files once)
