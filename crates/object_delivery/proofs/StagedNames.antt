-- What a name that ends in `.farm~` is, and what the finished files are.
use Rattle.std.proofs.Common.{◌≡◌, ℕ, ◌-◌, Bool, true, false, cond, not, List, length, take, refl, ◌∙◌, sym, ap}
use Rattle.std.specs.Prelude.{Option, Some, None}
use Rattle.std.proofs.lemmas.Slice.Eq.{ends_is}
use Rattle.std.proofs.lemmas.Bool.Decides.{Decides-eqb}
use Rattle.std.specs.FinMap.{get, insert, remove}
use Rattle.file_map.specs.FileMaps.{Files}
use Rattle.edge_traits.specs.FileMaps.{IsStaged}
use Rattle.object_delivery.specs.Staging.{staged, ending, is_staged, finished, delivered}
use Rattle.file_map.proofs.FileLemmas.{same_files}
use Rattle.object_delivery.proofs.FileMapLemmas.{is_name, unless, one_name, at_insert, at_remove, at_retain}

pub is_staged-staged : (path : List ℕ) → is_staged (staged path) ≡ true
is_staged-staged path = (ends_is Decides-eqb (staged path) ending _ refl).1 path refl

pub is_staged-other : (path : List ℕ) → ¬ (IsStaged path) → is_staged path ≡ false
is_staged-other path other =
    elim (is_staged path) as (λ b. is_staged path ≡ b → is_staged path ≡ false) [
      | true ↦ λ is. absurd (other (take (length path - length ending) path, (ends_is Decides-eqb path ending _ refl).0 is))
      | false ↦ λ is. is
    ] refl

pub at_finished : (files : Files) (q : List ℕ) → get (finished files) q ≡ cond (not (is_staged q)) (get files q) None
at_finished files q = at_retain files (λ name. not (is_staged name)) q

-- a finished file is seen as it is
pub get-finished : (files : Files) (path : List ℕ) → ¬ (IsStaged path) → get (finished files) path ≡ get files path
get-finished files path other = at_finished files path ∙ ap (λ b. cond (not b) (get files path) None) (is_staged-other path other)

-- the path that is asked for is the one, or being written, or another
shown : (is being staging : Bool) (bytes content : Option (List ℕ)) → (is ≡ true → staging ≡ false)
    → (being ≡ true → staging ≡ true) → cond (not staging) (cond is bytes (unless being content)) None
    ≡ cond is bytes (cond (not staging) content None)
shown true being staging bytes content other same = ap (λ b. cond (not b) bytes None) (other refl)
shown false true staging bytes content other same = ap (λ b. cond (not b) None None) (same refl)
    ∙ ap (λ b. cond (not b) content None) (sym (same refl))
shown false false staging bytes content other same = refl

pub finished-delivered : (files : Files) (path bytes : List ℕ) → ¬ (IsStaged path)
    → finished (delivered files path bytes) ≡ insert (finished files) path bytes
finished-delivered files path bytes other = same_files _ _ (λ q.
    at_finished (delivered files path bytes) q
    ∙ ap (λ content. cond (not (is_staged q)) content None) (at_insert (remove files (staged path)) path bytes q
    ∙ ap (λ content. cond (is_name q path) (Some bytes) content) (at_remove files (staged path) q))
    ∙ shown (is_name q path) (is_name q (staged path)) (is_staged q) (Some bytes) (get files q)
    (λ is. ap is_staged (one_name q path is) ∙ is_staged-other path other)
    (λ being. ap is_staged (one_name q (staged path) being) ∙ is_staged-staged path)
    ∙ ap (λ content. cond (is_name q path) (Some bytes) content) (sym (at_finished files q))
    ∙ sym (at_insert (finished files) path bytes q))

hidden : (being staging : Bool) (content : Option (List ℕ)) → (being ≡ true → staging ≡ true)
    → cond (not staging) (unless being content) None ≡ cond (not staging) content None
hidden true staging content same = ap (λ b. cond (not b) None None) (same refl) ∙ ap (λ b. cond (not b) content None) (sym (same refl))
hidden false staging content same = refl

-- what is being written isn't among the finished files
pub finished-remove : (files : Files) (path : List ℕ) → finished (remove files (staged path)) ≡ finished files
finished-remove files path = same_files _ _ (λ q.
    at_finished (remove files (staged path)) q
    ∙ ap (λ content. cond (not (is_staged q)) content None) (at_remove files (staged path) q)
    ∙ hidden (is_name q (staged path)) (is_staged q) (get files q) (λ being. ap is_staged (one_name q (staged path) being)
    ∙ is_staged-staged path)
    ∙ sym (at_finished files q))

-- where no file but the one that is being written was changed, the finished files are the same
pub finished-same : (old new : Files) (path : List ℕ) → remove new (staged path) ≡ remove old (staged path) → finished new ≡ finished old
finished-same old new path same = sym (finished-remove new path) ∙ ap finished same ∙ finished-remove old path
