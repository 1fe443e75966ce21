-- Files as a map: what one write or removal after another gives.
use Rattle.std.proofs.Common.{◌≡◌, ℕ, Bool, true, false, cond, not, List, refl, ◌∙◌, sym, ap, append_assoc, append-nil}
use lib.Pointwise.{pointwise}
use Rattle.std.specs.Prelude.{nat_eq, Option, Some, None, ◌++◌, [], unwrap_or}
use Rattle.std.specs.Ordering.{nat_cmp, eq_by_cmp, is_eq}
use Rattle.std.specs.declared.cmp.Ordering.TheVariants.{Less, Equal, Greater}
use Rattle.std.specs.Cmp.{eq_by_cmp_equiv}
use Rattle.std.specs.Cmp.Lexicographic.{slice_cmp, nat_list_cmp_total, texts_ties}
use Rattle.std.specs.FinMap.{get, insert, remove, retain_keys, get-insert, get-remove, get-retain_keys, slice_cmp-IsAntisymmetric}
use Rattle.std.specs.FinMap.{nat_cmp-IsAntisymmetric}
use Rattle.file_map.specs.FileMaps.{Files}
use Rattle.file_map.proofs.FileLemmas.{same_files, put-put}
use Rattle.object_delivery.specs.FileViews.{content_of, appended, with_moved, moved_file}
use Rattle.object_delivery.specs.Staging.{HasFile}

-- the names are one
abbrev pub is_name : List ℕ → List ℕ → Bool
is_name q name = eq_by_cmp (slice_cmp nat_cmp) q name

-- of a value that is dropped where a test holds
abbrev pub unless : Bool → Option (List ℕ) → Option (List ℕ)
unless test content = cond test None content

pub one_name : (q name : List ℕ) → is_name q name ≡ true → q ≡ name
one_name q name is =
    elim (slice_cmp nat_cmp q name) as (λ o. slice_cmp nat_cmp q name ≡ o → is_eq o ≡ true → q ≡ name) [
      | Less ↦ λ p e. cc
      | Equal ↦ λ p e. slice_cmp-IsAntisymmetric nat_cmp-IsAntisymmetric q name p
      | Greater ↦ λ p e. cc
    ] refl is

pub same_name : (name : List ℕ) → is_name name name ≡ true
same_name name = (eq_by_cmp_equiv nat_list_cmp_total).refl name

pub at_insert : (files : Files) (name bytes q : List ℕ) → get (insert files name bytes) q ≡ cond (is_name q name) (Some bytes) (get files q)
at_insert files name bytes q = get-insert nat_list_cmp_total files name bytes q

pub at_remove : (files : Files) (name q : List ℕ) → get (remove files name) q ≡ unless (is_name q name) (get files q)
at_remove files name q = get-remove nat_list_cmp_total files name q

pub at_retain : (files : Files) (test : List ℕ → Bool) (q : List ℕ) → get (retain_keys files test) q ≡ cond (test q) (get files q) None
at_retain files test q = get-retain_keys files test q (λ x tie. ap test (sym (slice_cmp-IsAntisymmetric nat_cmp-IsAntisymmetric q x tie)))

-- a file that was just written
pub at_written : (files : Files) (name bytes : List ℕ) → get (insert files name bytes) name ≡ Some bytes
at_written files name bytes = at_insert files name bytes name ∙ ap (λ b. cond b (Some bytes) (get files name)) (same_name name)

-- a removal after a write
pub remove-insert : (files : Files) (name bytes : List ℕ) → remove (insert files name bytes) name ≡ remove files name
remove-insert files name bytes = same_files _ _ (λ q.
    at_remove (insert files name bytes) name q
    ∙ ap (λ content. unless (is_name q name) content) (at_insert files name bytes q)
    ∙ elim (is_name q name) as (λ b. unless b (cond b (Some bytes) (get files q)) ≡ unless b (get files q)) [ true ↦ refl | false ↦ refl ]
    ∙ sym (at_remove files name q))

pub remove-remove : (files : Files) (name : List ℕ) → remove (remove files name) name ≡ remove files name
remove-remove files name = same_files _ _ (λ q.
    at_remove (remove files name) name q
    ∙ ap (λ content. unless (is_name q name) content) (at_remove files name q)
    ∙ elim (is_name q name) as (λ b. unless b (unless b (get files q)) ≡ unless b (get files q)) [ true ↦ refl | false ↦ refl ]
    ∙ sym (at_remove files name q))

-- bytes are added to those that were just written
pub appended-insert : (files : Files) (name first second : List ℕ)
    → appended (insert files name first) name second ≡ insert files name (first ++ second)
appended-insert files name first second =
    ap (λ content. insert (insert files name first) name (unwrap_or content [] ++ second)) (at_written files name first)
    ∙ put-put files name first (first ++ second)

-- what was just written
pub content-insert : (files : Files) (name bytes : List ℕ) → content_of (insert files name bytes) name ≡ bytes
content-insert files name bytes = ap (λ content. unwrap_or content []) (at_written files name bytes)

-- nothing is added to a file that is there
pub appended-nil : (files : Files) (name : List ℕ) → HasFile files name → files ≡ appended files name []
appended-nil files name file =
    let same : content_of files name ++ [] ≡ file.content = append-nil (content_of files name)
    ∙ ap (λ content. unwrap_or content []) file.there in
    sym (ap (λ bytes. insert files name bytes) same ∙ same_files _ _ (λ q.
    at_insert files name file.content q
    ∙ elim (is_name q name) as (λ b. is_name q name ≡ b → cond b (Some file.content) (get files q) ≡ get files q) [
      | true ↦ λ is. sym (ap (λ x. get files x) (one_name q name is) ∙ file.there)
      | false ↦ λ is. refl
    ] refl))

-- bytes are added, and then others
pub appended-appended : (files : Files) (name first second : List ℕ)
    → appended (appended files name first) name second ≡ appended files name (first ++ second)
appended-appended files name first second =
    appended-insert files name (content_of files name ++ first) second
    ∙ ap (λ bytes. insert files name bytes) (append_assoc (content_of files name) first second)

-- a removal after bytes were added
pub remove-appended : (files : Files) (name bytes : List ℕ) → remove (appended files name bytes) name ≡ remove files name
remove-appended files name bytes = remove-insert files name (content_of files name ++ bytes)

-- a file that was just written gets another name
pub moved_file-insert : (files : Files) (from to bytes : List ℕ)
    → moved_file (insert files from bytes) from to ≡ insert (remove files from) to bytes
moved_file-insert files from to bytes =
    ap (λ content. with_moved (insert files from bytes) from to content) (at_written files from bytes)
    ∙ ap (λ left. insert left to bytes) (remove-insert files from bytes)

-- what a test of two texts says of them as names
pub named : (p q from to : List ℕ) (test : Bool) → test ≡ not (pointwise nat_eq p q) → p ≡ from → q ≡ to → is_name from to ≡ not test
named p q from to test is first second =
    sym (texts_ties from to) ∙ ap (λ a. pointwise nat_eq a to) (sym first) ∙ ap (λ b. pointwise nat_eq p b) (sym second)
    ∙ elim (pointwise nat_eq p q) as (λ b. test ≡ not b → b ≡ not test) [
      | true ↦ λ e. ap (λ b. not b) (sym e)
      | false ↦
          λ e. ap (λ b. not b) (sym e)
    ] is

-- a file that is there has its content under the other name
pub moved_file-there : (files : Files) (from to content : List ℕ) → get files from ≡ Some content
    → moved_file files from to ≡ insert (remove files from) to content
moved_file-there files from to content there = ap (λ found. with_moved files from to found) there

-- a write under a name that is taken away
pub insert-remove : (files : Files) (name content : List ℕ) → insert (remove files name) name content ≡ insert files name content
insert-remove files name content = same_files _ _ (λ q.
    at_insert (remove files name) name content q
    ∙ ap (λ found. cond (is_name q name) (Some content) found) (at_remove files name q)
    ∙ elim (is_name q name) as (λ b. cond b (Some content) (unless b (get files q)) ≡ cond b (Some content) (get files q))
    [ true ↦ refl | false ↦ refl ]
    ∙ sym (at_insert files name content q))

swapped : (away put : Bool) (bytes content : Option (List ℕ)) → (away ≡ true → put ≡ false)
    → unless away (cond put bytes content) ≡ cond put bytes (unless away content)
swapped true put bytes content other = sym (ap (λ b. cond b bytes None) (other refl))
swapped false put bytes content other = refl

-- a write and a removal under two names
pub remove-insert_other : (files : Files) (from to content : List ℕ) → is_name from to ≡ false
    → remove (insert files to content) from ≡ insert (remove files from) to content
remove-insert_other files from to content other = same_files _ _ (λ q.
    at_remove (insert files to content) from q
    ∙ ap (λ found. unless (is_name q from) found) (at_insert files to content q)
    ∙ swapped (is_name q from) (is_name q to) (Some content) (get files q)
    (λ same. ap (λ name. is_name name to) (one_name q from same) ∙ other)
    ∙ ap (λ found. cond (is_name q to) (Some content) found) (sym (at_remove files from q))
    ∙ sym (at_insert (remove files from) to content q))

-- the content was put under another name, and then the old name taken away
pub moved-away : (files : Files) (from to content : List ℕ) → get files from ≡ Some content → is_name from to ≡ false
    → remove (insert files to content) from ≡ moved_file files from to
moved-away files from to content there other = remove-insert_other files from to content other
    ∙ sym (moved_file-there files from to content there)

-- the content was put under its own name
pub moved-nowhere : (files : Files) (from to content : List ℕ) → get files from ≡ Some content → is_name from to ≡ true
    → insert files to content ≡ moved_file files from to
moved-nowhere files from to content there same =
    sym (moved_file-there files from to content there ∙ ap (λ name. insert (remove files name) to content) (one_name from to same)
    ∙ insert-remove files to content)
