-- Entries by their places.
use Rattle.std.proofs.Common.{◌≡◌, ℕ, suc, ◌+◌, ◌<◌, ◌≤◌, Bool, true, false, cond, List, [], ◌∷◌, ◌++◌, length, get_or, take, drop}
use Rattle.std.proofs.Common.{Option, Some, None, refl, ap, sym, ◌∙◌, subst, arith}
use Rattle.std.specs.Prelude.{◌==◌, All, IsTrue, ◌↔◌}
use Rattle.std.proofs.Math.Seq.{drop-cons}
use Rattle.std.proofs.lemmas.List.{take_more, take-append-drop, nil_from_length}
use Rattle.std.proofs.lemmas.List.Elements.{All-nil, All-cons}
use Rattle.std.proofs.lemmas.Bool.{eqb-true}
use Rattle.serde_json.specs.Data.{Data}
use Rattle.std.specs.Str.{IsUtf8, is_utf8}
use Rattle.std.specs.List.{list_all}
use Rattle.std.proofs.lemmas.List.Sums.{AllPass-from_list_all, list_all-from_AllPass}
use Rattle.std.proofs.lemmas.Str.{is_utf8-from_IsUtf8, IsUtf8-from_is_utf8}
use Rattle.job_list.specs.Prints.{AreJobWords, ArePrintable}
use Rattle.compile_database.specs.declared.fault.DatabaseError.{DatabaseError}
use Rattle.compile_database.specs.declared.fault.DatabaseError.TheVariants.{Fault, Memory}
use Rattle.compile_database.specs.declared.fault.DatabaseFault.{DatabaseFault}
use Rattle.compile_database.specs.Entries.{folder_of}
use Rattle.compile_database.specs.Choices.{NoneIs, is_placeless, is_none, places_from, chosen_folder}
use Rattle.compile_database.specs.Databases.{EntryAt, AreEntries, IsBadEntry, HasBadEntry, IsError}

-- no entry can be without a folder where each has one
pub no_folder_chosen : (named : Option (List ℕ)) (entries : List Data) → NoneIs is_placeless entries
    → chosen_folder named entries ≡ None → (named ≡ None) × (entries ≡ [])
no_folder_chosen (Some folder) entries placed none = absurd cc
no_folder_chosen None [] placed none = (refl, refl)
no_folder_chosen None (d ∷ ds) placed none = absurd (by (folder_of d) none placed)
  where
    by : (folder : Option (List ℕ)) → folder ≡ None
        → cond (is_none folder) (0 ∷ places_from 1 is_placeless ds) (places_from 1 is_placeless ds) ≡ [] → ⊥
    by (Some folder) e h = cc
    by None e h = cc

-- one entry more
pub entries_more : (entries : List Data) (places : List ℕ) (jobs : List (List (List ℕ))) (place : ℕ) (job : List (List ℕ))
    → AreEntries entries places jobs → EntryAt entries place job → AreEntries entries (places ++ place ∷ []) (jobs ++ job ∷ [])
entries_more entries [] [] place job h one = (one, tt)
entries_more entries [] (j ∷ js) place job h one = absurd h
entries_more entries (p ∷ ps) [] place job h one = absurd h
entries_more entries (p ∷ ps) (j ∷ js) place job h one = (h.0, entries_more entries ps js place job h.1 one)

-- the place behind those that were read is bad
pub bad_at : {fault : DatabaseFault} (entries : List Data) (places : List ℕ) (jobs : List (List (List ℕ))) (i : ℕ) (d : ℕ)
    → i < length places → AreEntries entries (take i places) jobs → IsBadEntry entries (get_or places i d) fault
    → HasBadEntry entries places fault
bad_at entries places jobs i d lt right wrong = let drop_here : drop i places ≡ get_or places i d ∷ drop (i + 1) places =
    (let on : i + 1 ≡ suc i = omega arith in drop-cons places i d lt ∙ ap (λ n. get_or places i d ∷ drop n places) (sym on)) in record {
      before = take i places;
      place = get_or places i d;
      after = drop (i + 1) places;
      jobs = jobs;
      split = sym (take-append-drop i places) ∙ ap (λ t. take i places ++ t) (drop_here);
      right = right;
      wrong = wrong;
    }

-- the words of entries can all be jobs
pub entries_are_jobs : (entries : List Data) (places : List ℕ) (jobs : List (List (List ℕ))) → AreEntries entries places jobs
    → All AreJobWords jobs
entries_are_jobs entries [] [] h = All-nil AreJobWords
entries_are_jobs entries [] (j ∷ js) h = absurd h
entries_are_jobs entries (p ∷ ps) [] h = absurd h
entries_are_jobs entries (p ∷ ps) (j ∷ js) h = All-cons AreJobWords j js h.0.job (entries_are_jobs entries ps js h.1)

-- the next entry was read
pub next_entry : (entries : List Data) (places : List ℕ) (jobs new : List (List (List ℕ))) (i d : ℕ) (job : List (List ℕ))
    → i < length places → AreEntries entries (take i places) jobs → EntryAt entries (get_or places i d) job → new ≡ jobs ++ job ∷ []
    → AreEntries entries (take (i + 1) places) new
next_entry entries places jobs new i d job lt right one is =
    let more = entries_more entries (take i places) jobs (get_or places i d) job right one in
    subst (λ t. AreEntries entries t new) (sym (take_more places i d lt))
    (subst (λ t. AreEntries entries (take i places ++ get_or places i d ∷ []) t) (sym is) more)

-- words that can be a job
pub job_words : (words : List (List ℕ)) → 1 ≤ length words → ArePrintable words → list_all is_utf8 words ≡ true → AreJobWords words
job_words words some printable utf8 = record {
  some = some;
  printable = printable;
  utf8 = λ k d lt. IsUtf8-from_is_utf8 (get_or words k d) (AllPass-from_list_all is_utf8 words utf8 k d lt);
}

pub utf8_words : (words : List (List ℕ)) → AreJobWords words → list_all is_utf8 words ≡ true
utf8_words words h = list_all-from_AllPass is_utf8 words (λ k d lt. is_utf8-from_IsUtf8 (get_or words k d) (h.utf8 k d lt))

-- what is so of each fault is so of an error
pub error_map : {P Q : DatabaseFault → Type 0} → ((fault : DatabaseFault) → P fault → Q fault) → (error : DatabaseError)
    → IsError P error → IsError Q error
error_map f (Fault fault) h = f fault h
error_map f Memory h = tt

-- a list whose length is 0 is empty
pub nil_from_test : {X : Type 0} (xs : List X) → (length xs == 0) ≡ true → xs ≡ []
nil_from_test xs h = nil_from_length xs (eqb-true (length xs) 0 h)

pub some_from_test : {X : Type 0} (xs : List X) → false ≡ (length xs == 0) → 1 ≤ length xs
some_from_test [] h = absurd cc
some_from_test (x ∷ xs) h = omega arith

-- a test for UTF-8 is the test
pub utf8_test : (b : Bool) (word : List ℕ) → (IsTrue b ↔ IsUtf8 word) → b ≡ is_utf8 word
utf8_test true word h = sym (is_utf8-from_IsUtf8 word (h.0 refl))
utf8_test false word h = by (is_utf8 word) refl
  where
    by : (test : Bool) → is_utf8 word ≡ test → false ≡ is_utf8 word
    by true e = absurd (let f = h.1 (IsUtf8-from_is_utf8 word e) in cc)
    by false e = sym e

pub not_nil_from_test : {X : Type 0} (xs : List X) → false ≡ (length xs == 0) → xs ≡ [] → ⊥
not_nil_from_test [] h e = cc
not_nil_from_test (x ∷ xs) h e = cc
