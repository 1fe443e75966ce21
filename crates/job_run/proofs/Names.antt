-- The class of a command that may be sent, and the names of its files.
use Rattle.std.proofs.Common.{◌≡◌, ℕ, zero, suc, ◌-◌, ◌<◌, Bool, true, false, if◌then◌else◌, List, [], ◌∷◌, ◌++◌, length, take, drop}
use Rattle.std.proofs.Common.{take-append-drop, Option, None, Some, nat_eq, nat_lt, refl, sym, ap, ◌∙◌, subst, arith, append_assoc}
use Rattle.std.specs.Prelude.{IsTrue, codes, bytes_eq, unwrap_or}
use Rattle.std.specs.List.{slice_get, list_any, find, starts_with, ends_with}
use Rattle.std.specs.Option.{option_or}
use Rattle.std.specs.Cmp.Lexicographic.{same_text}
use Rattle.std.proofs.lemmas.Bool.{false≢true, and_parts}
use Rattle.farm_types.specs.declared.placed.Ext.{Ext}
use Rattle.farm_types.specs.declared.jobs.JobConfig.{JobConfig}
use Rattle.edge_traits.specs.FileMaps.{IsStaged}
use Rattle.edge_traits.proofs.StagedPaths.{staged_to}
use Rattle.option_table.specs.declared.row.Effect.{Effect}
use Rattle.option_table.specs.declared.table.Found.{Found}
use Rattle.option_table.specs.Rows.{found}
use Rattle.option_table.specs.Gcc.{gcc_rows}
use Rattle.arg_scan.specs.declared.why.Why.TheVariants as why
use Rattle.arg_scan.specs.declared.names.Ending.{Ending}
use Rattle.arg_scan.specs.declared.names.Ending.TheVariants.{C, Cc, Cpp, Cxx, CapitalC, I, Ii}
use Rattle.arg_scan.specs.declared.part.Role.{Role}
use Rattle.arg_scan.specs.declared.part.Role.TheVariants as role
use Rattle.arg_scan.specs.declared.part.Part.TheVariants as part
use Rattle.arg_scan.specs.declared.class.Scan.{Scan}
use Rattle.arg_scan.specs.declared.class.Scan.TheVariants.{Empty, Local, Remote, Memory}
use Rattle.arg_scan.specs.declared.verdict.Action.{Action}
use Rattle.arg_scan.specs.declared.verdict.Verdict.{Verdict}
use Rattle.arg_scan.specs.declared.verdict.Verdict.TheVariants as verdict
use Rattle.arg_scan.specs.Names.{last_name, ending_text, has_ending, endings, ending_of, is_reserved, is_preprocessed}
use Rattle.arg_scan.specs.Roles.{option_role, source_role, role_of, part_of, word_at, owner_at, part_at}
use Rattle.arg_scan.specs.Forces.{when, end_reasons, first_below, source_of, is_source}
use Rattle.arg_scan.specs.Class.{IsRemote, is_remote_verdict, by_place, by_end, verdict_of, scan_of, class_of, plan_of, input_place}
use Rattle.arg_strip.specs.Words.{output_of}
use Rattle.arg_strip.proofs.Laws.{IsCalm, calm_is, output_calm}
use Rattle.child_runner.specs.Runs.{IsUnpreprocessed}
use Rattle.farm_machine.specs.Jobs.{job_of, may_be_sent}

-- the class is that of a command that may be sent
abbrev pub is_sent : Scan → Bool
is_sent (Remote action input output preprocessed ext) = true
is_sent Empty = false
is_sent (Local why at) = false
is_sent Memory = false

verdict_is : (words : List (List ℕ)) → IsCalm words → verdict_of words ≡ verdict.Remote (plan_of words)
verdict_is [] calm = absurd (calm.some refl)
verdict_is (word ∷ more) calm =
    let words = word ∷ more in
    ap (λ f. by_place f (by_end (slice_get (end_reasons words) 0) (length words) (verdict.Remote (plan_of words)))) calm.places
    ∙ ap (λ e. by_end e (length words) (verdict.Remote (plan_of words))) calm.whole

not_reserved : (standard reserved : Bool) → slice_get (when standard why.StandardStream ++ when reserved why.ReservedName) 0 ≡ None
    → reserved ≡ false
not_reserved true reserved h = cc
not_reserved false true h = cc
not_reserved false false h = refl

-- the output of a command that may be sent has no name that a keeper has for itself
pub output_not_staged : (words : List (List ℕ)) → IsRemote words → ¬ (IsStaged (output_of words))
output_not_staged words remote staged =
    let free = not_reserved _ (is_reserved (output_of words)) (output_calm words (calm_is words remote)) in
    false≢true (sym free ∙ staged_to (output_of words) staged)

-- a name that ends in a text is something with this text behind it
ends_as : (text name : List ℕ) → ends_with nat_eq name text ≡ true → name ≡ take (length name - length text) name ++ text
ends_as text name same =
    sym (take-append-drop (length name - length text) name)
    ∙ ap (λ rest. take (length name - length text) name ++ rest)
    (sym (same_text text (drop (length name - length text) name) (sym same)))

-- the last part of a path stands at its end
last_part : (word : List ℕ) → (front : List ℕ) × (word ≡ front ++ last_name word)
last_part [] = ([], refl)
last_part (b ∷ bs) = go (list_any (nat_eq 47) (b ∷ bs)) (last_part bs)
  where
    go : (slash : Bool) → (front : List ℕ) × (bs ≡ front ++ last_name bs)
        → (front : List ℕ) × (b ∷ bs ≡ front ++ (if slash then last_name bs else b ∷ bs))
    go true ih = (b ∷ ih.0, ap (λ rest. b ∷ rest) ih.1)
    go false ih = ([], refl)

abbrev last_byte : List ℕ → ℕ
last_byte [] = 0
last_byte (b ∷ []) = b
last_byte (b ∷ c ∷ bs) = last_byte (c ∷ bs)

last-of : (xs : List ℕ) (y : ℕ) → last_byte (xs ++ y ∷ []) ≡ y
last-of [] y = refl
last-of (x ∷ []) y = refl
last-of (x ∷ z ∷ xs) y = last-of (z ∷ xs) y

-- a path that ends in `i` doesn't end in `~`
apart : (word front mid name : List ℕ) (a : ℕ) (xs : List ℕ) → word ≡ front ++ (mid ++ (xs ++ 105 ∷ []))
    → word ≡ name ++ (46 ∷ 102 ∷ 97 ∷ 114 ∷ 109 ∷ 126 ∷ []) → ⊥
apart word front mid name a xs is staged =
    let one : word ≡ (front ++ (mid ++ xs)) ++ 105 ∷ [] = is ∙ ap (λ rest. front ++ rest) (sym (append_assoc mid xs (105 ∷ [])))
    ∙ sym (append_assoc front (mid ++ xs) (105 ∷ [])) in
    let other : word ≡ (name ++ (46 ∷ 102 ∷ 97 ∷ 114 ∷ 109 ∷ [])) ++ 126 ∷ [] = staged
    ∙ sym (append_assoc name (46 ∷ 102 ∷ 97 ∷ 114 ∷ 109 ∷ []) (126 ∷ [])) in
    let same : 105 ≡ 126 = sym (last-of (front ++ (mid ++ xs)) 105) ∙ ap last_byte (sym one ∙ other)
    ∙ last-of (name ++ (46 ∷ 102 ∷ 97 ∷ 114 ∷ 109 ∷ [])) 126 in
    omega (arith, same)

found_passes : (p : Ending → Bool) (xs : List Ending) (e : Ending) → find p xs ≡ Some e → p e ≡ true
found_passes p [] e h = cc
found_passes p (x ∷ xs) e h = go (p x) refl h (λ k. found_passes p xs e k)
  where
    go : (b : Bool) → p x ≡ b → (if b then Some x else find p xs) ≡ Some e → (find p xs ≡ Some e → p e ≡ true) → p e ≡ true
    go true is h ih = let same : x ≡ e = cc in ap p (sym same) ∙ is
    go false is h ih = ih h

ending_from : (o : Option Ending) (e : Ending) → source_role o ≡ role.Source e → o ≡ Some e
ending_from (Some d) e h = cc
ending_from None e h = cc

no_source : (o : Option Found) (word : List ℕ) (e : Ending) → option_role o word ≡ role.Source e → ⊥
no_source None word e h = cc
no_source (Some at) word e h = cc

role_from : (a b c : Bool) (o : Option Found) (word : List ℕ) (s : Option Ending) (e : Ending)
    → (if a then role.Dash else (if b then option_role o word else (if c then role.Response else source_role s))) ≡ role.Source e
    → s ≡ Some e
role_from true b c o word s e h = cc
role_from false true c o word s e h = absurd (no_source o word e h)
role_from false false true o word s e h = cc
role_from false false false o word s e h = ending_from s e h

role_ending : (word : List ℕ) (e : Ending) → role_of word ≡ role.Source e → ending_of (last_name word) ≡ Some e
unfolding role_of
role_ending word e h =
    role_from (bytes_eq word (codes "-")) (starts_with nat_eq word (codes "-")) (starts_with nat_eq word (codes "@"))
    (found gcc_rows word) word (ending_of (last_name word)) e h

from_role : (r : Role) (e : Ending) → source_of (part.Word r) ≡ Some e → r ≡ role.Source e
from_role role.Dash e h = cc
from_role (role.Flag effect operand) e h = cc
from_role role.Response e h = cc
from_role (role.Source d) e h = cc
from_role role.Other e h = cc

from_part : (o : Option Effect) (i : ℕ) (word : List ℕ) (e : Ending) → source_of (part_of o i word) ≡ Some e
    → ending_of (last_name word) ≡ Some e
from_part o zero word e h = cc
from_part (Some effect) (suc i) word e h = cc
from_part None (suc i) word e h = role_ending word e (from_role (role_of word) e h)

some_ending : (o : Option Ending) → is_preprocessed (unwrap_or o C) ≡ true → (e : Ending) × (o ≡ Some e) × (is_preprocessed e ≡ true)
some_ending None h = absurd (false≢true h)
some_ending (Some e) h = (e, refl, h)

-- a name with an ending of preprocessed sources has none that a keeper has for itself
ready_not_staged : (word : List ℕ) (e : Ending) → is_preprocessed e ≡ true → has_ending (last_name word) e ≡ true → ¬ (IsStaged word)
ready_not_staged word I h ends staged =
    let has = (and_parts (nat_lt (length (ending_text I)) (length (last_name word))) (ends_with nat_eq (last_name word) (ending_text I))
    ends).1 in
    let part = last_part word in
    apart word part.0 (take (length (last_name word) - 2) (last_name word)) staged.0 0 (46 ∷ [])
    (part.1 ∙ ap (λ rest. part.0 ++ rest) (ends_as (codes ".i") (last_name word) has)) staged.1
ready_not_staged word Ii h ends staged =
    let has = (and_parts (nat_lt (length (ending_text Ii)) (length (last_name word))) (ends_with nat_eq (last_name word) (ending_text Ii))
    ends).1 in
    let part = last_part word in
    apart word part.0 (take (length (last_name word) - 3) (last_name word)) staged.0 0 (46 ∷ 105 ∷ [])
    (part.1 ∙ ap (λ rest. part.0 ++ rest) (ends_as (codes ".ii") (last_name word) has)) staged.1
ready_not_staged word C h ends staged = absurd (false≢true h)
ready_not_staged word Cc h ends staged = absurd (false≢true h)
ready_not_staged word Cpp h ends staged = absurd (false≢true h)
ready_not_staged word Cxx h ends staged = absurd (false≢true h)
ready_not_staged word CapitalC h ends staged = absurd (false≢true h)

-- nor has a source that is preprocessed already
pub source_not_staged : (words : List (List ℕ)) → is_preprocessed (plan_of words).ending ≡ true
    → ¬ (IsStaged (word_at words (input_place words)))
source_not_staged words ready =
    let e = some_ending (source_of (part_at words (input_place words))) ready in
    let is = from_part (owner_at words (input_place words)) (input_place words) (word_at words (input_place words)) e.0 e.1 in
    ready_not_staged (word_at words (input_place words)) e.0 e.2
    (found_passes (has_ending (last_name (word_at words (input_place words)))) endings e.0 is)

first_in : (test : ℕ → Bool) (n p : ℕ) → first_below test n ≡ Some p → p < n
first_in test zero p h = cc
first_in test (suc n) p h = go (first_below test n) refl (test n) h (λ k. first_in test n p k)
  where
    go : (o : Option ℕ) → first_below test n ≡ o → (b : Bool) → option_or o (if b then Some n else None) ≡ Some p
        → (first_below test n ≡ Some p → p < n) → p < suc n
    go (Some k) is b h ih = let same : k ≡ p = cc in let below : p < n = ih (is ∙ ap (λ (q : ℕ). Some q) same) in omega arith
    go None is true h ih = let same : n ≡ p = cc in omega arith
    go None is false h ih = cc

-- and it is a word
pub source_within : (words : List (List ℕ)) → is_preprocessed (plan_of words).ending ≡ true → input_place words < length words
source_within words ready = go (first_below (is_source words) (length words)) refl ready
  where
    go : (o : Option ℕ) → first_below (is_source words) (length words) ≡ o
        → is_preprocessed (unwrap_or (source_of (part_at words (unwrap_or o 0))) C) ≡ true → unwrap_or o 0 < length words
    go None is h = absurd (false≢true h)
    go (Some p) is h = first_in (is_source words) (length words) p is

-- a command's class, and what it says of the command
remote_class : (words : List (List ℕ)) (v : Verdict) (action : Action) (input : ℕ) (output : List ℕ) (ready : Bool) (ext : Ext)
    → verdict_of words ≡ v → Remote action input output ready ext ≡ scan_of words v → IsTrue (is_remote_verdict v)
remote_class words verdict.Empty action input output ready ext is h = cc
remote_class words (verdict.Local why at) action input output ready ext is h = cc
remote_class words (verdict.Remote plan) action input output ready ext is h = refl

pub class_remote : (words : List (List ℕ)) (action : Action) (input : ℕ) (output : List ℕ) (ready : Bool) (ext : Ext)
    → Remote action input output ready ext ≡ class_of words → IsRemote words
class_remote words action input output ready ext h =
    subst (λ (v : Verdict). IsTrue (is_remote_verdict v)) refl (remote_class words (verdict_of words) action input output ready ext refl h)

remote_plan : (words : List (List ℕ)) → IsRemote words → verdict_of words ≡ verdict.Remote (plan_of words)
remote_plan words remote = verdict_is words (calm_is words remote)

pub class_input : (words : List (List ℕ)) (action : Action) (input : ℕ) (output : List ℕ) (ready : Bool) (ext : Ext)
    → Remote action input output ready ext ≡ class_of words
    → (input ≡ input_place words) × (output ≡ output_of words) × (ready ≡ is_preprocessed (plan_of words).ending)
class_input words action input output ready ext h =
    let e : Remote action input output ready ext ≡ scan_of words (verdict.Remote (plan_of words)) = h
    ∙ ap (scan_of words) (remote_plan words (class_remote words action input output ready ext h)) in
    (cc, cc, cc)

unready : (v : Verdict) (words : List (List ℕ)) → v ≡ verdict.Remote (plan_of words) → is_preprocessed (plan_of words).ending ≡ false
    → IsUnpreprocessed (scan_of words v)
unready v words is h = subst (λ (w : Verdict). IsUnpreprocessed (scan_of words w)) (sym is) h

-- a source that is to be preprocessed
pub class_unready : (words : List (List ℕ)) → IsRemote words → is_preprocessed (plan_of words).ending ≡ false
    → IsUnpreprocessed (class_of words)
class_unready words remote h = unready (verdict_of words) words (remote_plan words remote) h

-- a command of another class stays here
pub class_stays : (words : List (List ℕ)) (s : Scan) (config : JobConfig) → s ≡ class_of words → is_sent s ≡ false
    → may_be_sent (job_of words config) ≡ false
class_stays words s config is stays = go (verdict_of words) (ap is_sent (sym is) ∙ stays)
  where
    go : (v : Verdict) → is_sent (scan_of words v) ≡ false → is_remote_verdict v ≡ false
    go verdict.Empty h = refl
    go (verdict.Local why at) h = refl
    go (verdict.Remote plan) h = absurd (false≢true (sym h))
