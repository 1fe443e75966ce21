-- The least places below a bound, one place on.
use Rattle.std.proofs.Common.{◌≡◌, ℕ, zero, suc, ◌+◌, ◌<◌, ◌==◌, Bool, true, false, not, ◌||◌, ◌&&◌, List, [], ◌∷◌, ◌++◌, length, Option}
use Rattle.std.proofs.Common.{Some, None, is_some, unwrap_or, if◌then◌else◌, refl, sym, ◌∙◌, ap, arith}
use Rattle.std.proofs.Common.{◌-◌}
use Rattle.std.proofs.lemmas.Bool.Decides.{nat_tests}
use Rattle.std.specs.List.{slice_get}
use Rattle.std.specs.Option.{option_map, option_or}
use Rattle.arg_scan.specs.declared.why.Why.{Why}
use Rattle.arg_scan.specs.declared.why.Why.TheVariants as why
use Rattle.option_table.specs.declared.row.Effect.{Effect}
use Rattle.arg_scan.specs.declared.part.Part.{Part}
use Rattle.arg_scan.specs.declared.names.Ending.{Ending}
use Rattle.arg_scan.specs.declared.names.Ending.TheVariants.{C}
use Rattle.arg_scan.specs.declared.verdict.Action.TheVariants.{Compile, Assemble}
use Rattle.arg_scan.specs.declared.verdict.OutputPlace.{OutputPlace}
use Rattle.arg_scan.specs.declared.verdict.Plan.{Plan}
use Rattle.arg_scan.specs.declared.verdict.Verdict.TheVariants as verdict
use Rattle.arg_scan.specs.declared.seen.Input.{Input}
use Rattle.arg_scan.specs.declared.seen.Seen.{Seen}
use Rattle.arg_scan.specs.Roles.{owed, part_of, owner_at, part_at, word_at}
use Rattle.arg_scan.specs.Forces.{first_below, any_below, when, source_of, is_source, is_output_option, compiles, assembles, part_reasons}
use Rattle.arg_scan.specs.Forces.{end_reasons}
use Rattle.arg_scan.specs.Class.{reason_at, first_forced, output_place, by_place, by_end, plan_of, verdict_of}
use Rattle.arg_scan.specs.Seen.{noted, seen_below, final_verdict}

one : (n : ℕ) → n + 1 ≡ suc n
one n = omega arith

pub owner-next : (words : List (List ℕ)) (n : ℕ) → owner_at words (n + 1) ≡ owed (part_at words n)
owner-next words n = ap (owner_at words) (one n)

some_or : (o : Option ℕ) (b : Bool) (n : ℕ) → (is_some o || b) ≡ is_some (option_or o (if b then Some n else None))
some_or (Some k) b n = refl
some_or None true n = refl
some_or None false n = refl

any-next : (test : ℕ → Bool) (n : ℕ) → (any_below test n || test n) ≡ any_below test (n + 1)
any-next test n = some_or (first_below test n) (test n) n ∙ ap (any_below test) (sym (one n))

abbrev input_at : (ℕ → Option Ending) → ℕ → Input
input_at g at = record { at = at; ending = unwrap_or (g at) C }

input_here : (g : ℕ → Option Ending) (n : ℕ) (e : Option Ending) → g n ≡ e
    → option_map (λ ending. record { at = n; ending = ending }) e ≡ option_map (input_at g) (if is_some e then Some n else None)
input_here g n None h = refl
input_here g n (Some x) h = ap (λ o. Some (record { at = n; ending = unwrap_or o C })) (sym h)

input_or : (g : ℕ → Option Ending) (n : ℕ) (o : Option ℕ)
    → option_or (option_map (input_at g) o) (option_map (λ ending. record { at = n; ending = ending }) (g n))
    ≡ option_map (input_at g) (option_or o (if is_some (g n) then Some n else None))
input_or g n (Some k) = refl
input_or g n None = input_here g n (g n) refl

output_here : (h : ℕ → OutputPlace) (n : ℕ) (b : Bool) → (if b then Some (h n) else None) ≡ option_map h (if b then Some n else None)
output_here h n true = refl
output_here h n false = refl

output_or : (h : ℕ → OutputPlace) (n : ℕ) (b : Bool) (o : Option ℕ) → option_or (option_map h o) (if b then Some (h n) else None)
    ≡ option_map h (option_or o (if b then Some n else None))
output_or h n b (Some k) = refl
output_or h n b None = output_here h n b

same_seen : (a b : Seen) → a.compile ≡ b.compile → a.assemble ≡ b.assemble → a.source ≡ b.source → a.output ≡ b.output → a ≡ b
same_seen a b e f g h =
    ap (λ x. record a { compile = x }) e
    ∙ ap (λ x. record a { compile = b.compile; assemble = x }) f
    ∙ ap (λ x. record a { compile = b.compile; assemble = b.assemble; source = x }) g
    ∙ ap (λ x. record b { output = x }) h

-- what one more word adds to what was seen
pub seen-next : (words : List (List ℕ)) (n : ℕ) → noted (part_at words n) n (word_at words n) (seen_below words n)
    ≡ seen_below words (n + 1)
seen-next words n =
    same_seen _ _ (any-next (compiles words) n) (any-next (assembles words) n)
    (input_or (λ at. source_of (part_at words at)) n (first_below (is_source words) n)
    ∙ ap (λ m. option_map (input_at (λ at. source_of (part_at words at))) (first_below (is_source words) m)) (sym (one n)))
    (output_or (λ at. output_place (part_at words at) at) n (is_output_option words n) (first_below (is_output_option words) n)
    ∙ ap (λ m. option_map (λ at. output_place (part_at words at) at) (first_below (is_output_option words) m)) (sym (one n)))

some_map : {A B : Type 0} (f : A → B) (o : Option A) → is_some (option_map f o) ≡ is_some o
some_map f None = refl
some_map f (Some x) = refl

pub source_seen : (words : List (List ℕ)) (n : ℕ) → is_some (seen_below words n).source ≡ any_below (is_source words) n
source_seen words n = some_map _ (first_below (is_source words) n)

pub output_seen : (words : List (List ℕ)) (n : ℕ) → is_some (seen_below words n).output ≡ any_below (is_output_option words) n
output_seen words n = some_map _ (first_below (is_output_option words) n)

-- a place without a reason leaves what was found before it
pub forced-none : (words : List (List ℕ)) (n : ℕ) → first_forced words n ≡ None → reason_at words n ≡ None
    → first_forced words (n + 1) ≡ None
forced-none words n before here =
    ap (first_forced words) (one n)
    ∙ ap (λ o. option_or o (option_map (λ why. (why, n)) (reason_at words n))) before
    ∙ ap (option_map (λ why. (why, n))) here

forced-here : (words : List (List ℕ)) (n : ℕ) (why : Why) → first_forced words n ≡ None → reason_at words n ≡ Some why
    → first_forced words (suc n) ≡ Some (why, n)
forced-here words n why before here =
    ap (λ o. option_or o (option_map (λ why. (why, n)) (reason_at words n))) before
    ∙ ap (option_map (λ why. (why, n))) here

forced_later : (words : List (List ℕ)) (n m : ℕ) (f : Why × ℕ) → first_forced words n ≡ Some f → first_forced words (m + n) ≡ Some f
forced_later words n zero f h = ap (first_forced words) (none_more n) ∙ h
  where
    none_more : (n : ℕ) → 0 + n ≡ n
    none_more n = omega arith
forced_later words n (suc m) f h =
    ap (first_forced words) (one_more m n)
    ∙ ap (λ o. option_or o (option_map (λ why. (why, m + n)) (reason_at words (m + n)))) (forced_later words n m f h)
  where
    one_more : (m n : ℕ) → suc m + n ≡ suc (m + n)
    one_more m n = omega arith

-- the first reason of a word by what the loop knows of it
pub reason_is : (words : List (List ℕ)) (n : ℕ) (owner : Option Effect) (word : List ℕ) (seen : Seen) (part : Part)
    → part ≡ part_of owner n word → owner ≡ owner_at words n → word ≡ word_at words n → seen ≡ seen_below words n
    → slice_get (part_reasons part word (n + 1 == length words) (is_some seen.source) (is_some seen.output)) 0 ≡ reason_at words n
reason_is words n owner word seen part p e f g =
    let last = n + 1 == length words in
    ap (λ q. slice_get (part_reasons q word last (is_some seen.source) (is_some seen.output)) 0) p
    ∙ ap (λ o. slice_get (part_reasons (part_of o n word) word last (is_some seen.source) (is_some seen.output)) 0) e
    ∙ ap (λ w. slice_get (part_reasons (part_of (owner_at words n) n w) w last (is_some seen.source) (is_some seen.output)) 0) f
    ∙ ap (λ (s : Seen). slice_get (part_reasons (part_at words n) (word_at words n) last (is_some s.source) (is_some s.output)) 0) g
    ∙ ap (λ b. slice_get (part_reasons (part_at words n) (word_at words n) last b (is_some (seen_below words n).output)) 0)
    (source_seen words n)
    ∙ ap (λ b. slice_get (part_reasons (part_at words n) (word_at words n) last (any_below (is_source words) n) b) 0) (output_seen words n)

-- what the loop knows after a word
pub noted_is : (words : List (List ℕ)) (n : ℕ) (owner : Option Effect) (word : List ℕ) (seen : Seen) (part : Part)
    → part ≡ part_of owner n word → owner ≡ owner_at words n → word ≡ word_at words n → seen ≡ seen_below words n
    → noted part n word seen ≡ seen_below words (n + 1)
noted_is words n owner word seen part p e f g =
    ap (λ q. noted q n word seen) p
    ∙ ap (λ o. noted (part_of o n word) n word seen) e
    ∙ ap (λ w. noted (part_of (owner_at words n) n w) n w seen) f
    ∙ ap (noted (part_at words n) n (word_at words n)) g
    ∙ seen-next words n

pub owed_is : (words : List (List ℕ)) (n : ℕ) (owner : Option Effect) (word : List ℕ) (part : Part) → part ≡ part_of owner n word
    → owner ≡ owner_at words n → word ≡ word_at words n → owed part ≡ owner_at words (n + 1)
owed_is words n owner word part p e f =
    ap owed p
    ∙ ap (λ o. owed (part_of o n word)) e
    ∙ ap (λ w. owed (part_of (owner_at words n) n w)) f
    ∙ sym (owner-next words n)

-- the first place that gives a reason is the class
pub local_is : (words : List (List ℕ)) (n : ℕ) (why : Why) → n < length words → first_forced words n ≡ None
    → reason_at words n ≡ Some why → verdict.Local why n ≡ verdict_of words
local_is [] n why within before here = absurd (omega arith)
local_is (word ∷ more) n why within before here =
    let words = word ∷ more in
    sym (ap (λ f. by_place f (by_end (slice_get (end_reasons words) 0) (length words) (verdict.Remote (plan_of words))))
    (ap (first_forced words) (behind (length words) n within)
    ∙ forced_later words (suc n) (length words - suc n) (why, n) (forced-here words n why before here)))
  where
    behind : (len n : ℕ) → n < len → len ≡ len - suc n + suc n
    behind len n h = omega arith

final_by : (compile assemble : Bool) (g : ℕ → Option Ending) (first : Option ℕ) (output : Option OutputPlace) (len : ℕ) →
    final_verdict (record { compile = compile; assemble = assemble; source = option_map (input_at g) first; output = output }) len
    ≡ by_end (slice_get (when (not (compile || assemble)) why.NoAction ++ when (compile && assemble) why.BothActions
    ++ when (not (is_some first)) why.NoInput) 0) len
    (verdict.Remote (record {
      action = if assemble then Assemble else Compile;
      input = unwrap_or first 0;
      ending = unwrap_or (g (unwrap_or first 0)) C;
      output = output;
    }))
final_by compile assemble g (Some k) output len = refl
final_by true true g None output len = refl
final_by true false g None output len = refl
final_by false true g None output len = refl
final_by false false g None output len = refl

-- where no place gives a reason, what was seen of all words decides
pub final_is : (words : List (List ℕ)) (n : ℕ) (seen : Seen) → 0 < length words → n ≡ length words → first_forced words n ≡ None
    → seen ≡ seen_below words n → final_verdict seen (length words) ≡ verdict_of words
final_is [] n seen some all none is = absurd (omega arith)
final_is (word ∷ more) n seen some all none is =
    let words = word ∷ more in
    let len = length words in
    ap (λ s. final_verdict s len) is
    ∙ ap (λ m. final_verdict (seen_below words m) len) all
    ∙ final_by (any_below (compiles words) len) (any_below (assembles words) len) (λ at. source_of (part_at words at))
    (first_below (is_source words) len) _ len
    ∙ sym (ap (λ f. by_place f (by_end (slice_get (end_reasons words) 0) len (verdict.Remote (plan_of words))))
    (ap (first_forced words) (sym all) ∙ none))

pub some_words : (n : ℕ) (r : Bool) → r ≡ (n == 0) → r ≡ false → 0 < n
some_words n r e f = grind (arith, nat_tests)

remote_by : (f : Option (Why × ℕ)) (e : Option Why) (len : ℕ) (plan p : Plan)
    → by_place f (by_end e len (verdict.Remote p)) ≡ verdict.Remote plan → plan ≡ p
remote_by (Some f) e len plan p h = cc
remote_by None (Some why) len plan p h = cc
remote_by None None len plan p h = cc

-- a command that may be sent is sent by its plan
pub remote_plan_is : (words : List (List ℕ)) (plan : Plan) → verdict_of words ≡ verdict.Remote plan → plan ≡ plan_of words
remote_plan_is [] plan h = cc
remote_plan_is (word ∷ more) plan h =
    let words = word ∷ more in
    remote_by (first_forced words (length words)) (slice_get (end_reasons words) 0) (length words) plan (plan_of words) h
