-- The laws of the words that are added: the command asks for the same, and needs nothing more.
use Rattle.std.proofs.Common.{◌≡◌, ℕ, zero, ◌<◌, Bool, true, false, not, ◌||◌, ◌&&◌, List, [], ◌∷◌, ◌++◌, length, take, drop, codes}
use Rattle.std.proofs.Common.{Option, Some, None, is_some, unwrap_or, if◌then◌else◌, refl, sym, ◌∙◌, ap, subst, append-nil, arith}
use Rattle.std.specs.List.{slice_get}
use Rattle.std.specs.Option.{option_map}
use Rattle.farm_types.specs.declared.placed.Word.TheVariants.{Text, Output}
use Rattle.arg_scan.specs.declared.names.Ending.TheVariants.{C}
use Rattle.arg_scan.specs.declared.part.Part.{Part}
use Rattle.arg_scan.specs.declared.verdict.Action.TheVariants.{Compile, Assemble}
use Rattle.arg_scan.specs.declared.verdict.OutputPlace.{OutputPlace}
use Rattle.arg_scan.specs.declared.verdict.Plan.{Plan}
use Rattle.arg_scan.specs.declared.verdict.Verdict.TheVariants as verdict
use Rattle.arg_scan.specs.declared.class.Scan.TheVariants as scan
use Rattle.arg_scan.specs.Names.{derived_output, ext_of, is_preprocessed}
use Rattle.arg_scan.specs.Roles.{part_at, word_at}
use Rattle.arg_scan.specs.Forces.{any_below, assembles, compiles, end_reasons, first_below, is_output_option, is_source, source_of}
use Rattle.arg_scan.specs.Class.{IsRemote, class_of, first_forced, input_place, is_remote_verdict, output_place, output_text, plan_of}
use Rattle.arg_scan.specs.Class.{scan_of, verdict_of}
use Rattle.arg_strip.specs.Words.{gather, output_of, placed_word, placed_words, preprocessing_word, preprocessing_words, sent_word}
use Rattle.arg_strip.specs.Words.{stripped}
use Rattle.arg_strip.proofs.Labels.{Label, any_label, any_labels, at_place, gathered_labels, is_output_part, is_source_part, labels}
use Rattle.arg_strip.proofs.Labels.{labels_from, or_false, picks, IsFree}
use Rattle.arg_strip.proofs.Reading.{free_labels, free_places}
use Rattle.arg_strip.proofs.Filtered.{any-append, picks-append}
use Rattle.arg_strip.proofs.Laws.{IsCalm, assemble_part, calm_is, compile_part, end_by, verdict_is}
use Rattle.dependency_options.specs.declared.asked.Asked.{Asked}
use Rattle.dependency_options.specs.Words.{added_by, added_words, asked_of, with_dependencies}
use Rattle.dependency_options.proofs.Places.{first_within, output_within, part_before, same_first, word_before}
use Rattle.dependency_options.proofs.Tails.{IsIdle, file_part, file_said, free_append, labels_behind, list_part, pairs, pairs_are}
use Rattle.dependency_options.proofs.Tails.{pairs_idle, pairs_kept, target_part, target_said}

-- these words stand behind a command that may be sent, and their labels are idle
pub record IsBehind (words more : List (List ℕ)) (ls : List Label) : Type 0 where
  pub calm : IsCalm words
  pub all : labels (words ++ more) ≡ labels words ++ ls
  pub idle : IsIdle ls

pub behind_is : (words : List (List ℕ)) (file target : Bool) (output : List ℕ) → IsRemote words
    → IsBehind words (added_by file target output) (pairs file target output)
behind_is words file target output remote =
    let calm = calm_is words remote in
    record {
      calm = calm;
      all =
          labels_behind words (added_by file target output) calm.some (free_labels words calm.places)
          ∙ ap (λ l. labels words ++ l) (pairs_are file target output);
      idle = pairs_idle file target output;
    }

same_any : (test : Part → List ℕ → Bool) (words more : List (List ℕ)) (ls : List Label) → IsBehind words more ls
    → any_label test ls ≡ false → any_below (at_place test (words ++ more)) (length (words ++ more))
    ≡ any_below (at_place test words) (length words)
same_any test words more ls b h = ap is_some (same_first test words (words ++ more) ls b.all h)

not_none : (words more : List (List ℕ)) → (words ≡ [] → ⊥) → words ++ more ≡ [] → ⊥
not_none [] more some h = some refl
not_none (word ∷ words) more some h = cc

-- with these words the command may be sent
pub calm_behind : (words more : List (List ℕ)) (ls : List Label) → IsBehind words more ls → IsCalm (words ++ more)
calm_behind words more ls b =
    let all = words ++ more in
    record {
      some = not_none words more b.calm.some;
      places = free_places all (subst (λ l. IsFree false false l) (sym b.all)
          (free_append (labels words) ls false false (free_labels words b.calm.places) b.idle.free));
      whole =
          ap (λ t. end_by t (any_below (assembles all) (length all)) (any_below (is_source all) (length all)))
          (same_any compile_part words more ls b b.idle.compile)
          ∙ ap (λ t. end_by (any_below (compiles words) (length words)) t (any_below (is_source all) (length all)))
          (same_any assemble_part words more ls b b.idle.assemble)
          ∙ ap (λ t. end_by (any_below (compiles words) (length words)) (any_below (assembles words) (length words)) t)
          (same_any is_source_part words more ls b b.idle.source)
          ∙ b.calm.whole;
    }

some_word : (words : List (List ℕ)) → (words ≡ [] → ⊥) → 0 < length words
some_word [] some = absurd (some refl)
some_word (word ∷ words) some = omega arith

-- the source is among the words
pub input_within : (words : List (List ℕ)) → IsCalm words → input_place words < length words
input_within words calm = by_first (first_below (is_source words) (length words)) refl
  where
    by_first : (o : Option ℕ) → first_below (is_source words) (length words) ≡ o → unwrap_or o 0 < length words
    by_first None e = some_word words calm.some
    by_first (Some at) e = (first_within (is_source words) (length words) at e).0

same_input : (words more : List (List ℕ)) (ls : List Label) → IsBehind words more ls → input_place (words ++ more) ≡ input_place words
same_input words more ls b = ap (λ o. unwrap_or o 0) (same_first is_source_part words (words ++ more) ls b.all b.idle.source)

same_outputs : (words more : List (List ℕ)) (o : Option ℕ) → first_below (is_output_option words) (length words) ≡ o
    → option_map (λ at. output_place (part_at (words ++ more) at) at) o ≡ option_map (λ at. output_place (part_at words at) at) o
same_outputs words more None e = refl
same_outputs words more (Some at) e =
    ap (λ p. Some (output_place p at)) (part_before words more at (first_within (is_output_option words) (length words) at e).0)

same_plan : (a b : Plan) → a.action ≡ b.action → a.input ≡ b.input → a.ending ≡ b.ending → a.output ≡ b.output → a ≡ b
same_plan a b e f g h =
    ap (λ x. record a { action = x }) e
    ∙ ap (λ x. record a { action = b.action; input = x }) f
    ∙ ap (λ x. record a { action = b.action; input = b.input; ending = x }) g
    ∙ ap (λ x. record b { output = x }) h

-- the command is sent by the same plan
pub plan_behind : (words more : List (List ℕ)) (ls : List Label) → IsBehind words more ls → plan_of (words ++ more) ≡ plan_of words
plan_behind words more ls b =
    let all = words ++ more in
    same_plan (plan_of all) (plan_of words)
    (ap (λ t. if t then Assemble else Compile) (same_any assemble_part words more ls b b.idle.assemble))
    (same_input words more ls b)
    (ap (λ at. unwrap_or (source_of (part_at all at)) C) (same_input words more ls b)
    ∙ ap (λ p. unwrap_or (source_of p) C) (part_before words more (input_place words) (input_within words b.calm)))
    (ap (λ o. option_map (λ at. output_place (part_at all at) at) o) (same_first is_output_part words all ls b.all b.idle.output)
    ∙ same_outputs words more (first_below (is_output_option words) (length words)) refl)

-- the name at the place of the output is the same
text_behind : (words more : List (List ℕ)) → IsCalm words → output_text (words ++ more) (plan_of words) (plan_of words).output
    ≡ output_text words (plan_of words) (plan_of words).output
text_behind words more calm = by_first (first_below (is_output_option words) (length words)) refl
  where
    by_first : (o : Option ℕ) → first_below (is_output_option words) (length words) ≡ o
        → output_text (words ++ more) (plan_of words) (option_map (λ at. output_place (part_at words at) at) o)
        ≡ output_text words (plan_of words) (option_map (λ at. output_place (part_at words at) at) o)
    by_first None e =
        ap (λ w. derived_output (plan_of words).action w (plan_of words).ending)
        (word_before words more (input_place words) (input_within words calm))
    by_first (Some at) e =
        let found = first_within (is_output_option words) (length words) at e in
        ap (drop (output_place (part_at words at) at).from)
        (word_before words more (output_place (part_at words at) at).at (output_within words at calm.places found.0 found.1))

-- the output is the same
pub output_behind : (words more : List (List ℕ)) (ls : List Label) → IsBehind words more ls → output_of (words ++ more) ≡ output_of words
output_behind words more ls b =
    ap (λ (plan : Plan). output_text (words ++ more) plan plan.output) (plan_behind words more ls b) ∙ text_behind words more b.calm

-- the class is the same
pub class_behind : (words more : List (List ℕ)) (ls : List Label) → IsBehind words more ls → class_of (words ++ more) ≡ class_of words
class_behind words more ls b =
    let all = words ++ more in
    ap (scan_of all) (verdict_is all (calm_behind words more ls b) ∙ ap verdict.Remote (plan_behind words more ls b))
    ∙ ap (λ name. scan.Remote (plan_of words).action (plan_of words).input name (is_preprocessed (plan_of words).ending)
    (ext_of (plan_of words).ending)) (text_behind words more b.calm)
    ∙ sym (ap (scan_of words) (verdict_is words b.calm))

remote_behind : (words more : List (List ℕ)) (ls : List Label) → IsBehind words more ls → IsRemote (words ++ more)
remote_behind words more ls b = ap is_remote_verdict (verdict_is (words ++ more) (calm_behind words more ls b))

same_picks : {A : Type 0} (pick : Part → List ℕ → Option A) (words more : List (List ℕ)) (ls : List Label) → IsBehind words more ls
    → gather (at_place pick (words ++ more)) (length (words ++ more)) ≡ gather (at_place pick words) (length words) ++ picks pick ls
same_picks pick words more ls b =
    gathered_labels pick (words ++ more)
    ∙ ap (picks pick) b.all
    ∙ picks-append pick (labels words) ls
    ∙ ap (λ l. l ++ picks pick ls) (sym (gathered_labels pick words))

-- what is sent is the same
pub sent_behind : (words more : List (List ℕ)) (ls : List Label) → IsBehind words more ls → stripped (words ++ more) ≡ stripped words
sent_behind words more ls b =
    ap (λ l. l ++ codes "-o" ∷ output_of (words ++ more) ∷ [])
    (same_picks sent_word words more ls b
    ∙ ap (λ l. gather (at_place sent_word words) (length words) ++ l) b.idle.sent
    ∙ append-nil (gather (at_place sent_word words) (length words)))
    ∙ ap (λ name. gather (at_place sent_word words) (length words) ++ codes "-o" ∷ name ∷ []) (output_behind words more ls b)

-- what compiles is the same
pub placed_behind : (words more : List (List ℕ)) (ls : List Label) → IsBehind words more ls
    → placed_words (words ++ more) ≡ placed_words words
placed_behind words more ls b =
    ap (λ l. l ++ Text (codes "-o") ∷ Output ∷ [])
    (same_picks placed_word words more ls b
    ∙ ap (λ l. gather (at_place placed_word words) (length words) ++ l) b.idle.placed
    ∙ append-nil (gather (at_place placed_word words) (length words)))

pub preprocessing_behind : (words : List (List ℕ)) (file target : Bool) (output : List ℕ) → IsRemote words
    → preprocessing_words (words ++ added_by file target output) ≡ preprocessing_words words ++ added_by file target output
preprocessing_behind words file target output remote =
    same_picks preprocessing_word words (added_by file target output) (pairs file target output) (behind_is words file target output remote)
    ∙ ap (λ l. preprocessing_words words ++ l) (pairs_kept file target output)

-- what is said holds with words behind
said : (test : Part → List ℕ → Bool) (words more : List (List ℕ)) (ls : List Label) → labels (words ++ more) ≡ labels words ++ ls
    → any_below (at_place test (words ++ more)) (length (words ++ more))
    ≡ (any_below (at_place test words) (length words) || any_label test ls)
said test words more ls is =
    any_labels test (words ++ more)
    ∙ ap (any_label test) is
    ∙ any-append test (labels words) ls
    ∙ ap (λ b. b || any_label test ls) (sym (any_labels test words))

or_true : (b : Bool) → (b || true) ≡ true
or_true true = refl
or_true false = refl

-- behind the words that are added, both are said
file_told : (words : List (List ℕ)) (file target : Bool) (output : List ℕ)
    → any_below (at_place file_part words) (length words) ≡ file → IsRemote words
    → any_below (at_place file_part (words ++ added_by file target output)) (length (words ++ added_by file target output)) ≡ true
file_told words true target output is remote =
    said file_part words (added_by true target output) (pairs true target output) (behind_is words true target output remote).all
    ∙ ap (λ b. b || any_label file_part (pairs true target output)) is
file_told words false target output is remote =
    said file_part words (added_by false target output) (pairs false target output) (behind_is words false target output remote).all
    ∙ ap (λ b. any_below (at_place file_part words) (length words) || b) (file_said target output)
    ∙ or_true _

target_told : (words : List (List ℕ)) (file target : Bool) (output : List ℕ)
    → any_below (at_place target_part words) (length words) ≡ target → IsRemote words
    → any_below (at_place target_part (words ++ added_by file target output)) (length (words ++ added_by file target output)) ≡ true
target_told words file true output is remote =
    said target_part words (added_by file true output) (pairs file true output) (behind_is words file true output remote).all
    ∙ ap (λ b. b || any_label target_part (pairs file true output)) is
target_told words file false output is remote =
    said target_part words (added_by file false output) (pairs file false output) (behind_is words file false output remote).all
    ∙ ap (λ b. any_below (at_place target_part words) (length words) || b) (target_said file output)
    ∙ or_true _

nothing_more : (c file target : Bool) (output : List ℕ) → file ≡ true → target ≡ true → (if c then added_by file target output else []) ≡ []
nothing_more true true true output e f = refl
nothing_more true true false output e f = cc
nothing_more true false target output e f = cc
nothing_more false file target output e f = refl

-- nothing more is added
pub added_again : (words : List (List ℕ)) (file target : Bool) (output : List ℕ) → (asked_of words).file ≡ file
    → (asked_of words).target ≡ target → IsRemote words → added_words (words ++ added_by file target output) ≡ []
added_again words file target output e f remote =
    let all = words ++ added_by file target output in
    nothing_more ((asked_of all).list && is_some (plan_of all).output) (asked_of all).file (asked_of all).target (output_of all)
    (file_told words file target output e remote) (target_told words file target output f remote)

-- the laws of the words of a command with those of its dependency file
pub record AreLaws (words all added : List (List ℕ)) : Type 0 where
  pub class : class_of all ≡ class_of words
  pub sent : stripped all ≡ stripped words
  pub placed : placed_words all ≡ placed_words words
  pub preprocessing : preprocessing_words all ≡ preprocessing_words words ++ added
  pub remote : IsRemote all
  pub again : added_words all ≡ []

laws_unchanged : (words all : List (List ℕ)) → IsRemote words → added_words words ≡ [] → all ≡ words → AreLaws words all []
laws_unchanged words all remote none is = record {
  class = ap class_of is;
  sent = ap stripped is;
  placed = ap placed_words is;
  preprocessing = ap preprocessing_words is ∙ sym (append-nil (preprocessing_words words));
  remote = subst IsRemote (sym is) remote;
  again = ap added_words is ∙ none;
}

laws_by : (words : List (List ℕ)) (c : Bool) → IsRemote words → ((asked_of words).list && is_some (plan_of words).output) ≡ c
    → AreLaws words (words ++ (if c then added_by (asked_of words).file (asked_of words).target (output_of words) else []))
    (if c then added_by (asked_of words).file (asked_of words).target (output_of words) else [])
laws_by words true remote e =
    let file = (asked_of words).file in
    let target = (asked_of words).target in
    let output = output_of words in
    let more = added_by file target output in
    let ls = pairs file target output in
    let b = behind_is words file target output remote in
    record {
      class = class_behind words more ls b;
      sent = sent_behind words more ls b;
      placed = placed_behind words more ls b;
      preprocessing = preprocessing_behind words file target output remote;
      remote = remote_behind words more ls b;
      again = added_again words file target output refl refl remote;
    }
laws_by words false remote e =
    laws_unchanged words (words ++ []) remote
    (ap (λ t. if t then added_by (asked_of words).file (asked_of words).target (output_of words) else []) e)
    (append-nil words)

pub laws : (words : List (List ℕ)) → IsRemote words → AreLaws words (with_dependencies words) (added_words words)
laws words remote = laws_by words ((asked_of words).list && is_some (plan_of words).output) remote refl
