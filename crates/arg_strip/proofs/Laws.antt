-- The laws of the words that are sent: they may be sent, with the same plan, and sending or placing them again changes nothing.
use Rattle.std.proofs.Common.{◌≡◌, ℕ, zero, Bool, true, false, not, ◌||◌, ◌&&◌, List, [], ◌∷◌, ◌++◌, length, take, drop, ◌-◌, codes}
use Rattle.std.proofs.Common.{Option, Some, None, is_some, unwrap_or, if◌then◌else◌, refl, sym, ◌∙◌, ap, subst}
use Rattle.std.specs.List.{slice_get}
use Rattle.std.specs.Option.{option_map}
use Rattle.std.proofs.lemmas.List.{append-nil}
use Rattle.std.proofs.lemmas.Bool.{false≢true}
use Rattle.option_table.specs.declared.row.Effect.{Effect}
use Rattle.option_table.specs.declared.row.Effect.TheVariants as effect
use Rattle.farm_types.specs.declared.placed.Word.TheVariants.{Text, Output}
use Rattle.arg_scan.specs.declared.names.Ending.{Ending}
use Rattle.arg_scan.specs.declared.names.Ending.TheVariants.{C}
use Rattle.arg_scan.specs.declared.why.Why.{Why}
use Rattle.arg_scan.specs.declared.why.Why.TheVariants as why
use Rattle.arg_scan.specs.declared.part.Role.TheVariants as role
use Rattle.arg_scan.specs.declared.part.Part.{Part}
use Rattle.arg_scan.specs.declared.part.Part.TheVariants as part
use Rattle.arg_scan.specs.declared.verdict.Action.{Action}
use Rattle.arg_scan.specs.declared.verdict.Action.TheVariants.{Compile, Assemble}
use Rattle.arg_scan.specs.declared.verdict.Plan.{Plan}
use Rattle.arg_scan.specs.declared.verdict.Verdict.TheVariants as verdict
use Rattle.arg_scan.specs.Names.{derived_output, ending_text, ext_of, is_preprocessed, last_name}
use Rattle.arg_scan.specs.Roles.{part_at, word_at}
use Rattle.arg_scan.specs.Forces.{action_of, any_below, asks_assemble, asks_compile, assembles, compiles, end_reasons, first_below}
use Rattle.arg_scan.specs.Forces.{is_output_option, is_source, output_reasons, source_of, when}
use Rattle.arg_scan.specs.Class.{IsRemote, class_of, scan_of, by_end, by_place, first_forced, input_place, is_remote_verdict}
use Rattle.arg_scan.specs.Class.{output_place, output_text, plan_of, verdict_of}
use Rattle.arg_strip.specs.Words.{gather, is_sent, output_of, AsksTheSame, SameRemote, placed_text, placed_word, placed_words, sent_word}
use Rattle.arg_strip.specs.Words.{stripped}
use Rattle.arg_strip.proofs.Labels.{Label, or_false, any_label, any_labels, at_place, gathered_labels, is_source_part, labels, label_at}
use Rattle.arg_strip.proofs.Labels.{output_label, picks, source_label, IsFree}
use Rattle.arg_strip.proofs.Reading.{free_labels, free_places, output_labels, source_labels, text_at}
use Rattle.arg_strip.proofs.Kept.{kept, labels_kept, output_tail, sent_labels, words_of}
use Rattle.arg_strip.proofs.Filtered.{FailsDropped, SkipsDropped, any-append, any-kept, free-kept, kept_again, output-kept, picks-append}
use Rattle.arg_strip.proofs.Filtered.{picks-kept, source-kept, source_is_sent}
use Rattle.arg_strip.proofs.Outputs.{derived_calm, given_calm}

-- what makes a command one that may be sent
pub record IsCalm (words : List (List ℕ)) : Type 0 where
  pub some : words ≡ [] → ⊥
  pub places : first_forced words (length words) ≡ None
  pub whole : slice_get (end_reasons words) 0 ≡ None

calm_by : (f : Option (Why × ℕ)) (e : Option Why) (len : ℕ) (plan : Plan)
    → is_remote_verdict (by_place f (by_end e len (verdict.Remote plan))) ≡ true → (f ≡ None) × (e ≡ None)
calm_by (Some f) e len plan h = absurd (false≢true h)
calm_by None (Some e) len plan h = absurd (false≢true h)
calm_by None None len plan h = (refl, refl)

-- a command that may be sent is one
pub calm_is : (words : List (List ℕ)) → IsRemote words → IsCalm words
calm_is [] h = absurd (false≢true h)
calm_is (word ∷ more) h =
    let words = word ∷ more in
    let parts = calm_by (first_forced words (length words)) (slice_get (end_reasons words) 0) (length words) (plan_of words) h in
    record { some = λ e. cc; places = parts.0; whole = parts.1 }

pub verdict_is : (words : List (List ℕ)) → IsCalm words → verdict_of words ≡ verdict.Remote (plan_of words)
verdict_is [] calm = absurd (calm.some refl)
verdict_is (word ∷ more) calm =
    let words = word ∷ more in
    ap (λ f. by_place f (by_end (slice_get (end_reasons words) 0) (length words) (verdict.Remote (plan_of words)))) calm.places
    ∙ ap (λ e. by_end e (length words) (verdict.Remote (plan_of words))) calm.whole

-- the words that are sent, by the labels of the command
stripped_is : (words : List (List ℕ)) → stripped words ≡ words_of (kept (labels words)) ++ codes "-o" ∷ output_of words ∷ []
stripped_is words =
    ap (λ l. l ++ codes "-o" ∷ output_of words ∷ []) (gathered_labels sent_word words ∙ sent_labels (labels words))

labels_stripped : (words : List (List ℕ)) → IsCalm words → labels (stripped words) ≡ kept (labels words) ++ output_tail (output_of words)
labels_stripped words calm =
    ap labels (stripped_is words) ∙ labels_kept words (output_of words) (free_labels words calm.places) calm.some

output_by : (words : List (List ℕ)) (plan : Plan) (first : Option ℕ)
    → output_text words plan (option_map (λ at. output_place (part_at words at) at) first)
    ≡ unwrap_or (option_map (text_at words) first) (derived_output plan.action (word_at words plan.input) plan.ending)
output_by words plan None = refl
output_by words plan (Some at) = refl

output_is : (words : List (List ℕ))
    → output_of words ≡ unwrap_or (output_label (labels words))
    (derived_output (plan_of words).action (word_at words (plan_of words).input) (plan_of words).ending)
output_is words =
    output_by words (plan_of words) (first_below (is_output_option words) (length words))
    ∙ ap (λ o. unwrap_or o (derived_output (plan_of words).action (word_at words (plan_of words).input) (plan_of words).ending))
    (output_labels words)

output_calm_by : (words : List (List ℕ)) (o : Option (List ℕ)) (action : Action) (source : List ℕ) (ending : Ending)
    → IsFree false false (labels words) → output_label (labels words) ≡ o
    → slice_get (output_reasons (unwrap_or o (derived_output action source ending))) 0 ≡ None
output_calm_by words (Some text) action source ending free h = given_calm words text free h
output_calm_by words None action source ending free h =
    derived_calm (take (length (last_name source) - length (ending_text ending)) (last_name source)) action

-- and the name of its output gives no reason
pub output_calm : (words : List (List ℕ)) → IsCalm words → slice_get (output_reasons (output_of words)) 0 ≡ None
output_calm words calm =
    ap (λ name. slice_get (output_reasons name) 0) (output_is words)
    ∙ output_calm_by words (output_label (labels words)) (plan_of words).action (word_at words (plan_of words).input)
    (plan_of words).ending (free_labels words calm.places) refl

action_dropped : (p : Part) (word : List ℕ) → is_sent p ≡ false → action_of p word ≡ None
action_dropped part.Compiler word h = refl
action_dropped (part.Operand effect) word h = refl
action_dropped (part.Word role.Dash) word h = refl
action_dropped (part.Word (role.Flag effect.Keep operand)) word h = refl
action_dropped (part.Word (role.Flag effect.Strip operand)) word h = refl
action_dropped (part.Word (role.Flag effect.Action operand)) word h = absurd (false≢true (sym h))
action_dropped (part.Word (role.Flag effect.Output operand)) word h = refl
action_dropped (part.Word (role.Flag (effect.Local number) operand)) word h = refl
action_dropped (part.Word (role.Flag effect.Listing operand)) word h = refl
action_dropped (part.Word role.Response) word h = refl
action_dropped (part.Word (role.Source ending)) word h = refl
action_dropped (part.Word role.Other) word h = refl

abbrev pub compile_part : Part → List ℕ → Bool
compile_part p word = asks_compile (action_of p word)

abbrev pub assemble_part : Part → List ℕ → Bool
assemble_part p word = asks_assemble (action_of p word)

same_any : (test : Part → List ℕ → Bool) (words : List (List ℕ)) → FailsDropped test
    → any_label test (output_tail (output_of words)) ≡ false → IsCalm words
    → any_below (at_place test (stripped words)) (length (stripped words)) ≡ any_below (at_place test words) (length words)
same_any test words fails tail calm =
    any_labels test (stripped words)
    ∙ ap (any_label test) (labels_stripped words calm)
    ∙ any-append test (kept (labels words)) (output_tail (output_of words))
    ∙ ap (λ b. any_label test (kept (labels words)) || b) tail
    ∙ sym (or_false (any_label test (kept (labels words))))
    ∙ any-kept test fails (labels words)
    ∙ sym (any_labels test words)

same_compile : (words : List (List ℕ)) → IsCalm words → any_below (compiles (stripped words)) (length (stripped words))
    ≡ any_below (compiles words) (length words)
same_compile words calm = same_any compile_part words (λ p word h. ap asks_compile (action_dropped p word h)) refl calm

same_assemble : (words : List (List ℕ)) → IsCalm words → any_below (assembles (stripped words)) (length (stripped words))
    ≡ any_below (assembles words) (length words)
same_assemble words calm = same_any assemble_part words (λ p word h. ap asks_assemble (action_dropped p word h)) refl calm

same_source : (words : List (List ℕ)) → IsCalm words → any_below (is_source (stripped words)) (length (stripped words))
    ≡ any_below (is_source words) (length words)
same_source words calm = same_any is_source_part words source_is_sent refl calm

abbrev pub end_by : Bool → Bool → Bool → Option Why
end_by compile assemble source =
    slice_get (when (not (compile || assemble)) why.NoAction ++ when (compile && assemble) why.BothActions
    ++ when (not source) why.NoInput) 0

some_stripped : (words : List (List ℕ)) → stripped words ≡ [] → ⊥
some_stripped words h = not_nil _ h
  where
    not_nil : (l : List (List ℕ)) → l ++ codes "-o" ∷ output_of words ∷ [] ≡ [] → ⊥
    not_nil [] h = cc
    not_nil (x ∷ l) h = cc

-- the words that are sent may be sent
pub stripped_calm : (words : List (List ℕ)) → IsCalm words → IsCalm (stripped words)
stripped_calm words calm = record {
  some = some_stripped words;
  places = free_places (stripped words) (subst (λ l. IsFree false false l) (sym (labels_stripped words calm))
      (free-kept (labels words) (output_of words) false false (output_calm words calm) (free_labels words calm.places)));
  whole =
      ap (λ b. end_by b (any_below (assembles (stripped words)) (length (stripped words)))
      (any_below (is_source (stripped words)) (length (stripped words)))) (same_compile words calm)
      ∙ ap (λ b. end_by (any_below (compiles words) (length words)) b
      (any_below (is_source (stripped words)) (length (stripped words)))) (same_assemble words calm)
      ∙ ap (λ b. end_by (any_below (compiles words) (length words)) (any_below (assembles words) (length words)) b) (same_source words calm)
      ∙ calm.whole;
}

pub stripped_is_remote : (words : List (List ℕ)) → IsRemote words → IsRemote (stripped words)
stripped_is_remote words remote = ap is_remote_verdict (verdict_is (stripped words) (stripped_calm words (calm_is words remote)))

-- the same output
pub same_output : (words : List (List ℕ)) → IsRemote words → output_of (stripped words) ≡ output_of words
same_output words remote =
    output_is (stripped words)
    ∙ ap (λ o. unwrap_or o (derived_output (plan_of (stripped words)).action
    (word_at (stripped words) (plan_of (stripped words)).input) (plan_of (stripped words)).ending))
    (ap output_label (labels_stripped words (calm_is words remote)) ∙ output-kept (labels words) (output_of words))

-- the same action
pub same_action : (words : List (List ℕ)) → IsRemote words → (plan_of (stripped words)).action ≡ (plan_of words).action
same_action words remote = ap (λ b. if b then Assemble else Compile) (same_assemble words (calm_is words remote))

abbrev ending_in : Option Label → Ending
ending_in None = C
ending_in (Some l) = unwrap_or (source_of l.part) C

ending_by : (words : List (List ℕ)) (first : Option ℕ) → unwrap_or (source_of (part_at words (unwrap_or first 0))) C
    ≡ ending_in (option_map (label_at words) first)
ending_by words None = refl
ending_by words (Some at) = refl

ending_is : (words : List (List ℕ)) → (plan_of words).ending ≡ ending_in (source_label (labels words))
ending_is words = ending_by words (first_below (is_source words) (length words)) ∙ ap ending_in (source_labels words)

same_label : (words : List (List ℕ)) → IsCalm words → source_label (labels (stripped words)) ≡ source_label (labels words)
same_label words calm = ap source_label (labels_stripped words calm) ∙ source-kept (labels words) (output_of words)

-- the same ending of the source's name
pub same_ending : (words : List (List ℕ)) → IsRemote words → (plan_of (stripped words)).ending ≡ (plan_of words).ending
same_ending words remote =
    ending_is (stripped words) ∙ ap ending_in (same_label words (calm_is words remote)) ∙ sym (ending_is words)

abbrev word_in : List ℕ → Option Label → List ℕ
word_in first None = first
word_in first (Some l) = l.word

word_by : (words : List (List ℕ)) (first : Option ℕ)
    → word_at words (unwrap_or first 0) ≡ word_in (word_at words 0) (option_map (label_at words) first)
word_by words None = refl
word_by words (Some at) = refl

input_is : (words : List (List ℕ)) → word_at words (plan_of words).input ≡ word_in (word_at words 0) (source_label (labels words))
input_is words = word_by words (first_below (is_source words) (length words)) ∙ ap (word_in (word_at words 0)) (source_labels words)

same_first : (words : List (List ℕ)) → (words ≡ [] → ⊥) → word_at (stripped words) 0 ≡ word_at words 0
same_first [] some = absurd (some refl)
same_first (word ∷ more) some = ap (λ l. word_at l 0) (stripped_is (word ∷ more))

-- the same source word
pub same_input : (words : List (List ℕ)) → IsRemote words → word_at (stripped words) (plan_of (stripped words)).input
    ≡ word_at words (plan_of words).input
same_input words remote =
    let calm = calm_is words remote in
    input_is (stripped words)
    ∙ ap (word_in (word_at (stripped words) 0)) (same_label words calm)
    ∙ ap (λ first. word_in first (source_label (labels words))) (same_first words calm.some)
    ∙ sym (input_is words)

sent_skips : SkipsDropped sent_word
sent_skips p word h = ap (λ b. if b then Some word else None) h

placed_skips : SkipsDropped placed_word
placed_skips p word h = ap (λ b. if b then Some (placed_text (source_of p) word) else None) h

-- what is sent is what is sent again
pub sent_again : (words : List (List ℕ)) → IsRemote words → stripped (stripped words) ≡ stripped words
sent_again words remote =
    let calm = calm_is words remote in
    stripped_is (stripped words)
    ∙ ap (λ l. words_of (kept l) ++ codes "-o" ∷ output_of (stripped words) ∷ []) (labels_stripped words calm)
    ∙ ap (λ l. words_of l ++ codes "-o" ∷ output_of (stripped words) ∷ []) (kept_again (labels words) (output_of words))
    ∙ ap (λ name. words_of (kept (labels words)) ++ codes "-o" ∷ name ∷ []) (same_output words remote)
    ∙ sym (stripped_is words)

placed_is : (words : List (List ℕ)) → placed_words words ≡ picks placed_word (labels words) ++ Text (codes "-o") ∷ Output ∷ []
placed_is words = ap (λ l. l ++ Text (codes "-o") ∷ Output ∷ []) (gathered_labels placed_word words)

-- what is sent is compiled by the words that compile the command
pub placed_again : (words : List (List ℕ)) → IsRemote words → placed_words (stripped words) ≡ placed_words words
placed_again words remote =
    let calm = calm_is words remote in
    placed_is (stripped words)
    ∙ ap (λ l. picks placed_word l ++ Text (codes "-o") ∷ Output ∷ []) (labels_stripped words calm)
    ∙ ap (λ l. l ++ Text (codes "-o") ∷ Output ∷ [])
    (picks-append placed_word (kept (labels words)) (output_tail (output_of words))
    ∙ append-nil (picks placed_word (kept (labels words)))
    ∙ picks-kept placed_word placed_skips (labels words))
    ∙ sym (placed_is words)

-- the words that are sent ask for the same
pub asks_the_same : (words : List (List ℕ)) → IsRemote words → AsksTheSame words (stripped words)
asks_the_same words remote =
    let calm = calm_is words remote in
    let sent = stripped words in
    subst (λ v. SameRemote words (scan_of words v) sent (class_of sent)) (sym (verdict_is words calm))
    (subst (λ v. SameRemote words (scan_of words (verdict.Remote (plan_of words))) sent (scan_of sent v))
    (sym (verdict_is sent (stripped_calm words calm))) (
      same_action words remote,
      same_input words remote,
      same_output words remote,
      ap is_preprocessed (same_ending words remote),
      ap ext_of (same_ending words remote),
    ))
