-- What the places of a command show, read from its labels: the source, the output and the reasons.
use Rattle.std.proofs.Common.{◌≡◌, ℕ, zero, suc, ◌+◌, ◌<◌, ◌≤◌, ◌==◌, Bool, true, false, ◌||◌, List, [], ◌∷◌, length, drop, get_or}
use Rattle.std.proofs.Common.{Option, Some, None, is_some, if◌then◌else◌, refl, sym, ◌∙◌, ap, subst, ◌⊎◌, inl, inr, arith}
use Rattle.std.specs.List.{slice_get}
use Rattle.std.specs.Option.{option_map, option_or}
use Rattle.std.proofs.lemmas.Bool.Decides.{eqb_tells, leb_tells}
use Rattle.arg_scan.specs.declared.why.Why.{Why}
use Rattle.arg_scan.specs.declared.part.Operand.TheVariants as operand
use Rattle.arg_scan.specs.declared.part.Role.TheVariants as role
use Rattle.arg_scan.specs.declared.part.Part.{Part}
use Rattle.arg_scan.specs.declared.part.Part.TheVariants as part
use Rattle.arg_scan.specs.Roles.{part_at, word_at}
use Rattle.arg_scan.specs.Forces.{first_below, any_below, part_reasons}
use Rattle.arg_scan.specs.Class.{first_forced, output_place, reason_at}
use Rattle.arg_scan.proofs.Causes.{all_none, none_below}
use Rattle.arg_strip.proofs.Labels.{none_on, one_on, some_or, zero_on, Label, label_at, labels, labels_of, labels_all, at_place}
use Rattle.arg_strip.proofs.Labels.{is_source_part, is_output_part, source_label, first_word, operand_text, output_label, is_nil, IsFree}

or_none : {X : Type 0} (o : Option X) → o ≡ option_or o None
or_none (Some x) = refl
or_none None = refl

-- the first of one place more
first_step : {X : Type 0} (h : ℕ → X) (o : Option ℕ) (b : Bool) (n : ℕ) (rest : Option X)
    → option_or (option_map h (option_or o (if b then Some n else None))) rest ≡ option_or (option_map h o) (if b then Some (h n) else rest)
first_step h (Some k) b n rest = refl
first_step h None true n rest = refl
first_step h None false n rest = refl

source_from : (words : List (List ℕ)) (len m n : ℕ) → n + m ≡ len
    → option_map (label_at words) (first_below (at_place is_source_part words) len)
    ≡ option_or (option_map (label_at words) (first_below (at_place is_source_part words) n)) (source_label (labels_of words n m))
source_from words len zero n e =
    ap (λ k. option_map (label_at words) (first_below (at_place is_source_part words) k)) (none_on n len e) ∙ or_none _
source_from words len (suc m) n e =
    source_from words len m (suc n) (one_on n m len e)
    ∙ first_step (label_at words) (first_below (at_place is_source_part words) n) (at_place is_source_part words n) n
    (source_label (labels_of words (suc n) m))

-- the first source by its place is the first by its label
pub source_labels : (words : List (List ℕ))
    → option_map (label_at words) (first_below (at_place is_source_part words) (length words)) ≡ source_label (labels words)
source_labels words =
    source_from words (length words) (length words) 0 (zero_on (length words)) ∙ ap source_label (labels_all words)

-- the name of the output whose option stands at a place
abbrev pub text_at : List (List ℕ) → ℕ → List ℕ
text_at words at = drop (output_place (part_at words at) at).from (word_at words (output_place (part_at words at) at).at)

past_end : (words : List (List ℕ)) (n : ℕ) → length words ≤ n → get_or words n [] ≡ []
past_end [] n h = refl
past_end (word ∷ more) zero h = absurd (omega arith)
past_end (word ∷ more) (suc n) h = past_end more n (omega arith)

next_word : (words : List (List ℕ)) (n m : ℕ) → suc n + m ≡ length words
    → drop 0 (word_at words (suc n)) ≡ first_word (labels_of words (suc n) m)
next_word words n zero e = ap (drop 0) (past_end words (suc n) (omega arith))
next_word words n (suc m) e = refl

text_is : (words : List (List ℕ)) (n m : ℕ) → suc n + m ≡ length words → (p : Part)
    → drop (output_place p n).from (word_at words (output_place p n).at) ≡ operand_text p (word_at words n) (labels_of words (suc n) m)
text_is words n m e part.Compiler = next_word words n m e
text_is words n m e (part.Operand effect) = next_word words n m e
text_is words n m e (part.Word role.Dash) = next_word words n m e
text_is words n m e (part.Word (role.Flag effect operand.Absent)) = next_word words n m e
text_is words n m e (part.Word (role.Flag effect (operand.Attached from))) = refl
text_is words n m e (part.Word (role.Flag effect operand.Next)) = next_word words n m e
text_is words n m e (part.Word role.Response) = next_word words n m e
text_is words n m e (part.Word (role.Source ending)) = next_word words n m e
text_is words n m e (part.Word role.Other) = next_word words n m e

output_from : (words : List (List ℕ)) (m n : ℕ) → n + m ≡ length words
    → option_map (text_at words) (first_below (at_place is_output_part words) (length words))
    ≡ option_or (option_map (text_at words) (first_below (at_place is_output_part words) n)) (output_label (labels_of words n m))
output_from words zero n e =
    ap (λ k. option_map (text_at words) (first_below (at_place is_output_part words) k)) (none_on n (length words) e) ∙ or_none _
output_from words (suc m) n e =
    let on = one_on n m (length words) e in
    output_from words m (suc n) on
    ∙ first_step (text_at words) (first_below (at_place is_output_part words) n) (at_place is_output_part words n) n
    (output_label (labels_of words (suc n) m))
    ∙ ap (λ text. option_or (option_map (text_at words) (first_below (at_place is_output_part words) n))
    (if at_place is_output_part words n then Some text else output_label (labels_of words (suc n) m)))
    (text_is words n m on (part_at words n))

-- the output's name by its place is that by its label
pub output_labels : (words : List (List ℕ))
    → option_map (text_at words) (first_below (at_place is_output_part words) (length words)) ≡ output_label (labels words)
output_labels words = output_from words (length words) 0 (zero_on (length words)) ∙ ap output_label (labels_all words)

last_is : (words : List (List ℕ)) (n m : ℕ) → n + suc m ≡ length words → is_nil (labels_of words (suc n) m) ≡ (n + 1 == length words)
last_is words n zero e = elim (eqb_tells (n + 1) (length words)) [ inl h ↦ sym h.0 | inr h ↦ absurd (h.1 (omega arith)) ]
last_is words n (suc m) e = elim (eqb_tells (n + 1) (length words)) [ inl h ↦ absurd (omega (arith, h.1)) | inr h ↦ sym h.0 ]

abbrev seen_source : List (List ℕ) → ℕ → Bool
seen_source words n = any_below (at_place is_source_part words) n

abbrev seen_output : List (List ℕ) → ℕ → Bool
seen_output words n = any_below (at_place is_output_part words) n

free_from : (words : List (List ℕ)) (m n : ℕ) → n + m ≡ length words → ((k : ℕ) → k < length words → reason_at words k ≡ None)
    → IsFree (seen_source words n) (seen_output words n) (labels_of words n m)
free_from words zero n e none = tt
free_from words (suc m) n e none =
    let rest = free_from words m (suc n) (one_on n m (length words) e) none in
    let more = labels_of words (suc n) m in (
      ap (λ last. slice_get (part_reasons (part_at words n) (word_at words n) last (seen_source words n) (seen_output words n)) 0)
          (last_is words n m e)
          ∙ none n (omega arith),
      subst (λ b. IsFree (seen_source words n || at_place is_source_part words n) b more)
          (some_or (first_below (at_place is_output_part words) n) (at_place is_output_part words n) n)
          (subst (λ b. IsFree b (seen_output words (suc n)) more)
          (some_or (first_below (at_place is_source_part words) n) (at_place is_source_part words n) n) rest),
    )

-- a command none of whose places gives a reason has free labels
pub free_labels : (words : List (List ℕ)) → first_forced words (length words) ≡ None → IsFree false false (labels words)
free_labels words h =
    subst (λ l. IsFree false false l) (labels_all words)
    (free_from words (length words) 0 (zero_on (length words)) (λ k l. none_below words (length words) k h l))

places_from : (words : List (List ℕ)) (m n : ℕ) → n + m ≡ length words
    → IsFree (seen_source words n) (seen_output words n) (labels_of words n m) → (k : ℕ) → n ≤ k → k < length words
    → reason_at words k ≡ None
places_from words zero n e free k low high = absurd (omega arith)
places_from words (suc m) n e free k low high =
    let more = labels_of words (suc n) m in
    let rest =
    subst (λ b. IsFree (seen_source words (suc n)) b more)
    (sym (some_or (first_below (at_place is_output_part words) n) (at_place is_output_part words n) n))
    (subst (λ b. IsFree b (seen_output words n || at_place is_output_part words n) more)
    (sym (some_or (first_below (at_place is_source_part words) n) (at_place is_source_part words n) n)) free.1) in
    elim (leb_tells (suc n) k) [
      | inl above ↦ places_from words m (suc n) (one_on n m (length words) e) rest k above.1 high
      | inr not ↦ (let same : n ≡ k = omega (arith, not.1) in
          subst (λ j. reason_at words j ≡ None) same
          (sym (ap (λ last. slice_get
          (part_reasons (part_at words n) (word_at words n) last (seen_source words n) (seen_output words n)) 0)
          (last_is words n m e)) ∙ free.0))
    ]

-- and the other way round
pub free_places : (words : List (List ℕ)) → IsFree false false (labels words) → first_forced words (length words) ≡ None
free_places words free =
    all_none words (length words)
    (λ k l. places_from words (length words) 0 (zero_on (length words))
    (subst (λ l. IsFree false false l) (sym (labels_all words)) free) k (omega arith) l)
