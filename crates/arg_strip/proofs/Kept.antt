-- The labels of the words that are sent are the labels that are kept, and those of the output.
use Rattle.std.proofs.Common.{◌≡◌, ℕ, Bool, true, false, ◌||◌, List, [], ◌∷◌, ◌++◌, cond, codes, Option, Some, None, if◌then◌else◌, refl}
use Rattle.std.proofs.Common.{sym, ◌∙◌, ap, append_assoc}
use Rattle.std.specs.List.{slice_get}
use Rattle.std.specs.Option.{option_to_list}
use Rattle.std.proofs.lemmas.Bool.{false≢true}
use Rattle.option_table.specs.declared.row.Effect.{Effect}
use Rattle.option_table.specs.declared.row.Effect.TheVariants as effect
use Rattle.option_table.specs.Gcc.{gcc_rows}
use Rattle.arg_scan.specs.declared.part.Operand.TheVariants as operand
use Rattle.arg_scan.specs.declared.part.Role.TheVariants as role
use Rattle.arg_scan.specs.declared.part.Part.{Part}
use Rattle.arg_scan.specs.declared.part.Part.TheVariants as part
use Rattle.arg_scan.specs.Roles.{role_of, owed}
use Rattle.arg_scan.specs.Forces.{part_reasons}
use Rattle.arg_strip.specs.Words.{effect_is_sent, is_sent, sent_word}
use Rattle.arg_strip.proofs.Labels.{Label, label, labels, labels_from, tail_part, picks, is_nil, IsFree}

-- the labels of the words that are sent
abbrev pub kept : List Label → List Label
kept [] = []
kept (l ∷ more) = if is_sent l.part then l ∷ kept more else kept more

abbrev pub words_of : List Label → List (List ℕ)
words_of [] = []
words_of (l ∷ more) = l.word ∷ words_of more

-- the option whose operand is missing behind the words
abbrev pub final_owner : Option Effect → List (List ℕ) → Option Effect
final_owner owner [] = owner
final_owner owner (word ∷ more) = final_owner (owed (tail_part owner word)) more

-- an option without one that is not sent
abbrev pub kept_owner : Option Effect → Option Effect
kept_owner None = None
kept_owner (Some effect) = if effect_is_sent effect then Some effect else None

keep_part : (owner : Option Effect) (word : List ℕ) → is_sent (tail_part owner word) ≡ true
    → tail_part (kept_owner owner) word ≡ tail_part owner word
keep_part None word h = refl
keep_part (Some effect) word h = ap (λ b. tail_part (if b then Some effect else None) word) h

owed_kept : (p : Part) → is_sent p ≡ true → owed p ≡ kept_owner (owed p)
owed_kept part.Compiler h = refl
owed_kept (part.Operand effect) h = refl
owed_kept (part.Word role.Dash) h = refl
owed_kept (part.Word (role.Flag effect operand.Absent)) h = refl
owed_kept (part.Word (role.Flag effect (operand.Attached from))) h = refl
owed_kept (part.Word (role.Flag effect operand.Next)) h = sym (ap (λ b. if b then Some effect else None) h)
owed_kept (part.Word role.Response) h = refl
owed_kept (part.Word (role.Source ending)) h = refl
owed_kept (part.Word role.Other) h = refl

owed_dropped : (p : Part) → is_sent p ≡ false → None ≡ kept_owner (owed p)
owed_dropped part.Compiler h = refl
owed_dropped (part.Operand effect) h = refl
owed_dropped (part.Word role.Dash) h = refl
owed_dropped (part.Word (role.Flag effect operand.Absent)) h = refl
owed_dropped (part.Word (role.Flag effect (operand.Attached from))) h = refl
owed_dropped (part.Word (role.Flag effect operand.Next)) h = sym (ap (λ b. if b then Some effect else None) h)
owed_dropped (part.Word role.Response) h = refl
owed_dropped (part.Word (role.Source ending)) h = refl
owed_dropped (part.Word role.Other) h = refl

drop_owner : (owner : Option Effect) (word : List ℕ) → is_sent (tail_part owner word) ≡ false
    → kept_owner owner ≡ kept_owner (owed (tail_part owner word))
drop_owner None word h = owed_dropped (part.Word (role_of word)) h
drop_owner (Some effect) word h = ap (λ b. if b then Some effect else None) h

relabel_step : (owner : Option Effect) (word : List ℕ) (k : List Label) (tail : List (List ℕ))
    → labels_from (kept_owner (owed (tail_part owner word))) (words_of k ++ tail) ≡ k ++ labels_from None tail → (b : Bool)
    → is_sent (tail_part owner word) ≡ b
    → labels_from (kept_owner owner) (words_of (cond b (label (tail_part owner word) word ∷ k) k) ++ tail)
    ≡ cond b (label (tail_part owner word) word ∷ k) k ++ labels_from None tail
relabel_step owner word k tail rest true h =
    let p = tail_part owner word in
    ap (λ q. label q word ∷ labels_from (owed q) (words_of k ++ tail)) (keep_part owner word h)
    ∙ ap (λ o. label p word ∷ labels_from o (words_of k ++ tail)) (owed_kept p h)
    ∙ ap (λ l. label p word ∷ l) rest
relabel_step owner word k tail rest false h = ap (λ o. labels_from o (words_of k ++ tail)) (drop_owner owner word h) ∙ rest

-- the words that are sent have the labels that they had
relabel : (owner : Option Effect) (words tail : List (List ℕ)) → final_owner owner words ≡ None
    → labels_from (kept_owner owner) (words_of (kept (labels_from owner words)) ++ tail) ≡ kept (labels_from owner words)
    ++ labels_from None tail
relabel owner [] tail h = ap (λ o. labels_from (kept_owner o) tail) h
relabel owner (word ∷ more) tail h =
    relabel_step owner word (kept (labels_from (owed (tail_part owner word)) more)) tail
    (relabel (owed (tail_part owner word)) more tail h) (is_sent (tail_part owner word)) refl

no_owed : (p : Part) (word : List ℕ) (last source output : Bool) → slice_get (part_reasons p word last source output) 0 ≡ None
    → last ≡ true → owed p ≡ None
no_owed part.Compiler word last source output h l = refl
no_owed (part.Operand effect) word last source output h l = refl
no_owed (part.Word role.Dash) word last source output h l = refl
no_owed (part.Word (role.Flag effect operand.Absent)) word last source output h l = refl
no_owed (part.Word (role.Flag effect (operand.Attached from))) word last source output h l = refl
no_owed (part.Word (role.Flag effect operand.Next)) word true source output h l = cc
no_owed (part.Word (role.Flag effect operand.Next)) word false source output h l = absurd (false≢true l)
no_owed (part.Word role.Response) word last source output h l = refl
no_owed (part.Word (role.Source ending)) word last source output h l = refl
no_owed (part.Word role.Other) word last source output h l = refl

-- where no label gives a reason, no operand is missing
pub closed : (owner : Option Effect) (words : List (List ℕ)) (source output : Bool) → IsFree source output (labels_from owner words)
    → (is_nil (labels_from owner words) ≡ true → owner ≡ None) → final_owner owner words ≡ None
closed owner [] source output free h = h refl
closed owner (word ∷ more) source output free h =
    closed (owed (tail_part owner word)) more _ _ free.1 (λ last. no_owed (tail_part owner word) word _ source output free.0 last)

-- the labels of `-o` and a name behind it
abbrev pub output_tail : List ℕ → List Label
output_tail name =
    label (part.Word (role.Flag effect.Output operand.Next)) (codes "-o") ∷ label (part.Operand effect.Output) name ∷ []

output_role : role_of (codes "-o") ≡ role.Flag effect.Output operand.Next
unfolding role_of gcc_rows
output_role = refl

tail_labels : (name : List ℕ) → labels_from None (codes "-o" ∷ name ∷ []) ≡ output_tail name
tail_labels name = ap (λ r. label (part.Word r) (codes "-o") ∷ labels_from (owed (part.Word r)) (name ∷ [])) output_role

-- the labels of the kept words of a command, with an output behind them
pub labels_kept : (words : List (List ℕ)) (name : List ℕ) → IsFree false false (labels words) → (words ≡ [] → ⊥)
    → labels (words_of (kept (labels words)) ++ codes "-o" ∷ name ∷ []) ≡ kept (labels words) ++ output_tail name
labels_kept [] name free some = absurd (some refl)
labels_kept (word ∷ more) name free some =
    ap (λ l. label part.Compiler word ∷ l)
    (relabel None more (codes "-o" ∷ name ∷ []) (closed None more _ _ free.1 (λ _. refl))
    ∙ ap (λ l. kept (labels_from None more) ++ l) (tail_labels name))

picks_step : (l : Label) (more : List Label) (b : Bool) → (if b then l.word ∷ words_of (kept more) else words_of (kept more))
    ≡ option_to_list (if b then Some l.word else None) ++ words_of (kept more)
picks_step l more true = refl
picks_step l more false = refl

words_step : (l : Label) (k : List Label) (b : Bool) → words_of (if b then l ∷ k else k) ≡ (if b then l.word ∷ words_of k else words_of k)
words_step l k true = refl
words_step l k false = refl

-- the words that are picked to be sent are those of the labels that are kept
pub sent_labels : (ls : List Label) → picks sent_word ls ≡ words_of (kept ls)
sent_labels [] = refl
sent_labels (l ∷ more) =
    ap (λ w. option_to_list (sent_word l.part l.word) ++ w) (sent_labels more)
    ∙ sym (words_step l (kept more) (is_sent l.part) ∙ picks_step l more (is_sent l.part))
