-- What the kept labels show: the same of all but the output.
use Rattle.std.proofs.Common.{◌≡◌, ℕ, Bool, true, false, ◌||◌, List, [], ◌∷◌, ◌++◌, cond, codes, Option, Some, None, is_some}
use Rattle.std.proofs.Common.{if◌then◌else◌, refl, sym, ◌∙◌, ap, subst, append_assoc}
use Rattle.std.specs.List.{slice_get}
use Rattle.std.specs.Option.{option_to_list}
use Rattle.std.proofs.lemmas.Bool.{false≢true}
use Rattle.option_table.specs.declared.row.Effect.{Effect}
use Rattle.option_table.specs.declared.row.Effect.TheVariants as effect
use Rattle.arg_scan.specs.declared.why.Why.{Why}
use Rattle.arg_scan.specs.declared.part.Operand.{Operand}
use Rattle.arg_scan.specs.declared.part.Operand.TheVariants as operand
use Rattle.arg_scan.specs.declared.part.Role.TheVariants as role
use Rattle.arg_scan.specs.declared.part.Part.{Part}
use Rattle.arg_scan.specs.declared.part.Part.TheVariants as part
use Rattle.arg_scan.specs.Forces.{effect_reasons, misses_operand, names_output, output_reasons, part_reasons, source_of, when}
use Rattle.arg_strip.specs.Words.{effect_is_sent, is_sent}
use Rattle.arg_strip.proofs.Labels.{Label, or_false, picks, any_label, source_label, operand_text, output_label, is_source_part}
use Rattle.arg_strip.proofs.Labels.{is_output_part, is_nil, IsFree}
use Rattle.arg_strip.proofs.Kept.{kept, output_tail}

-- what is never picked of a word that isn't sent
abbrev pub SkipsDropped : {A : Type 0} → (Part → List ℕ → Option A) → Type 0
SkipsDropped pick = (p : Part) (word : List ℕ) → is_sent p ≡ false → pick p word ≡ None

-- what never holds of a word that isn't sent
abbrev pub FailsDropped : (Part → List ℕ → Bool) → Type 0
FailsDropped test = (p : Part) (word : List ℕ) → is_sent p ≡ false → test p word ≡ false

pub picks-append : {A : Type 0} (pick : Part → List ℕ → Option A) (ls more : List Label)
    → picks pick (ls ++ more) ≡ picks pick ls ++ picks pick more
picks-append pick [] more = refl
picks-append pick (l ∷ ls) more =
    ap (λ w. option_to_list (pick l.part l.word) ++ w) (picks-append pick ls more)
    ∙ sym (append_assoc (option_to_list (pick l.part l.word)) (picks pick ls) (picks pick more))

picks_step : {A : Type 0} (pick : Part → List ℕ → Option A) (l : Label) (k : List Label) (b : Bool)
    → (b ≡ false → pick l.part l.word ≡ None) → picks pick (if b then l ∷ k else k) ≡ option_to_list (pick l.part l.word) ++ picks pick k
picks_step pick l k true h = refl
picks_step pick l k false h = sym (ap (λ o. option_to_list o ++ picks pick k) (h refl))

pub picks-kept : {A : Type 0} (pick : Part → List ℕ → Option A) (skips : SkipsDropped pick) (ls : List Label)
    → picks pick (kept ls) ≡ picks pick ls
picks-kept pick skips [] = refl
picks-kept pick skips (l ∷ ls) =
    picks_step pick l (kept ls) (is_sent l.part) (skips l.part l.word)
    ∙ ap (λ w. option_to_list (pick l.part l.word) ++ w) (picks-kept pick skips ls)

any_step : (test : Part → List ℕ → Bool) (l : Label) (k : List Label) (b : Bool) → (b ≡ false → test l.part l.word ≡ false)
    → any_label test (if b then l ∷ k else k) ≡ (test l.part l.word || any_label test k)
any_step test l k true h = refl
any_step test l k false h = sym (ap (λ t. t || any_label test k) (h refl))

pub any-append : (test : Part → List ℕ → Bool) (ls more : List Label)
    → any_label test (ls ++ more) ≡ (any_label test ls || any_label test more)
any-append test [] more = refl
any-append test (l ∷ ls) more = ap (λ b. test l.part l.word || b) (any-append test ls more) ∙ or_assoc (test l.part l.word) _ _
  where
    or_assoc : (a b c : Bool) → (a || (b || c)) ≡ ((a || b) || c)
    or_assoc true b c = refl
    or_assoc false b c = refl

pub any-kept : (test : Part → List ℕ → Bool) (fails : FailsDropped test) (ls : List Label) → any_label test (kept ls) ≡ any_label test ls
any-kept test fails [] = refl
any-kept test fails (l ∷ ls) =
    any_step test l (kept ls) (is_sent l.part) (fails l.part l.word)
    ∙ ap (λ b. test l.part l.word || b) (any-kept test fails ls)

pub source_is_sent : FailsDropped is_source_part
source_is_sent part.Compiler word h = refl
source_is_sent (part.Operand effect) word h = refl
source_is_sent (part.Word role.Dash) word h = refl
source_is_sent (part.Word (role.Flag effect operand)) word h = refl
source_is_sent (part.Word role.Response) word h = refl
source_is_sent (part.Word (role.Source ending)) word h = absurd (false≢true (sym h))
source_is_sent (part.Word role.Other) word h = refl

-- an output option is never sent
output_not_sent : (p : Part) → is_sent p ≡ true → names_output p ≡ false
output_not_sent part.Compiler h = refl
output_not_sent (part.Operand effect) h = refl
output_not_sent (part.Word role.Dash) h = refl
output_not_sent (part.Word (role.Flag effect.Keep operand)) h = refl
output_not_sent (part.Word (role.Flag effect.Strip operand)) h = refl
output_not_sent (part.Word (role.Flag effect.Action operand)) h = refl
output_not_sent (part.Word (role.Flag effect.Output operand)) h = absurd (false≢true h)
output_not_sent (part.Word (role.Flag (effect.Local number) operand)) h = refl
output_not_sent (part.Word (role.Flag effect.Listing operand)) h = refl
output_not_sent (part.Word role.Response) h = refl
output_not_sent (part.Word (role.Source ending)) h = refl
output_not_sent (part.Word role.Other) h = refl

source_step : (l : Label) (k more : List Label) (b : Bool) → (b ≡ false → is_source_part l.part l.word ≡ false)
    → source_label ((if b then l ∷ k else k) ++ more) ≡ (if is_source_part l.part l.word then Some l else source_label (k ++ more))
source_step l k more true h = refl
source_step l k more false h = sym (ap (λ t. if t then Some l else source_label (k ++ more)) (h refl))

pub source-kept : (ls : List Label) (name : List ℕ) → source_label (kept ls ++ output_tail name) ≡ source_label ls
source-kept [] name = refl
source-kept (l ∷ ls) name =
    source_step l (kept ls) (output_tail name) (is_sent l.part) (source_is_sent l.part l.word)
    ∙ ap (λ o. if is_source_part l.part l.word then Some l else o) (source-kept ls name)

output_step : (l : Label) (k more : List Label) (b : Bool) → is_sent l.part ≡ b
    → output_label ((if b then l ∷ k else k) ++ more) ≡ output_label (k ++ more)
output_step l k more true h =
    ap (λ t. if t then Some (operand_text l.part l.word (k ++ more)) else output_label (k ++ more)) (output_not_sent l.part h)
output_step l k more false h = refl

pub output-kept : (ls : List Label) (name : List ℕ) → output_label (kept ls ++ output_tail name) ≡ Some name
output-kept [] name = refl
output-kept (l ∷ ls) name = output_step l (kept ls) (output_tail name) (is_sent l.part) refl ∙ output-kept ls name

pub when_free : (b : Bool) (why : Why) (more : List Why) → slice_get (when b why ++ more) 0 ≡ None → slice_get more 0 ≡ None
when_free true why more h = cc
when_free false why more h = h

calm_effect : (e : Effect) (o : Operand) (word : List ℕ) (output : Bool) → effect_is_sent e ≡ true
    → slice_get (effect_reasons e o word output) 0 ≡ None → slice_get (effect_reasons e o word false) 0 ≡ None
calm_effect effect.Keep o word output sent h = refl
calm_effect effect.Strip o word output sent h = refl
calm_effect effect.Action o word output sent h = refl
calm_effect effect.Output o word output sent h = absurd (false≢true sent)
calm_effect (effect.Local number) o word output sent h = h
calm_effect effect.Listing o word output sent h = h

calm_operand : (e : Effect) (word : List ℕ) (last source output : Bool) → effect_is_sent e ≡ true
    → slice_get (part_reasons (part.Operand e) word false source false) 0 ≡ None
calm_operand effect.Keep word last source output sent = refl
calm_operand effect.Strip word last source output sent = refl
calm_operand effect.Action word last source output sent = refl
calm_operand effect.Output word last source output sent = absurd (false≢true sent)
calm_operand (effect.Local number) word last source output sent = refl
calm_operand effect.Listing word last source output sent = refl

-- a word that is sent and gave no reason gives none before other words, behind no output option
calm : (p : Part) (word : List ℕ) (last source output : Bool) → is_sent p ≡ true
    → slice_get (part_reasons p word last source output) 0 ≡ None → slice_get (part_reasons p word false source false) 0 ≡ None
calm part.Compiler word last source output sent h = refl
calm (part.Operand e) word last source output sent h = calm_operand e word last source output sent
calm (part.Word role.Dash) word last source output sent h = h
calm (part.Word (role.Flag e operand.Absent)) word last source output sent h = calm_effect e operand.Absent word output sent h
calm (part.Word (role.Flag e (operand.Attached from))) word last source output sent h =
    calm_effect e (operand.Attached from) word output sent h
calm (part.Word (role.Flag e operand.Next)) word last source output sent h =
    calm_effect e operand.Next word output sent (when_free last _ _ h)
calm (part.Word role.Response) word last source output sent h = h
calm (part.Word (role.Source ending)) word last source output sent h = h
calm (part.Word role.Other) word last source output sent h = h

not_nil : (ls : List Label) (name : List ℕ) → is_nil (ls ++ output_tail name) ≡ false
not_nil [] name = refl
not_nil (l ∷ ls) name = refl

free_tail : (name : List ℕ) (source : Bool) → slice_get (output_reasons name) 0 ≡ None → IsFree source false (output_tail name)
free_tail name source h = (refl, (h, tt))

free_step : (l : Label) (k : List Label) (name : List ℕ) (last source output b : Bool) → is_sent l.part ≡ b
    → slice_get (part_reasons l.part l.word last source output) 0 ≡ None
    → IsFree (source || is_source_part l.part l.word) false (k ++ output_tail name)
    → IsFree source false ((if b then l ∷ k else k) ++ output_tail name)
free_step l k name last source output true sent h rest = (
  ap (λ last. slice_get (part_reasons l.part l.word last source false) 0) (not_nil k name) ∙ calm l.part l.word last source output sent h,
  subst (λ out. IsFree (source || is_source_part l.part l.word) out (k ++ output_tail name)) (sym (output_not_sent l.part sent)) rest,
)
free_step l k name last source output false sent h rest =
    subst (λ src. IsFree src false (k ++ output_tail name)) (ap (λ t. source || t) (source_is_sent l.part l.word sent)
    ∙ sym (or_false source)) rest

-- the words that are sent give no reason
pub free-kept : (ls : List Label) (name : List ℕ) (source output : Bool) → slice_get (output_reasons name) 0 ≡ None
    → IsFree source output ls → IsFree source false (kept ls ++ output_tail name)
free-kept [] name source output calm_name free = free_tail name source calm_name
free-kept (l ∷ ls) name source output calm_name free =
    free_step l (kept ls) name (is_nil ls) source output (is_sent l.part) refl free.0
    (free-kept ls name (source || is_source_part l.part l.word) (output || is_output_part l.part l.word) calm_name free.1)

kept_step : (l : Label) (k more : List Label) (b : Bool) → is_sent l.part ≡ b
    → kept ((if b then l ∷ k else k) ++ more) ≡ (if b then l ∷ kept (k ++ more) else kept (k ++ more))
kept_step l k more true h = ap (λ b. if b then l ∷ kept (k ++ more) else kept (k ++ more)) h
kept_step l k more false h = refl

-- what is kept is kept again, without the output
pub kept_again : (ls : List Label) (name : List ℕ) → kept (kept ls ++ output_tail name) ≡ kept ls
kept_again [] name = refl
kept_again (l ∷ ls) name =
    kept_step l (kept ls) (output_tail name) (is_sent l.part) refl
    ∙ ap (λ k. if is_sent l.part then l ∷ k else k) (kept_again ls name)
