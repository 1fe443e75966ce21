-- The words of a command with what each is used as, read from the front; what is said of the places says the same of them.
use Rattle.std.proofs.Common.{◌≡◌, ℕ, zero, suc, ◌+◌, ◌<◌, ◌≤◌, ◌==◌, Bool, true, false, not, ◌||◌, List, [], ◌∷◌, ◌++◌, length, drop}
use Rattle.std.proofs.Common.{get_or, Option, Some, None, is_some, unwrap_or, if◌then◌else◌, refl, sym, ◌∙◌, ap, append_assoc, append-nil}
use Rattle.std.proofs.Common.{drop-cons, arith}
use Rattle.std.proofs.lemmas.List.{drop_all}
use Rattle.std.specs.List.{slice_get}
use Rattle.std.specs.Option.{option_map, option_or, option_to_list}
use Rattle.option_table.specs.declared.row.Effect.{Effect}
use Rattle.arg_scan.specs.declared.part.Operand.TheVariants as operand
use Rattle.arg_scan.specs.declared.part.Role.TheVariants as role
use Rattle.arg_scan.specs.declared.part.Part.{Part}
use Rattle.arg_scan.specs.declared.part.Part.TheVariants as part
use Rattle.arg_scan.specs.Roles.{role_of, owed, owner_at, part_at, part_of, word_at}
use Rattle.arg_scan.specs.Forces.{first_below, any_below, part_reasons, source_of, names_output}
use Rattle.arg_scan.specs.Class.{first_forced, reason_at}
use Rattle.arg_strip.specs.Words.{gather}

-- a word and what it is used as
pub record Label : Type 0 where
  pub part : Part
  pub word : List ℕ

abbrev pub label : Part → List ℕ → Label
label part word = record { part = part; word = word }

-- what a word behind the first is used as
abbrev pub tail_part : Option Effect → List ℕ → Part
tail_part (Some effect) word = part.Operand effect
tail_part None word = part.Word (role_of word)

-- the labels of the words behind the first, by the option whose operand their first word is
abbrev pub labels_from : Option Effect → List (List ℕ) → List Label
labels_from owner [] = []
labels_from owner (word ∷ more) = label (tail_part owner word) word ∷ labels_from (owed (tail_part owner word)) more

abbrev pub labels : List (List ℕ) → List Label
labels [] = []
labels (word ∷ more) = label part.Compiler word ∷ labels_from None more

-- the label of a place
abbrev pub label_at : List (List ℕ) → ℕ → Label
label_at words at = label (part_at words at) (word_at words at)

-- the labels of m places from n on
abbrev pub labels_of : List (List ℕ) → ℕ → ℕ → List Label
labels_of words n zero = []
labels_of words n (suc m) = label_at words n ∷ labels_of words (suc n) m

-- what is picked of the labels, in order
abbrev pub picks : {A : Type 0} → (Part → List ℕ → Option A) → List Label → List A
picks pick [] = []
picks pick (l ∷ more) = option_to_list (pick l.part l.word) ++ picks pick more

abbrev pub any_label : (Part → List ℕ → Bool) → List Label → Bool
any_label test [] = false
any_label test (l ∷ more) = test l.part l.word || any_label test more

abbrev pub is_source_part : Part → List ℕ → Bool
is_source_part part word = is_some (source_of part)

abbrev pub is_output_part : Part → List ℕ → Bool
is_output_part part word = names_output part

-- the first source
abbrev pub source_label : List Label → Option Label
source_label [] = None
source_label (l ∷ more) = if is_source_part l.part l.word then Some l else source_label more

abbrev pub first_word : List Label → List ℕ
first_word [] = []
first_word (l ∷ more) = l.word

-- the operand of an option, by its part, its word and the words behind it
abbrev pub operand_text : Part → List ℕ → List Label → List ℕ
operand_text (part.Word (role.Flag effect (operand.Attached from))) word more = drop from word
operand_text _ word more = first_word more

-- the operand of the first output option
abbrev pub output_label : List Label → Option (List ℕ)
output_label [] = None
output_label (l ∷ more) = if names_output l.part then Some (operand_text l.part l.word more) else output_label more

abbrev pub is_nil : List Label → Bool
is_nil [] = true
is_nil (l ∷ more) = false

-- no label gives a reason, behind a source or an output option
abbrev pub IsFree : Bool → Bool → List Label → Type 0
IsFree source output [] = Unit {0}
IsFree source output (l ∷ more) =
    (slice_get (part_reasons l.part l.word (is_nil more) source output) 0 ≡ None)
    × IsFree (source || is_source_part l.part l.word) (output || is_output_part l.part l.word) more

-- what is said of a word by what it is used as
abbrev pub at_place : {A : Type 0} → (Part → List ℕ → A) → List (List ℕ) → ℕ → A
at_place f words at = f (part_at words at) (word_at words at)

pub one_on : (n m len : ℕ) → n + suc m ≡ len → suc n + m ≡ len
one_on n m len e = omega arith

pub none_on : (n len : ℕ) → n + 0 ≡ len → len ≡ n
none_on n len e = omega arith

part_of-tail : (owner : Option Effect) (i : ℕ) (word : List ℕ) → part_of owner (suc i) word ≡ tail_part owner word
part_of-tail (Some effect) i word = refl
part_of-tail None i word = refl

-- the places from n on have the labels that are read from there
labels_behind : (words : List (List ℕ)) (m n : ℕ) → suc n + m ≡ length words
    → labels_of words (suc n) m ≡ labels_from (owner_at words (suc n)) (drop (suc n) words)
labels_behind words zero n e = sym (ap (labels_from (owner_at words (suc n))) (drop_all (suc n) words (omega arith)))
labels_behind words (suc m) n e =
    let within : suc n < length words = omega arith in
    let rest = labels_behind words m (suc n) (one_on (suc n) m _ e) in
    let is = part_of-tail (owner_at words (suc n)) n (word_at words (suc n)) in
    ap (λ l. label_at words (suc n) ∷ l) rest
    ∙ ap (λ p. label p (word_at words (suc n)) ∷ labels_from (owed p) (drop (suc (suc n)) words)) is
    ∙ sym (ap (labels_from (owner_at words (suc n))) (drop-cons words (suc n) [] within))

-- the labels of all places
pub labels_all : (words : List (List ℕ)) → labels_of words 0 (length words) ≡ labels words
labels_all [] = refl
labels_all (word ∷ more) = by_len (length (word ∷ more)) refl
  where
    by_len : (len : ℕ) → len ≡ length (word ∷ more) → labels_of (word ∷ more) 0 len ≡ labels (word ∷ more)
    by_len zero e = absurd (omega arith)
    by_len (suc m) e = ap (λ l. label part.Compiler word ∷ l) (labels_behind (word ∷ more) m 0 (omega arith))

gathered_from : {A : Type 0} (pick : Part → List ℕ → Option A) (words : List (List ℕ)) (len m n : ℕ) → n + m ≡ len
    → gather (at_place pick words) len ≡ gather (at_place pick words) n ++ picks pick (labels_of words n m)
gathered_from pick words len zero n e = ap (gather (at_place pick words)) (none_on n len e)
    ∙ sym (append-nil (gather (at_place pick words) n))
gathered_from pick words len (suc m) n e =
    gathered_from pick words len m (suc n) (one_on n m len e)
    ∙ append_assoc (gather (at_place pick words) n) (option_to_list (at_place pick words n)) (picks pick (labels_of words (suc n) m))

pub zero_on : (len : ℕ) → 0 + len ≡ len
zero_on len = omega arith

-- what is gathered of the places is picked of the labels
pub gathered_labels : {A : Type 0} (pick : Part → List ℕ → Option A) (words : List (List ℕ))
    → gather (at_place pick words) (length words) ≡ picks pick (labels words)
gathered_labels pick words =
    gathered_from pick words (length words) (length words) 0 (zero_on (length words)) ∙ ap (picks pick) (labels_all words)

pub some_or : (o : Option ℕ) (b : Bool) (n : ℕ) → is_some (option_or o (if b then Some n else None)) ≡ (is_some o || b)
some_or (Some k) b n = refl
some_or None true n = refl
some_or None false n = refl

pub or_false : (a : Bool) → a ≡ (a || false)
or_false true = refl
or_false false = refl

or_assoc : (a b c : Bool) → ((a || b) || c) ≡ (a || (b || c))
or_assoc true b c = refl
or_assoc false b c = refl

any_from : (test : Part → List ℕ → Bool) (words : List (List ℕ)) (len m n : ℕ) → n + m ≡ len
    → any_below (at_place test words) len ≡ (any_below (at_place test words) n || any_label test (labels_of words n m))
any_from test words len zero n e = ap (any_below (at_place test words)) (none_on n len e) ∙ or_false _
any_from test words len (suc m) n e =
    any_from test words len m (suc n) (one_on n m len e)
    ∙ ap (λ b. b || any_label test (labels_of words (suc n) m)) (some_or (first_below (at_place test words) n) (at_place test words n) n)
    ∙ or_assoc (any_below (at_place test words) n) (at_place test words n) _

-- a test that some place passes is one that some label passes
pub any_labels : (test : Part → List ℕ → Bool) (words : List (List ℕ))
    → any_below (at_place test words) (length words) ≡ any_label test (labels words)
any_labels test words =
    any_from test words (length words) (length words) 0 (zero_on (length words)) ∙ ap (any_label test) (labels_all words)
