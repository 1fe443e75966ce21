-- The labels of the words that are added: they give no reason, name nothing, and are not sent.
use Rattle.std.proofs.Common.{◌≡◌, ℕ, Bool, true, false, ◌||◌, List, [], ◌∷◌, ◌++◌, codes, Option, Some, None, is_some, refl, sym, ◌∙◌, ap}
use Rattle.std.specs.List.{slice_get}
use Rattle.option_table.specs.declared.row.Effect.{Effect}
use Rattle.option_table.specs.declared.row.Effect.TheVariants as effect
use Rattle.option_table.specs.Gcc.{gcc_rows}
use Rattle.arg_scan.specs.declared.part.Operand.TheVariants as operand
use Rattle.arg_scan.specs.declared.part.Role.{Role}
use Rattle.arg_scan.specs.declared.part.Role.TheVariants as role
use Rattle.arg_scan.specs.declared.part.Part.{Part}
use Rattle.arg_scan.specs.declared.part.Part.TheVariants as part
use Rattle.arg_scan.specs.Roles.{owed, role_of}
use Rattle.arg_scan.specs.Forces.{effect_reasons, part_reasons}
use Rattle.arg_strip.specs.Words.{placed_word, preprocessing_word, sent_word}
use Rattle.arg_strip.proofs.Labels.{Label, label, labels, labels_from, any_label, is_nil, is_output_part, is_source_part, picks}
use Rattle.arg_strip.proofs.Labels.{tail_part, IsFree}
use Rattle.arg_strip.proofs.Filtered.{when_free}
use Rattle.arg_strip.proofs.Kept.{closed, final_owner}
use Rattle.arg_strip.proofs.Laws.{assemble_part, compile_part}
use Rattle.dependency_options.specs.Words.{added_by, dependency_name, option_of, says_file, says_list, says_target}

-- the labels of an option that is not sent and the operand behind it
abbrev pub pair : List ℕ → List ℕ → List Label
pair option text =
    label (part.Word (role.Flag effect.Strip operand.Next)) option ∷ label (part.Operand effect.Strip) text ∷ []

abbrev pub file_pair : Bool → List ℕ → List Label
file_pair true output = []
file_pair false output = pair (codes "-MF") (dependency_name output)

abbrev pub target_pair : Bool → List ℕ → List Label
target_pair true output = []
target_pair false output = pair (codes "-MQ") output

-- the labels of the words that are added
abbrev pub pairs : Bool → Bool → List ℕ → List Label
pairs file target output = file_pair file output ++ target_pair target output

file_role : role_of (codes "-MF") ≡ role.Flag effect.Strip operand.Next
unfolding role_of gcc_rows
file_role = refl

target_role : role_of (codes "-MQ") ≡ role.Flag effect.Strip operand.Next
unfolding role_of gcc_rows
target_role = refl

one_pair : (option text : List ℕ) (more : List (List ℕ)) → role_of option ≡ role.Flag effect.Strip operand.Next
    → labels_from None (option ∷ text ∷ more) ≡ pair option text ++ labels_from None more
one_pair option text more is =
    ap (λ r. label (part.Word r) option ∷ labels_from (owed (part.Word r)) (text ∷ more)) is

pub pairs_are : (file target : Bool) (output : List ℕ) → labels_from None (added_by file target output) ≡ pairs file target output
pairs_are true true output = refl
pairs_are true false output = one_pair (codes "-MQ") output [] target_role
pairs_are false true output = one_pair (codes "-MF") (dependency_name output) [] file_role
pairs_are false false output =
    one_pair (codes "-MF") (dependency_name output) (codes "-MQ" ∷ output ∷ []) file_role
    ∙ ap (λ l. pair (codes "-MF") (dependency_name output) ++ l) (one_pair (codes "-MQ") output [] target_role)

labels_append : (owner : Option Effect) (words more : List (List ℕ))
    → labels_from owner (words ++ more) ≡ labels_from owner words ++ labels_from (final_owner owner words) more
labels_append owner [] more = refl
labels_append owner (word ∷ words) more =
    ap (λ l. label (tail_part owner word) word ∷ l) (labels_append (owed (tail_part owner word)) words more)

-- words behind a command that gives no reason are read by themselves
pub labels_behind : (words more : List (List ℕ)) → (words ≡ [] → ⊥) → IsFree false false (labels words)
    → labels (words ++ more) ≡ labels words ++ labels_from None more
labels_behind [] more some free = absurd (some refl)
labels_behind (word ∷ words) more some free =
    ap (λ l. label part.Compiler word ∷ l)
    (labels_append None words more
    ∙ ap (λ o. labels_from None words ++ labels_from o more) (closed None words _ _ free.1 (λ _. refl)))

-- labels that give no reason, ask for nothing, name no source and no output, and are not sent
pub record IsIdle (ls : List Label) : Type 0 where
  pub free : (source output : Bool) → IsFree source output ls
  pub compile : any_label compile_part ls ≡ false
  pub assemble : any_label assemble_part ls ≡ false
  pub source : any_label is_source_part ls ≡ false
  pub output : any_label is_output_part ls ≡ false
  pub sent : picks sent_word ls ≡ []
  pub placed : picks placed_word ls ≡ []

pub pairs_idle : (file target : Bool) (output : List ℕ) → IsIdle (pairs file target output)
pairs_idle true true output =
    record { free = λ s o. tt; compile = refl; assemble = refl; source = refl; output = refl; sent = refl; placed = refl }
pairs_idle true false output =
    record { free = λ s o. (refl, (refl, tt)); compile = refl; assemble = refl; source = refl; output = refl; sent = refl; placed = refl }
pairs_idle false true output =
    record { free = λ s o. (refl, (refl, tt)); compile = refl; assemble = refl; source = refl; output = refl; sent = refl; placed = refl }
pairs_idle false false output =
    record {
      free = λ s o. (refl, (refl, (refl, (refl, tt))));
      compile = refl;
      assemble = refl;
      source = refl;
      output = refl;
      sent = refl;
      placed = refl;
    }

-- they preprocess as they stand
pub pairs_kept : (file target : Bool) (output : List ℕ) → picks preprocessing_word (pairs file target output) ≡ added_by file target output
pairs_kept true true output = refl
pairs_kept true false output = refl
pairs_kept false true output = refl
pairs_kept false false output = refl

-- a last word that gives no reason gives none before other words
soft : (p : Part) (word : List ℕ) (last source output : Bool) → slice_get (part_reasons p word true source output) 0 ≡ None
    → slice_get (part_reasons p word last source output) 0 ≡ None
soft part.Compiler word last source output h = refl
soft (part.Operand effect.Keep) word last source output h = refl
soft (part.Operand effect.Strip) word last source output h = refl
soft (part.Operand effect.Action) word last source output h = refl
soft (part.Operand effect.Output) word last source output h = h
soft (part.Operand (effect.Local number)) word last source output h = refl
soft (part.Operand effect.Listing) word last source output h = refl
soft (part.Word role.Dash) word last source output h = h
soft (part.Word (role.Flag e operand.Absent)) word last source output h = h
soft (part.Word (role.Flag e (operand.Attached from))) word last source output h = h
soft (part.Word (role.Flag e operand.Next)) word last source output h = cc
soft (part.Word role.Response) word last source output h = h
soft (part.Word (role.Source ending)) word last source output h = h
soft (part.Word role.Other) word last source output h = h

pub free_append : (ls more : List Label) (source output : Bool) → IsFree source output ls → ((s o : Bool) → IsFree s o more)
    → IsFree source output (ls ++ more)
free_append [] more source output free idle = idle source output
free_append (l ∷ []) more source output free idle = (soft l.part l.word (is_nil more) source output free.0, idle _ _)
free_append (l ∷ next ∷ ls) more source output free idle = (free.0, free_append (next ∷ ls) more _ _ free.1 idle)

-- what the words that are added say of a dependency file
abbrev pub list_part : Part → List ℕ → Bool
list_part p word = says_list (option_of p word)

abbrev pub file_part : Part → List ℕ → Bool
file_part p word = says_file (option_of p word)

abbrev pub target_part : Part → List ℕ → Bool
target_part p word = says_target (option_of p word)

pub file_said : (target : Bool) (output : List ℕ) → any_label file_part (pairs false target output) ≡ true
unfolding gcc_rows
file_said target output = refl

pub target_said : (file : Bool) (output : List ℕ) → any_label target_part (pairs file false output) ≡ true
unfolding gcc_rows
target_said true output = refl
target_said false output = refl
