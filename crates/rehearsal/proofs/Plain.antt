-- The command `scc -c SOURCE -o OUTPUT`: what its words are used as.
use Rattle.std.proofs.Common.{◌≡◌, ℕ, false, List, [], ◌∷◌, ◌++◌, Option, length, drop, refl, ap, ◌∙◌}
use Rattle.std.specs.Prelude.{codes, Some}
use Rattle.std.specs.Option.{option_map}
use Rattle.option_table.specs.Gcc.{gcc_rows}
use Rattle.option_table.specs.declared.row.Effect.TheVariants as effect
use Rattle.farm_types.specs.declared.placed.Word.TheVariants.{Text, Input, Output}
use Rattle.farm_types.specs.declared.placed.Ext.TheVariants.{I}
use Rattle.arg_scan.specs.declared.names.Ending.TheVariants.{C}
use Rattle.arg_scan.specs.declared.part.Operand.TheVariants as operand
use Rattle.arg_scan.specs.declared.part.Role.TheVariants as role
use Rattle.arg_scan.specs.declared.verdict.OutputPlace.{OutputPlace}
use Rattle.arg_scan.specs.Names.{is_conftest, is_preprocessed}
use Rattle.arg_scan.specs.Roles.{role_of, part_at, word_at}
use Rattle.arg_scan.specs.Forces.{output_reasons, first_below, is_output_option}
use Rattle.arg_scan.specs.Class.{IsRemote, output_place, output_text, plan_of}
use Rattle.arg_strip.specs.Words.{gather, sent_word, output_of, stripped, placed_words, preprocessing_words}

abbrev pub plain : List ℕ → List ℕ → List (List ℕ)
plain s o = codes "scc" ∷ codes "-c" ∷ s ∷ codes "-o" ∷ o ∷ []

-- the names are those of a C source, and of an output that nothing keeps here
pub record ArePlain (s o : List ℕ) : Type 0 where
  pub source : role_of s ≡ role.Source C
  pub conftest : is_conftest s ≡ false
  pub output : output_reasons o ≡ []

action_role : role_of (codes "-c") ≡ role.Flag effect.Action operand.Absent
unfolding role_of gcc_rows
action_role = refl

output_role : role_of (codes "-o") ≡ role.Flag effect.Output operand.Next
unfolding role_of gcc_rows
output_role = refl

pub remote : (s o : List ℕ) → ArePlain s o → IsRemote (plain s o)
remote s o is = rw (action_role, is.source, output_role, is.conftest, is.output) refl

pub raw_source : (s o : List ℕ) → ArePlain s o → is_preprocessed (plan_of (plain s o)).ending ≡ false
raw_source s o is = rw (action_role, is.source, action_role, is.source) refl

pub preprocessing : (s o : List ℕ) → ArePlain s o → preprocessing_words (plain s o) ≡ codes "scc" ∷ codes "-E" ∷ s ∷ []
preprocessing s o is = rw (action_role, is.source, output_role) refl

first_output : (s o : List ℕ) → ArePlain s o → first_below (is_output_option (plain s o)) (length (plain s o)) ≡ Some 3
first_output s o is = rw (action_role, is.source, output_role) refl

place_of_output : (s o : List ℕ) → ArePlain s o → output_place (part_at (plain s o) 3) 3 ≡ record { at = 4; from = 0 }
place_of_output s o is = rw (action_role, is.source, output_role) refl

pub output : (s o : List ℕ) → ArePlain s o → output_of (plain s o) ≡ o
output s o is =
    let words = plain s o in
    ap (λ (place : Option ℕ). output_text words (plan_of words) (option_map (λ at. output_place (part_at words at) at) place))
    (first_output s o is)
    ∙ ap (λ (place : OutputPlace). drop place.from (word_at words place.at)) (place_of_output s o is)

gathered : (s o : List ℕ) → ArePlain s o
    → gather (λ at. sent_word (part_at (plain s o) at) (word_at (plain s o) at)) (length (plain s o)) ≡ codes "scc" ∷ codes "-c" ∷ s ∷ []
gathered s o is = rw (action_role, is.source, output_role) refl

pub sent : (s o : List ℕ) → ArePlain s o → stripped (plain s o) ≡ plain s o
sent s o is =
    ap (λ (front : List (List ℕ)). front ++ codes "-o" ∷ output_of (plain s o) ∷ []) (gathered s o is)
    ∙ ap (λ (name : List ℕ). codes "scc" ∷ codes "-c" ∷ s ∷ codes "-o" ∷ name ∷ []) (output s o is)

pub placed : (s o : List ℕ) → ArePlain s o → placed_words (plain s o) ≡ Text (codes "scc") ∷ Text (codes "-c") ∷ Input I
    ∷ Text (codes "-o") ∷ Output ∷ []
placed s o is = rw (action_role, is.source, output_role) refl
