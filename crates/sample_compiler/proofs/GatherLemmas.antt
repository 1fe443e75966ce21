-- How the words of the compiler are gathered by kinds.
use Rattle.std.proofs.Common.{◌≡◌, ℕ, ◌-◌, ◌≤◌, Bool, true, false, List, [], ◌∷◌, ◌++◌, length, get_or, take, drop, ap, sym, ◌∙◌}
use Rattle.std.proofs.Common.{append_assoc, arith}
use Rattle.std.specs.Prelude.{◌||◌}
use Rattle.std.proofs.Math.Seq.{take-length}
use Rattle.std.specs.List.{flat_map, list_any}
use Rattle.std.proofs.lemmas.List.{append-nil}
use Rattle.sample_compiler.specs.declared.meaning.Command.{Command}
use Rattle.sample_compiler.specs.declared.meaning.Meaning.{Meaning}
use Rattle.sample_compiler.specs.declared.meaning.Reading.TheVariants.{Whole}
use Rattle.sample_compiler.specs.declared.defines.Define.{Define}
use Rattle.sample_compiler.specs.declared.task.Gathered.{Gathered}
use Rattle.sample_compiler.specs.Meanings.{meanings, reading_of, last_meaning, in_front}
use Rattle.sample_compiler.specs.Tasks.{command_in, input_in, output_in, folder_in, define_in, is_lacking, gathered}

-- a word that takes no operand
pub whole_front : (word : List ℕ) (m : Meaning) (behind : List (List ℕ)) → reading_of word ≡ Whole m
    → meanings (word ∷ behind) ≡ m ∷ meanings behind
whole_front word m [] is = ap (λ r. last_meaning r ∷ []) is
whole_front word m (next ∷ words) is = ap (λ r. in_front r next (meanings (next ∷ words)) (meanings words)) is

-- what was gathered, and what is to come of the rest, make all
pub record Gathers (g : Gathered) (rest all : List Meaning) : Type 0 where
  pub commands : g.commands ++ flat_map command_in rest ≡ flat_map command_in all
  pub inputs : g.inputs ++ flat_map input_in rest ≡ flat_map input_in all
  pub outputs : g.outputs ++ flat_map output_in rest ≡ flat_map output_in all
  pub dirs : g.dirs ++ flat_map folder_in rest ≡ flat_map folder_in all
  pub defines : g.defines ++ flat_map define_in rest ≡ flat_map define_in all
  pub lacking : (g.lacking || list_any is_lacking rest) ≡ list_any is_lacking all

one_more : {A : Type 0} (f : Meaning → List A) (old new : List A) (m : Meaning) (rest more all : List Meaning) → rest ≡ m ∷ more
    → old ++ flat_map f rest ≡ flat_map f all → new ≡ old ++ f m → new ++ flat_map f more ≡ flat_map f all
one_more f old new m rest more all is h grown =
    ap (λ x. x ++ flat_map f more) grown ∙ append_assoc old (f m) (flat_map f more) ∙ ap (λ r. old ++ flat_map f r) (sym is) ∙ h

any_more : (p : Meaning → Bool) (old new : Bool) (m : Meaning) (rest more all : List Meaning) → rest ≡ m ∷ more
    → (old || list_any p rest) ≡ list_any p all → new ≡ (old || p m) → (new || list_any p more) ≡ list_any p all
any_more p true new m rest more all is h grown = ap (λ x. x || list_any p more) grown ∙ h
any_more p false new m rest more all is h grown = ap (λ x. x || list_any p more) grown ∙ ap (λ r. list_any p r) (sym is) ∙ h

-- what one word more adds
pub record Adds (old new : Gathered) (m : Meaning) : Type 0 where
  pub commands : new.commands ≡ old.commands ++ command_in m
  pub inputs : new.inputs ≡ old.inputs ++ input_in m
  pub outputs : new.outputs ≡ old.outputs ++ output_in m
  pub dirs : new.dirs ≡ old.dirs ++ folder_in m
  pub defines : new.defines ≡ old.defines ++ define_in m
  pub lacking : new.lacking ≡ (old.lacking || is_lacking m)

pub gathers_more : (old new : Gathered) (m : Meaning) (rest more all : List Meaning) → rest ≡ m ∷ more → Gathers old rest all
    → Adds old new m → Gathers new more all
gathers_more old new m rest more all is g a = record {
  commands = one_more command_in old.commands new.commands m rest more all is g.commands a.commands;
  inputs = one_more input_in old.inputs new.inputs m rest more all is g.inputs a.inputs;
  outputs = one_more output_in old.outputs new.outputs m rest more all is g.outputs a.outputs;
  dirs = one_more folder_in old.dirs new.dirs m rest more all is g.dirs a.dirs;
  defines = one_more define_in old.defines new.defines m rest more all is g.defines a.defines;
  lacking = any_more is_lacking old.lacking new.lacking m rest more all is g.lacking a.lacking;
}

none_more : (old all : Bool) → (old || false) ≡ all → old ≡ all
none_more true all h = h
none_more false all h = h

abbrev of_kinds : List Command → List (List ℕ) → List (List ℕ) → List (List ℕ) → List Define → Bool → Gathered
of_kinds c i o d n l = record { commands = c; inputs = i; outputs = o; dirs = d; defines = n; lacking = l }

same_gathered : (c c2 : List Command) (i i2 o o2 d d2 : List (List ℕ)) (n n2 : List Define) (l l2 : Bool)
    → c ≡ c2 → i ≡ i2 → o ≡ o2 → d ≡ d2 → n ≡ n2 → l ≡ l2
    → of_kinds c i o d n l ≡ of_kinds c2 i2 o2 d2 n2 l2
same_gathered c c2 i i2 o o2 d d2 n n2 l l2 ec ei eo ed en el = cc

pub gathers_end : (g : Gathered) (rest : List (List ℕ)) (all : List Meaning) → rest ≡ [] → Gathers g (meanings rest) all → g ≡ gathered all
gathers_end g [] all is h = same_gathered _ _ _ _ _ _ _ _ _ _ _ _
    (sym (append-nil g.commands) ∙ h.commands) (sym (append-nil g.inputs) ∙ h.inputs) (sym (append-nil g.outputs) ∙ h.outputs)
    (sym (append-nil g.dirs) ∙ h.dirs) (sym (append-nil g.defines) ∙ h.defines) (none_more g.lacking _ h.lacking)
gathers_end g (word ∷ words) all is h = absurd (cc)

-- the first of some words, and the words behind it
pub front_of : (xs : List (List ℕ)) (x : List ℕ) → 1 ≤ length xs → x ≡ get_or xs 0 x → xs ≡ x ∷ take (length xs - 1) (drop 1 xs)
front_of [] x some is = absurd (omega arith)
front_of (y ∷ ys) x some is =
    let all : take (length (y ∷ ys) - 1) ys ≡ ys =
    let n : length (y ∷ ys) - 1 ≡ length ys = omega arith in ap (λ k. take k ys) n ∙ take-length ys in
    ap (λ rest. y ∷ rest) (sym all) ∙ ap (λ w. w ∷ take (length (y ∷ ys) - 1) ys) (sym is)
