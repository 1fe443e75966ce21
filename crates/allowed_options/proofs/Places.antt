-- One word after another.
use Rattle.std.proofs.Common.{◌≡◌, ℕ, zero, suc, ◌+◌, Bool, true, false, List, get_or, sym, ◌∙◌, ap, arith}
use Rattle.std.specs.Prelude.{Option, Some, None, if◌then◌else◌}
use Rattle.std.specs.Option.{option_or}
use Rattle.farm_types.specs.declared.placed.Word.{Word}
use Rattle.farm_types.specs.declared.placed.Word.TheVariants.{Output}
use Rattle.allowed_options.specs.declared.operand.Operand.{Operand}
use Rattle.allowed_options.specs.Served.{operand_at, owed, is_word_served, is_served_at, unserved_below}

next : (n : ℕ) → suc n ≡ n + 1
next n = omega arith

module _ (tools : List (List ℕ)) (words : List Word) where
  choice : (n : ℕ) (served : Bool) → is_served_at tools words n ≡ served → unserved_below tools words n ≡ None
      → unserved_below tools words (suc n) ≡ (if served then None else Some n)
  choice n served is before = ap (λ t. option_or t (if is_served_at tools words n then None else Some n)) before
      ∙ ap (λ b. if b then None else Some n) is

  pub none_yet : (n : ℕ) → is_served_at tools words n ≡ true → unserved_below tools words n ≡ None → unserved_below tools words (n + 1) ≡ None
  none_yet n is before = ap (unserved_below tools words) (sym (next n)) ∙ choice n true is before

  -- what was found stays the first
  pub stays : (at more : ℕ) → is_served_at tools words at ≡ false → unserved_below tools words at ≡ None
      → unserved_below tools words (more + (at + 1)) ≡ Some at
  stays at zero is before =
      let none : 0 + (at + 1) ≡ suc at = omega arith in
      ap (unserved_below tools words) none ∙ choice at false is before
  stays at (suc more) is before =
      let grown : suc more + (at + 1) ≡ suc (more + (at + 1)) = omega arith in
      ap (unserved_below tools words) grown
      ∙ ap (λ t. option_or t (if is_served_at tools words (more + (at + 1)) then None else Some (more + (at + 1)))) (stays at more is before)

  pub served_is : (at : ℕ) (operand : Option Operand) (word : Word) → operand ≡ operand_at words at → word ≡ get_or words at Output
      → is_word_served tools operand word ≡ is_served_at tools words at
  served_is at operand word owner is = ap (λ o. is_word_served tools o word) owner ∙ ap (is_word_served tools (operand_at words at)) is

  pub owed_is : (at : ℕ) (operand : Option Operand) (word : Word) → operand ≡ operand_at words at → word ≡ get_or words at Output
      → owed operand word ≡ operand_at words (at + 1)
  owed_is at operand word owner is = ap (λ o. owed o word) owner ∙ ap (owed (operand_at words at)) is ∙ ap (operand_at words) (next at)
