-- No object's name ends as those of files that are being written.
use Rattle.std.proofs.Common.{◌≡◌, ℕ, ◌-◌, Bool, true, false, List, [], ◌∷◌, ◌++◌, length, get_or, take, Option, None, Some, refl, sym}
use Rattle.std.proofs.Common.{ap, subst, ◌∙◌, append_assoc, length-append, arith}
use Rattle.std.specs.Prelude.{IfSome, IfOk, Result, Ok, Err, if◌then◌else◌}
use Rattle.std.proofs.lemmas.Bool.{false≢true}
use Rattle.edge_traits.specs.FileMaps.{IsStaged}
use Rattle.edge_traits.proofs.StagedPaths.{staged_to}
use Rattle.arg_scan.specs.declared.verdict.Action.{Action}
use Rattle.arg_scan.specs.declared.verdict.Action.TheVariants.{Compile, Assemble}
use Rattle.arg_scan.specs.declared.names.Ending.{Ending}
use Rattle.arg_scan.specs.Names.{last_name, ending_of, ending_text, derived_output, is_reserved}
use Rattle.sample_compiler.specs.declared.meaning.Command.{Command}
use Rattle.sample_compiler.specs.declared.meaning.Command.TheVariants.{Expand, Build}
use Rattle.sample_compiler.specs.declared.task.Product.{Product}
use Rattle.sample_compiler.specs.declared.task.Gathered.{Gathered}
use Rattle.sample_compiler.specs.declared.task.Task.{Task}
use Rattle.sample_compiler.specs.Tasks.{HasPlainOutput, made_as, named_product, derived_product, unnamed_product, product_of}
use Rattle.sample_compiler.specs.Tasks.{with_product, with_only_input, with_command, asked}

last_of : (xs : List ℕ) (a : ℕ) → get_or (xs ++ a ∷ []) (length xs) 0 ≡ a
last_of [] a = refl
last_of (x ∷ xs) a = last_of xs a

same_last : (xs ys : List ℕ) (a b : ℕ) → xs ++ a ∷ [] ≡ ys ++ b ∷ [] → a ≡ b
same_last xs ys a b h =
    let n : length xs ≡ length ys = omega (arith, simp length-append at (ap length h)) in
    sym (last_of xs a) ∙ ap (λ l. get_or l (length xs) 0) h ∙ ap (λ k. get_or (ys ++ b ∷ []) k 0) n ∙ last_of ys b

-- a name that ends in another byte than `~`
other_end : (front : List ℕ) (a b : ℕ) → (b ≡ 126 → ⊥) → ¬ (IsStaged (front ++ a ∷ b ∷ []))
other_end front a b other staged =
    other (same_last (front ++ a ∷ []) (staged.0 ++ 46 ∷ 102 ∷ 97 ∷ 114 ∷ 109 ∷ []) b 126
    (append_assoc front (a ∷ []) (b ∷ []) ∙ staged.1 ∙ sym (append_assoc staged.0 (46 ∷ 102 ∷ 97 ∷ 114 ∷ 109 ∷ []) (126 ∷ []))))

plain_derived : (action : Action) (source : List ℕ) (ending : Ending) → ¬ (IsStaged (derived_output action source ending))
plain_derived Compile source ending =
    other_end (take (length (last_name source) - length (ending_text ending)) (last_name source)) 46 111 (λ same. absurd (omega arith))
plain_derived Assemble source ending =
    other_end (take (length (last_name source) - length (ending_text ending)) (last_name source)) 46 115 (λ same. absurd (omega arith))

plain_ending : (action : Action) (input : List ℕ) (ending : Option Ending) → IfSome (derived_product action input ending) HasPlainOutput
plain_ending action input None = tt
plain_ending action input (Some ending) = plain_derived action input ending

plain_unnamed : (command : Command) (input : List ℕ) → IfSome (unnamed_product command input) HasPlainOutput
plain_unnamed Expand input = tt
plain_unnamed (Build action) input = plain_ending action input (ending_of (last_name input))

plain_made : (command : Command) (output : List ℕ) → ¬ (IsStaged output) → HasPlainOutput (made_as command output)
plain_made Expand output plain = tt
plain_made (Build action) output plain = plain

plain_named : (command : Command) (output : List ℕ) → IfSome (named_product command output) HasPlainOutput
plain_named command output = by_test (is_reserved output) refl
  where
    by_test : (reserved : Bool) → is_reserved output ≡ reserved
        → IfSome (if reserved then None else Some (made_as command output)) HasPlainOutput
    by_test true is = tt
    by_test false is = plain_made command output (λ staged. false≢true (sym is ∙ staged_to output staged))

plain_product : (command : Command) (input : List ℕ) (outputs : List (List ℕ)) → IfSome (product_of command input outputs) HasPlainOutput
plain_product command input [] = plain_unnamed command input
plain_product command input (output ∷ []) = plain_named command output
plain_product command input (output ∷ other ∷ more) = tt

plain_with : (g : Gathered) (input : List ℕ) (product : Option Product) → IfSome product HasPlainOutput
    → IfSome (with_product g input product) (λ task. HasPlainOutput task.product)
plain_with g input None plain = tt
plain_with g input (Some product) plain = plain

plain_input : (g : Gathered) (command : Command) (inputs : List (List ℕ))
    → IfSome (with_only_input g command inputs) (λ task. HasPlainOutput task.product)
plain_input g command [] = tt
plain_input g command (input ∷ []) = plain_with g input (product_of command input g.outputs) (plain_product command input g.outputs)
plain_input g command (input ∷ other ∷ more) = tt

plain_command : (g : Gathered) (commands : List Command) → IfSome (with_command g commands) (λ task. HasPlainOutput task.product)
plain_command g [] = tt
plain_command g (command ∷ more) = plain_input g command g.inputs

-- what is asked for has an output that may be put
pub plain_asked : (g : Gathered) → IfSome (asked g) (λ task. HasPlainOutput task.product)
plain_asked g = by_test g.lacking
  where
    by_test : (lacking : Bool) → IfSome (if lacking then None else with_command g g.commands) (λ task. HasPlainOutput task.product)
    by_test true = tt
    by_test false = plain_command g g.commands

pub plain_result : {E : Type 0} (g : Gathered) (result : Result (Option Task) E) → IfOk result (λ task. task ≡ asked g)
    → IfOk result (λ task. IfSome task (λ task. HasPlainOutput task.product))
plain_result g (Ok task) is = subst (λ t. IfSome t (λ task. HasPlainOutput task.product)) (sym is) (plain_asked g)
plain_result g (Err e) is = tt
