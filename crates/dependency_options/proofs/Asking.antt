-- What one more word says of a dependency file.
use Rattle.std.proofs.Common.{◌≡◌, ℕ, suc, ◌+◌, Bool, ◌||◌, List, Option, is_some, if◌then◌else◌, Some, None, refl, sym, ◌∙◌, ap, arith}
use Rattle.option_table.specs.declared.row.Effect.{Effect}
use Rattle.arg_scan.specs.declared.part.Part.{Part}
use Rattle.arg_scan.specs.Roles.{owner_at, part_of, word_at}
use Rattle.arg_scan.specs.Forces.{any_below, first_below}
use Rattle.arg_strip.proofs.Labels.{some_or}
use Rattle.dependency_options.specs.declared.asked.Asked.{Asked}
use Rattle.dependency_options.specs.declared.asked.DependencyOption.{DependencyOption}
use Rattle.dependency_options.specs.Words.{asked_below, noted, option_at, option_of, says_file, says_list, says_target}

one : (n : ℕ) → n + 1 ≡ suc n
one n = omega arith

any-next : (test : ℕ → Bool) (n : ℕ) → (any_below test n || test n) ≡ any_below test (n + 1)
any-next test n = sym (some_or (first_below test n) (test n) n) ∙ ap (any_below test) (sym (one n))

same_asked : (a b : Asked) → a.list ≡ b.list → a.file ≡ b.file → a.target ≡ b.target → a ≡ b
same_asked a b e f g =
    ap (λ x. record a { list = x }) e
    ∙ ap (λ x. record a { list = b.list; file = x }) f
    ∙ ap (λ x. record b { target = x }) g

asked-next : (words : List (List ℕ)) (n : ℕ) → noted (option_at words n) (asked_below words n) ≡ asked_below words (n + 1)
asked-next words n =
    same_asked _ _ (any-next (λ at. says_list (option_at words at)) n)
    (any-next (λ at. says_file (option_at words at)) n) (any-next (λ at. says_target (option_at words at)) n)

-- what is known of the words after one more
pub asked_is : (words : List (List ℕ)) (n : ℕ) (owner : Option Effect) (word : List ℕ) (asked after : Asked) (part : Part)
    (option : Option DependencyOption) → part ≡ part_of owner n word → owner ≡ owner_at words n → word ≡ word_at words n
    → option ≡ option_of part word → after ≡ noted option asked → asked ≡ asked_below words n → after ≡ asked_below words (n + 1)
asked_is words n owner word asked after part option p e f o is before =
    is
    ∙ ap (λ q. noted q asked) (o
    ∙ ap (λ q. option_of q word) p
    ∙ ap (λ q. option_of (part_of q n word) word) e
    ∙ ap (λ w. option_of (part_of (owner_at words n) n w) w) f)
    ∙ ap (noted (option_at words n)) before
    ∙ asked-next words n
