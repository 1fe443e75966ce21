-- What one more word says of the standard input.
use Rattle.std.proofs.Common.{◌≡◌, ℕ, suc, ◌+◌, Bool, ◌||◌, List, Option, sym, ◌∙◌, ap, arith}
use Rattle.option_table.specs.declared.row.Effect.{Effect}
use Rattle.arg_scan.specs.declared.part.Part.{Part}
use Rattle.arg_scan.specs.Roles.{owner_at, part_at, part_of, word_at}
use Rattle.arg_scan.specs.Forces.{any_below, first_below}
use Rattle.arg_strip.proofs.Labels.{some_or}
use Rattle.arg_strip.specs.Checks.{is_dash}

one : (n : ℕ) → n + 1 ≡ suc n
one n = omega arith

any-next : (test : ℕ → Bool) (n : ℕ) → (any_below test n || test n) ≡ any_below test (n + 1)
any-next test n = sym (some_or (first_below test n) (test n) n) ∙ ap (any_below test) (sym (one n))

-- whether one is named among the words, after one more
pub reads_is : (words : List (List ℕ)) (n : ℕ) (owner : Option Effect) (word : List ℕ) (reads after dash : Bool) (part : Part)
    → part ≡ part_of owner n word → owner ≡ owner_at words n → word ≡ word_at words n → dash ≡ is_dash part
    → after ≡ (reads || dash) → reads ≡ any_below (λ at. is_dash (part_at words at)) n
    → after ≡ any_below (λ at. is_dash (part_at words at)) (n + 1)
reads_is words n owner word reads after dash part p e f o is before =
    is
    ∙ ap (λ d. reads || d) (o
    ∙ ap is_dash p
    ∙ ap (λ q. is_dash (part_of q n word)) e
    ∙ ap (λ w. is_dash (part_of (owner_at words n) n w)) f)
    ∙ ap (λ r. r || is_dash (part_at words n)) before
    ∙ any-next (λ at. is_dash (part_at words at)) n
