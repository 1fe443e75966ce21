use Rattle.std.proofs.Common.{◌≡◌, drop}
use Rattle.std.specs.Prelude.{bytes_eq}
use Rattle.std.specs.List.{list_any}
use Rattle.allowed_options.proofs.lists.is_one.Given as goal

abbrev pub invariant-loop-one : goal.invariant-loop-one
invariant-loop-one l =
    list_any (λ one. bytes_eq one.now l.word) (drop l.one-index l.words)
    ≡ list_any (λ one. bytes_eq one.now l.word) l.words
