use Rattle.std.proofs.Common.{◌≡◌, drop, nat_eq}
use Rattle.std.specs.List.{list_any, starts_with}
use Rattle.allowed_options.proofs.lists.begins.Given as goal

abbrev pub invariant-loop-front : goal.invariant-loop-front
invariant-loop-front l =
    list_any (λ front. starts_with nat_eq l.word front.now) (drop l.front-index l.fronts)
    ≡ list_any (λ front. starts_with nat_eq l.word front.now) l.fronts
