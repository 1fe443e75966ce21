use Rattle.std.proofs.Common.{◌≡◌, List, ℕ, drop, ap, sym, subst, ◌∙◌}
use Rattle.sample_linker.specs.Circles.{IsRound, IsLowest}
use Rattle.sample_linker.specs.Orders.{IsCircle}
use Rattle.sample_linker.proofs.Rounds.{round_first}
use Rattle.sample_linker.proofs.circle.circle_from.Goals as goal

pub returns : goal.returns
returns c =
    let names : List (List ℕ) = c.in_ok-names.names.items in
    let met = c.in_ok-path.field-0 in
    let cut : names ≡ drop met.from met.path = c.in_ok-names.ensures.tail ∙ ap (λ path. drop met.from path) c.into_vec.ensures in
    let round : IsRound c.args.defined.now names = subst (IsRound c.args.defined.now) (sym cut) c.in_ok-path.ensures.1 in
    let low : IsLowest c.args.table.now names c.lowest-first.result =
    subst (λ ns. IsLowest c.args.table.now ns c.lowest-first.result) c.as_slice.ensures.value c.lowest-first.ensures in
    subst (IsCircle c.args.defined.now) (sym (c.from_vec.ensures ∙ c.rotate_left.ensures.items))
    (round_first c.args.table.now c.args.defined.now names c.lowest-first.result c.requires.indexes round low)
