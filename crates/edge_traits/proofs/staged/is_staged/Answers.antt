use Rattle.std.proofs.Common.{◌≡◌, ◌∙◌, true, sym}
use Rattle.edge_traits.proofs.StagedPaths.{staged_from, staged_to}
use Rattle.edge_traits.proofs.staged.is_staged.Goals as goal

pub returns : goal.returns
returns c = (
  λ (yes : c.ends_with.result ≡ true). staged_from c.args.path.now (sym c.ends_with.ensures.value ∙ yes),
  λ staged. c.ends_with.ensures.value ∙ staged_to c.args.path.now staged,
)
