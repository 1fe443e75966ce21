use Rattle.std.proofs.Common.{◌+◌, ◌≤◌, length, take, drop, sym, ◌∙◌, ap, subst}
use Rattle.std.specs.Prelude.{slice_range}
use Rattle.std.specs.List.{concat}
use Rattle.object_cache.specs.Pieces.{in_order}
use Rattle.object_cache.proofs.Ordering.{read_range}
use Rattle.object_cache.proofs.pieces.Pieces.read.Goals as goal

pub returns : goal.returns
returns c =
    let inside = c.self.inside in
    let first = c.args.first in
    let count = c.args.count in
    let within : first + count ≤ length (take inside.used (in_order inside.block.items inside.order.items)) =
    subst (λ v. first + count ≤ length v.used) (sym c.self.view_is) c.requires in
    c.new.ensures
    ∙ ap (λ bs. take c.args.len (concat (in_order bs (slice_range c.deref.result.now first (first + count))))) c.as_slice.ensures.value
    ∙ ap (λ os. take c.args.len (concat (in_order inside.block.items (slice_range os first (first + count))))) c.deref.ensures.value
    ∙ ap (λ ps. take c.args.len (concat ps)) (read_range inside.block.items inside.order.items inside.used first count within)
    ∙ ap (λ v. take c.args.len (concat (take count (drop first v.used)))) c.self.view_is
