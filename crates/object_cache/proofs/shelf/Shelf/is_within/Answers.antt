use Rattle.std.proofs.Common.{◌≡◌, get_or, sym, subst}
use Rattle.object_cache.specs.Shelves.{stored, IsAt}
use Rattle.object_cache.proofs.Shelving.{within_by}
use Rattle.object_cache.proofs.shelf.Shelf.is_within.Goals as goal

pub returns : goal.returns
returns c = λ item is.
    let inside = c.self.inside in
    let place = c.args.place in
    let here = subst (λ v. IsAt v place) (sym c.self.view_is) c.requires in
    let item_is = subst (λ v. item ≡ get_or (stored v) place.index item) (sym c.self.view_is) is in
    within_by inside.kept.items inside.pieces.used inside.bytes place.index place.first c.index.result.now c.self.invariant here.within
    here.first
    c.index.ensures c.args.bounds.now item c.is_within.result item_is c.is_within.ensures
