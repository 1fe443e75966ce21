use Rattle.std.proofs.Common.{◌≡◌, get_or, sym, ◌∙◌, subst}
use Rattle.object_cache.specs.Shelves.{stored, IsAt}
use Rattle.object_cache.proofs.Shelving.{in_pieces, item_text}
use Rattle.object_cache.proofs.shelf.Shelf.text.Goals as goal

pub read-requires : goal.read-requires
read-requires c =
    let inside = c.self.inside in
    let here = subst (λ v. IsAt v c.args.place) (sym c.self.view_is) c.requires in
    in_pieces inside.kept.items inside.pieces.used inside.bytes c.args.place.index c.args.place.first c.index-kept.result.now
    c.self.invariant
    here.within here.first c.index-kept.ensures

pub returns : goal.returns
returns c = λ item is.
    let inside = c.self.inside in
    let here = subst (λ v. IsAt v c.args.place) (sym c.self.view_is) c.requires in
    let item_is = subst (λ v. item ≡ get_or (stored v) c.args.place.index item) (sym c.self.view_is) is in
    c.read.ensures
    ∙ item_text inside.kept.items inside.pieces.used inside.bytes c.args.place.index c.args.place.first c.index-kept.result.now
    c.self.invariant
    here.within here.first c.index-kept.ensures item item_is
