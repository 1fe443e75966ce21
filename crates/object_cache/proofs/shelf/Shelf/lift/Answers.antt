use Rattle.std.proofs.Common.{◌≡◌, ◌+◌, ◌∷◌, length, get_or, sym, ◌∙◌, ap, subst, arith}
use Rattle.std.specs.List.{remove}
use Rattle.std.proofs.lemmas.List.{with_items_is}
use Rattle.object_cache.specs.Pieces.{turned}
use Rattle.object_cache.specs.Shelves.{stored, items_of, IsAt, IsShelf}
use Rattle.object_cache.proofs.Ordering.{length-turned}
use Rattle.object_cache.proofs.Shelving.{in_pieces, lifted_shelf, lifted_items}
use Rattle.object_cache.proofs.shelf.Shelf.lift.Goals as goal

pub overflow_add-place : goal.overflow_add-place
overflow_add-place c =
    let inside = c.self.inside in
    let here = subst (λ v. IsAt v c.args.place) (sym c.self.view_is) c.requires in
    let within = in_pieces inside.kept.items inside.pieces.used inside.bytes c.args.place.index c.args.place.first c.index.result.now
    c.self.invariant
    here.within here.first c.index.ensures in
    omega (arith, within, c.self.invariant.few)

pub turn-requires-clause-end : goal.turn-requires-clause-end
turn-requires-clause-end c =
    let inside = c.self.inside in
    let here = subst (λ v. IsAt v c.args.place) (sym c.self.view_is) c.requires in
    in_pieces inside.kept.items inside.pieces.used inside.bytes c.args.place.index c.args.place.first c.index.result.now c.self.invariant
    here.within here.first c.index.ensures

pub invariant_of-self : goal.invariant_of-self
invariant_of-self c =
    let inside = c.self.inside in
    let index = c.args.place.index in
    let first = c.args.place.first in
    let kept = c.index.result.now in
    let here = subst (λ v. IsAt v c.args.place) (sym c.self.view_is) c.requires in
    let turned_to = c.turn-2.ensures ∙ ap (turned 0 index (index + 1)) c.as_mut_slice.ensures.value in
    let len = length-turned 0 index (index + 1) inside.kept.items (omega arith) (omega arith) in
    let items = with_items_is inside.kept c.turn-2.new.items (omega (arith, ap length turned_to, len, inside.kept.ok.0)) ∙ turned_to in
    subst (λ ks. IsShelf ks c.turn.new.self.used inside.bytes) (sym items)
    (subst (λ ps. IsShelf (turned 0 index (index + 1) inside.kept.items) ps inside.bytes) (sym c.turn.ensures.used)
    (lifted_shelf inside.kept.items inside.pieces.used inside.bytes index first kept c.self.invariant here.within here.first
    c.index.ensures))

pub returns-clause-stored : goal.returns-clause-stored
returns-clause-stored c = λ item is.
    let inside = c.self.inside in
    let index = c.args.place.index in
    let first = c.args.place.first in
    let kept = c.index.result.now in
    let here = subst (λ v. IsAt v c.args.place) (sym c.self.view_is) c.requires in
    let item_is = subst (λ v. item ≡ get_or (stored v) index item) (sym c.self.view_is) is in
    let turned_to = c.turn-2.ensures ∙ ap (turned 0 index (index + 1)) c.as_mut_slice.ensures.value in
    let len = length-turned 0 index (index + 1) inside.kept.items (omega arith) (omega arith) in
    let items = with_items_is inside.kept c.turn-2.new.items (omega (arith, ap length turned_to, len, inside.kept.ok.0)) ∙ turned_to in
    ap (λ ks. items_of ks c.turn.new.self.used) items ∙ ap (items_of (turned 0 index (index + 1) inside.kept.items)) c.turn.ensures.used
    ∙ lifted_items inside.kept.items inside.pieces.used inside.bytes index first kept c.self.invariant here.within here.first
    c.index.ensures
    item item_is
    ∙ ap (λ v. item ∷ remove (stored v) index) c.self.view_is
