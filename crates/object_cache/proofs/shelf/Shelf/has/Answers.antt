use Rattle.std.proofs.Common.{◌≡◌, get_or, sym, ◌∙◌, ap, subst}
use Rattle.object_cache.specs.Entries.{is_of}
use Rattle.object_cache.specs.Shelves.{stored, entry_in, IsAt, IsGood}
use Rattle.object_cache.proofs.Stores.{own_item}
use Rattle.object_cache.proofs.Shelving.{own_at, good_is, item_again}
use Rattle.object_cache.proofs.shelf.Shelf.has.Goals as goal

pub is_of-requires-clause-good : goal.is_of-requires-clause-good
is_of-requires-clause-good c =
    let inside = c.self.inside in
    let place = c.args.place in
    let kept = c.index.result.now in
    let here = subst (λ v. IsAt v place) (sym c.self.view_is) c.requires.at in
    let own = own_item inside.pieces.used place.first kept in
    let own_is = own_at inside.kept.items inside.pieces.used inside.bytes place.index place.first kept c.self.invariant here.within
    here.first
    c.index.ensures in
    let own_now = subst (λ v. own ≡ get_or (stored v) place.index own) c.self.view_is own_is in
    subst (λ t. IsGood (record { kept = kept; text = t })) (sym (c.text-text.ensures own own_now))
    (good_is inside.kept.items inside.pieces.used inside.bytes place.index place.first kept c.self.invariant here.within here.first
    c.index.ensures)

pub returns : goal.returns
returns c = λ item is.
    let inside = c.self.inside in
    let place = c.args.place in
    let kept = c.index.result.now in
    let here = subst (λ v. IsAt v place) (sym c.self.view_is) c.requires.at in
    let item_is = subst (λ v. item ≡ get_or (stored v) place.index item) (sym c.self.view_is) is in
    c.is_of.ensures
    ∙ ap (λ t. is_of c.args.words.now c.args.input.now (entry_in (record { kept = kept; text = t }))) (c.text-text.ensures item is)
    ∙ ap (λ x. is_of c.args.words.now c.args.input.now (entry_in x))
    (item_again inside.kept.items inside.pieces.used inside.bytes place.index place.first kept c.self.invariant here.within here.first
    c.index.ensures
    item item_is)
