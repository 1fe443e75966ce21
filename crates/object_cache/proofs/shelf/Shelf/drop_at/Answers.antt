use Rattle.std.proofs.Common.{◌+◌, ◌-◌, ◌≤◌, length, sym, ◌∙◌, ap, subst, arith}
use Rattle.std.specs.List.{remove}
use Rattle.object_cache.specs.Pieces.{turned}
use Rattle.object_cache.specs.Shelves.{stored, IsAt}
use Rattle.object_cache.proofs.Ordering.{length-turned}
use Rattle.object_cache.proofs.Shelving.{in_pieces, rest_size, pieces_dropped, dropped_items, dropped_shelf}
use Rattle.object_cache.proofs.shelf.Shelf.drop_at.Goals as goal

pub overflow_sub-self : goal.overflow_sub-self
overflow_sub-self c =
    let inside = c.self.inside in
    let place = c.args.place in
    let here = subst (λ v. IsAt v place) (sym c.self.view_is) c.requires in
    let left = rest_size inside.kept.items inside.pieces.used inside.bytes place.index place.first c.remove-kept.result c.self.invariant
    here.within here.first c.remove-kept.ensures.value in
    omega (arith, left)

pub overflow_add-place : goal.overflow_add-place
overflow_add-place c =
    let inside = c.self.inside in
    let place = c.args.place in
    let here = subst (λ v. IsAt v place) (sym c.self.view_is) c.requires in
    let within = in_pieces inside.kept.items inside.pieces.used inside.bytes place.index place.first c.remove-kept.result c.self.invariant
    here.within here.first c.remove-kept.ensures.value in
    omega (arith, within, c.self.invariant.few)

pub turn-requires-clause-mid : goal.turn-requires-clause-mid
turn-requires-clause-mid c =
    let inside = c.self.inside in
    let place = c.args.place in
    let here = subst (λ v. IsAt v place) (sym c.self.view_is) c.requires in
    let within = in_pieces inside.kept.items inside.pieces.used inside.bytes place.index place.first c.remove-kept.result c.self.invariant
    here.within here.first c.remove-kept.ensures.value in
    omega (arith, within, c.count.ensures)

pub shorten-requires : goal.shorten-requires
shorten-requires c =
    let inside = c.self.inside in
    let place = c.args.place in
    let here = subst (λ v. IsAt v place) (sym c.self.view_is) c.requires in
    let within = in_pieces inside.kept.items inside.pieces.used inside.bytes place.index place.first c.remove-kept.result c.self.invariant
    here.within here.first c.remove-kept.ensures.value in
    let end = place.first + c.remove-kept.result.pieces in
    let mid : end ≤ c.count.result = omega (arith, within, c.count.ensures) in
    let len = length-turned place.first end c.count.result inside.pieces.used (omega arith) mid in
    omega (arith, within, len, ap length c.turn.ensures.used)

pub invariant_of-self : goal.invariant_of-self
invariant_of-self c =
    let inside = c.self.inside in
    let place = c.args.place in
    let kept = c.remove-kept.result in
    let here = subst (λ v. IsAt v place) (sym c.self.view_is) c.requires in
    let turned_to = c.turn.ensures.used ∙ ap (λ n. turned place.first (place.first + kept.pieces) n inside.pieces.used) c.count.ensures in
    let now_is = c.shorten.ensures.used
    ∙ pieces_dropped inside.kept.items inside.pieces.used inside.bytes place.index place.first kept c.self.invariant here.within here.first
    c.remove-kept.ensures.value c.turn.new.self.used turned_to in
    let left = rest_size inside.kept.items inside.pieces.used inside.bytes place.index place.first kept c.self.invariant
    here.within here.first c.remove-kept.ensures.value in
    dropped_shelf inside.kept.items inside.pieces.used inside.bytes place.index place.first kept c.self.invariant here.within here.first
    c.remove-kept.ensures.value c.remove-kept.new.self.items c.shorten.new.self.used
    (inside.bytes - kept.size) c.remove-kept.ensures.items now_is
    (omega (arith, left))

pub returns-clause-stored : goal.returns-clause-stored
returns-clause-stored c =
    let inside = c.self.inside in
    let place = c.args.place in
    let kept = c.remove-kept.result in
    let here = subst (λ v. IsAt v place) (sym c.self.view_is) c.requires in
    let turned_to = c.turn.ensures.used ∙ ap (λ n. turned place.first (place.first + kept.pieces) n inside.pieces.used) c.count.ensures in
    let now_is = c.shorten.ensures.used
    ∙ pieces_dropped inside.kept.items inside.pieces.used inside.bytes place.index place.first kept c.self.invariant here.within here.first
    c.remove-kept.ensures.value c.turn.new.self.used turned_to in
    dropped_items inside.kept.items inside.pieces.used inside.bytes place.index place.first kept c.self.invariant here.within here.first
    c.remove-kept.ensures.value c.remove-kept.new.self.items c.shorten.new.self.used c.remove-kept.ensures.items now_is
    ∙ ap (λ v. remove (stored v) place.index) c.self.view_is
