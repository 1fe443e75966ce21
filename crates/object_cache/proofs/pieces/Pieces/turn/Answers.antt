use Rattle.std.proofs.Common.{◌≤◌, length, take, sym, ◌∙◌, ap, subst, arith}
use Rattle.std.specs.Vec.{vec_capacity}
use Rattle.std.proofs.lemmas.List.{with_items_is}
use Rattle.object_cache.specs.Pieces.{in_order, turned, ArePieces}
use Rattle.object_cache.proofs.Ordering.{order_turned, length-turned, used_turned}
use Rattle.object_cache.proofs.Writing.{idle}
use Rattle.object_cache.proofs.pieces.Pieces.turn.Goals as goal

pub invariant_of-self : goal.invariant_of-self
invariant_of-self c =
    let inside = c.self.inside in
    let are = c.self.invariant in
    let from = c.args.from in
    let mid = c.args.mid in
    let end = c.args.end in
    let len = length-turned from mid end inside.order.items c.requires.from c.requires.mid in
    let turned_to = c.turn_numbers.ensures ∙ ap (turned from mid end) c.as_mut_slice.ensures.value in
    let items = with_items_is inside.order c.turn_numbers.new.numbers (omega (arith, ap length turned_to, len, inside.order.ok.0))
    ∙ turned_to in
    subst
    (λ os. ArePieces inside.block.items os (vec_capacity inside.block)
    (vec_capacity inside.order) inside.room inside.used inside.used 0 inside.last)
    (sym items)
    (idle inside.block.items (turned from mid end inside.order.items) (vec_capacity inside.block)
    (vec_capacity inside.order) inside.room inside.used
    inside.last (order_turned (length inside.block.items) from mid end inside.order.items are.order_is c.requires.from c.requires.mid)
    (omega (arith, len, are.used_le, are.at_le)) are.in_block are.in_numbers are.few (omega (arith, are.used_le, are.few_before)))

pub returns-clause-used : goal.returns-clause-used
returns-clause-used c =
    let inside = c.self.inside in
    let are = c.self.invariant in
    let from = c.args.from in
    let mid = c.args.mid in
    let end = c.args.end in
    let len = length-turned from mid end inside.order.items c.requires.from c.requires.mid in
    let turned_to = c.turn_numbers.ensures ∙ ap (turned from mid end) c.as_mut_slice.ensures.value in
    let items = with_items_is inside.order c.turn_numbers.new.numbers (omega (arith, ap length turned_to, len, inside.order.ok.0))
    ∙ turned_to in
    let within : end ≤ length (take inside.used (in_order inside.block.items inside.order.items)) =
    subst (λ v. end ≤ length v.used) (sym c.self.view_is) c.requires.end in
    ap (λ os. take inside.used (in_order inside.block.items os)) items
    ∙ used_turned inside.block.items inside.order.items inside.used from mid end c.requires.from c.requires.mid within
    (omega (arith, are.used_le, are.at_le))
    ∙ ap (λ v. turned from mid end v.used) c.self.view_is
