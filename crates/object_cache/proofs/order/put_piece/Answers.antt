use Rattle.std.proofs.Common.{◌≡◌, ◌<◌, ◌+◌, ◌++◌, ◌∷◌, [], length, sym, ◌∙◌, ap, subst, arith}
use Rattle.std.proofs.lemmas.List.{get_or_read, length_push}
use Rattle.object_cache.specs.Pieces.{in_order, IsOrder}
use Rattle.object_cache.proofs.Ordering.{place_within, put_over, put_behind, order_more}
use Rattle.object_cache.proofs.order.put_piece.Goals as goal

pub index_mut-requires : goal.index_mut-requires
index_mut-requires c =
    let order = c.args.order.now in
    let lt : c.args.at < length order.items = omega (arith, order.ok.0, c.len.ensures, c.if-at-len.true) in
    let is = get_or_read order.items c.args.at c.index.result.now lt c.index.ensures 0 in
    omega (arith, place_within (length c.args.block.now.items) order.items c.args.at c.requires.order lt, is, c.args.block.now.ok.0)

pub returns-then-at-len-clause-pieces : goal.returns-then-at-len-clause-pieces
returns-then-at-len-clause-pieces c =
    let order = c.args.order.now in
    let lt : c.args.at < length order.items = omega (arith, order.ok.0, c.len.ensures, c.if-at-len.true) in
    let is = get_or_read order.items c.args.at c.index.result.now lt c.index.ensures 0 in
    put_over c.args.block.now.items order.items c.args.at c.index.result.now c.args.piece.now c.requires.order lt is

pub returns-else-at-len-clause-order : goal.returns-else-at-len-clause-order
returns-else-at-len-clause-order c =
    let block = c.args.block.now.items in
    let order = c.args.order.now in
    let last : c.args.at ≡ length order.items = omega (arith, order.ok.0, c.len.ensures, c.if-at-len.false, c.requires.at.0) in
    let len : length block + 1 ≡ length c.push_reserved.new.self.items =
    sym (ap length c.push_reserved.ensures.items ∙ length_push block c.args.piece.now) in
    subst (λ n. IsOrder n c.push_reserved-else-at-len.new.self.items) len
    (subst (IsOrder (length block + 1)) (sym c.push_reserved-else-at-len.ensures.items) (order_more
    (length block) order.items c.args.at c.requires.order last))

pub returns-else-at-len-clause-pieces : goal.returns-else-at-len-clause-pieces
returns-else-at-len-clause-pieces c =
    let block = c.args.block.now.items in
    let order = c.args.order.now in
    let last : c.args.at ≡ length order.items = omega (arith, order.ok.0, c.len.ensures, c.if-at-len.false, c.requires.at.0) in
    ap (λ xs. in_order xs c.push_reserved-else-at-len.new.self.items) c.push_reserved.ensures.items
    ∙ ap (in_order (block ++ c.args.piece.now ∷ [])) c.push_reserved-else-at-len.ensures.items
    ∙ put_behind block order.items c.args.at c.args.piece.now c.requires.order last
