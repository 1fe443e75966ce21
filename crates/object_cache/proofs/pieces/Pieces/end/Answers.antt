use Rattle.std.proofs.Common.{◌≡◌, ◌+◌, ◌<◌, [], get_or, length, take, drop, sym, ◌∙◌, ap, arith}
use Rattle.std.specs.Vec.{vec_capacity}
use Rattle.std.specs.List.{concat}
use Rattle.std.proofs.lemmas.List.{length-take-le, length-map}
use Rattle.object_cache.specs.Pieces.{in_order, text_behind}
use Rattle.object_cache.proofs.Writing.{at_within, now_len, ended_text, idle}
use Rattle.object_cache.proofs.pieces.Pieces.end.Goals as goal

pub invariant_of-self-2 : goal.invariant_of-self-2
invariant_of-self-2 c =
    let p = c.self.inside in
    let are = c.self.invariant in
    let ps = in_order p.block.items p.order.items in
    let block = c.put_piece.new.block in
    let order = c.put_piece.new.order in
    let within = at_within p.block.items p.order.items (vec_capacity p.block) (vec_capacity p.order) p.room p.used p.at p.len p.last are in
    let used : length (take p.used ps) ≡ p.used = length-take-le p.used ps (omega (arith, are.used_le, within)) in
    let lt : p.at < p.room = omega (
      arith,
      c.requires,
      are.counted,
      ap (λ v. length v.text) c.self.view_is,
      ap (λ v. length v.used) c.self.view_is,
      ap (λ v. v.room) c.self.view_is,
      used,
      c.if-self-eq0.false,
    ) in
    idle block.items order.items (vec_capacity block) (vec_capacity order) p.room (p.at + 1) p.last c.put_piece.ensures.order
    (omega (
      arith,
      now_len p.used p.at ps (in_order block.items order.items) p.last are.used_le within c.put_piece.ensures.pieces,
      length-map order.items (λ n. get_or block.items n []),
    ))
    (omega (arith, are.in_block, c.put_piece.ensures.block_capacity)) (omega
    (arith, are.in_numbers, c.put_piece.ensures.order_capacity)) are.few
    (omega (arith, lt, are.few))

pub returns-clause-text : goal.returns-clause-text
returns-clause-text c =
    let p = c.self.inside in
    let are = c.self.invariant in
    let ps = in_order p.block.items p.order.items in
    let now = in_order c.put_piece.new.block.items c.put_piece.new.order.items in
    let within = at_within p.block.items p.order.items (vec_capacity p.block) (vec_capacity p.order) p.room p.used p.at p.len p.last are in
    let used : length c.args.self.now.used ≡ p.used =
    sym (ap (λ v. length v.used) c.self.view_is) ∙ length-take-le p.used ps (omega (arith, are.used_le, within)) in
    let text : text_behind p.used p.at p.len p.last ps ≡ c.args.self.now.text = ap (λ v. v.text) c.self.view_is in
    ap (λ n. take (length c.args.self.now.text) (concat (drop n (take (p.at + 1) now)))) used
    ∙ ap (λ t. take (length t) (concat (drop p.used (take (p.at + 1) now)))) (sym text)
    ∙ ended_text p.used p.at ps now p.last are.used_le within c.put_piece.ensures.pieces p.len (omega (arith, are.len_le, c.self.told))
    ∙ text
