use Rattle.std.proofs.Common.{◌≡◌, ◌<◌, ◌++◌, ℕ, List, length, take, refl, sym, ◌∙◌, ap, subst, arith, append_assoc}
use Rattle.std.specs.Vec.{vec_capacity}
use Rattle.std.proofs.lemmas.List.{take-append-drop, length-take-le}
use Rattle.object_cache.specs.Pieces.{in_order, text_behind, ArePieces}
use Rattle.object_cache.specs.declared.pieces.Pieces.TheInside.{Inside}
use Rattle.object_cache.proofs.Writing.{flushed, flushed_text, written, written_text, at_within}
use Rattle.object_cache.proofs.pieces.Pieces.add_front.Goals as goal
use Rattle.object_cache.proofs.pieces.Pieces.add_front.Goals.{then-self-eq-PIECE, else-self-eq-PIECE}

-- the piece that is to be filled, and the text so far
abbrev IsReady : Inside → List ℕ → Type 0
IsReady p text =
    ArePieces p.block.items p.order.items (vec_capacity p.block) (vec_capacity p.order) p.room p.used p.at p.len p.last
    × (text_behind p.used p.at p.len p.last (in_order p.block.items p.order.items) ≡ text)

ready : (c : goal.After-self-2-1) → IsReady c.if-self-eq-PIECE.self-inside c.args.self.now.text
ready c =
    elim c.if-self-eq-PIECE.branch [
      | then-self-eq-PIECE w ↦ subst (λ p. IsReady p c.args.self.now.text) (sym w.self-inside-is)
          (let p = c.self.inside in
          let are = c.self.invariant in
          let ps = in_order p.block.items p.order.items in
          let within = at_within p.block.items p.order.items (vec_capacity p.block)
          (vec_capacity p.order) p.room p.used p.at p.len p.last are in
          let text = flushed_text p.used p.at ps
          (in_order w.put_piece.new.block.items w.put_piece.new.order.items) p.last are.used_le within
          w.put_piece.ensures.pieces c.self.told in
          let old : text_behind p.used p.at 320 p.last ps ≡ c.args.self.now.text =
          ap (λ n. text_behind p.used p.at n p.last ps) (sym w.if-self-eq-PIECE.true) ∙ ap (λ v. v.text) c.self.view_is in
          let used : length (take p.used ps) ≡ p.used = length-take-le p.used ps (omega (arith, are.used_le, within)) in
          let lt : p.at < p.room = omega (
            arith,
            c.requires.some,
            c.requires.room,
            are.counted,
            ap (λ v. length v.text) c.self.view_is,
            ap (λ v. length v.used) c.self.view_is,
            ap (λ v. v.room) c.self.view_is,
            used,
            w.if-self-eq-PIECE.true,
          ) in (
            flushed p.block.items p.order.items (vec_capacity p.block) (vec_capacity p.order) p.room p.used p.at p.len p.last are
                w.put_piece.new.block.items w.put_piece.new.order.items (vec_capacity w.put_piece.new.block)
                (vec_capacity w.put_piece.new.order)
                w.put_piece.ensures.block_capacity w.put_piece.ensures.order_capacity w.if-self-eq-PIECE.true c.self.told lt
                w.put_piece.ensures.order
                w.put_piece.ensures.pieces,
            text ∙ old,
          ))
      | else-self-eq-PIECE w ↦ subst (λ p. IsReady p c.args.self.now.text) (sym w.self-inside-is) (
        c.self.invariant,
        ap
            (λ v. v.text) c.self.view_is,
      )
    ]

pub invariant_of-self : goal.invariant_of-self
invariant_of-self c =
    let p = c.if-self-eq-PIECE.self-inside in
    let front = c.split_at.result.0.now in
    written p.block.items p.order.items (vec_capacity p.block) (vec_capacity p.order) p.room p.used p.at p.len p.last (ready c).0
    c.write_at.new.piece front (length front) (omega (
      arith,
      c.split_at.ensures.front_len,
      c.min.ensures,
      (ready c).0.len_le,
    )) c.write_at.ensures refl

pub returns-clause-text : goal.returns-clause-text
returns-clause-text c =
    let p = c.if-self-eq-PIECE.self-inside in
    let front = c.split_at.result.0.now in
    let ps = in_order p.block.items p.order.items in
    ap (λ xs. xs ++ c.split_at.result.1.now)
    (written_text p.used p.at p.len (length front) p.last c.write_at.new.piece front ps c.write_at.ensures
    ∙ ap (λ xs. xs ++ front) (ready c).1)
    ∙ append_assoc c.args.self.now.text front c.split_at.result.1.now
    ∙ ap (λ xs. c.args.self.now.text ++ xs)
    (ap (λ xs. xs ++ c.split_at.result.1.now) c.split_at.ensures.front
    ∙ ap (λ xs. take c.min.result c.args.bytes.now ++ xs) c.split_at.ensures.back
    ∙ take-append-drop c.min.result c.args.bytes.now)
