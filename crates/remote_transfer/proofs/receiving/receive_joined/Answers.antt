use Rattle.std.proofs.Common.{◌+◌, ◌++◌, arith, ◌∙◌, sym, subst}
use Rattle.std.proofs.lemmas.Result.{err_from_is_err_and}
use Rattle.reply_stream.specs.Objects.{spanned}
use Rattle.remote_transfer.specs.declared.receiving.Brought.TheVariants.{More, Whole}
use Rattle.remote_transfer.specs.Pieces.{PieceBrought}
use Rattle.remote_transfer.proofs.ByPieces.{Receiving, receiving-small, receiving-more, receiving-whole, receiving-memory}
use Rattle.remote_transfer.proofs.ByPieces.{receives-then, receiving-stops, received-last}
use Rattle.remote_transfer.proofs.receiving.receive_joined.Goals as goal

pub shape_of-room-in_err-count : goal.shape_of-room-in_err-count
shape_of-room-in_err-count g c = c.receive_piece.auto.room ∙ c.receiving.invariant.shape

pub shape_of-room-in_err-try_extend-in-More : goal.shape_of-room-in_err-try_extend-in-More
shape_of-room-in_err-try_extend-in-More g c = c.receive_piece.auto.room ∙ c.receiving.invariant.shape

pub shape_of-room-in-Whole : goal.shape_of-room-in-Whole
shape_of-room-in-Whole g c = c.receive_piece.auto.room ∙ c.receiving.invariant.shape

pub returns-in_err-count-clause-received : goal.returns-in_err-count-clause-received
returns-in_err-count-clause-received g c =
    let p = err_from_is_err_and c.from_residual.result c.from_residual.ensures.1 in
    rw (p.1, p.2) (receiving-stops (g.L.Link.shows c.args.link.now) (g.L.Link.shows c.receiving.link)
    (g.L.Link.shows c.receive_piece.new.link) c.receiving.reader c.receiving.have c.receiving.object c.in_err-count.field-0.0
    c.receiving.invariant.receiving c.in_err-count.ensures.stops)

pub returns-in_err-try_extend-in-More-clause-received : goal.returns-in_err-try_extend-in-More-clause-received
returns-in_err-try_extend-in-More-clause-received g c =
    let b : PieceBrought (g.L.Link.shows c.receiving.link) (g.L.Link.shows c.receive_piece.new.link) c.receiving.reader
    c.receive_piece.new.reader c.receive_piece.new.room (More c.in-More.count c.in-More.span) =
    subst (λ x. PieceBrought (g.L.Link.shows c.receiving.link) (g.L.Link.shows c.receive_piece.new.link) c.receiving.reader
    c.receive_piece.new.reader c.receive_piece.new.room x) c.in-More.is c.in_ok-count.ensures.read in
    let p = err_from_is_err_and c.from_residual-in_err-try_extend-in-More.result c.from_residual-in_err-try_extend-in-More.ensures.1 in
    rw (p.1, p.2) (receiving-memory (g.L.Link.shows c.args.link.now) (g.L.Link.shows c.receiving.link)
    (g.L.Link.shows c.receive_piece.new.link) b.2.piece c.receiving.reader c.receiving.have c.receiving.object
    c.receiving.invariant.receiving b.2.grew b.2.ended b.2.still)

pub overflow_add-have : goal.overflow_add-have
overflow_add-have g c =
    let b : PieceBrought (g.L.Link.shows c.receiving.link) (g.L.Link.shows c.receive_piece.new.link) c.receiving.reader
    c.receive_piece.new.reader c.receive_piece.new.room (More c.in-More.count c.in-More.span) =
    subst (λ x. PieceBrought (g.L.Link.shows c.receiving.link) (g.L.Link.shows c.receive_piece.new.link) c.receiving.reader
    c.receive_piece.new.reader c.receive_piece.new.room x) c.in-More.is c.in_ok-count.ensures.read in
    omega (
      arith,
      receiving-small (g.L.Link.shows c.args.link.now) (g.L.Link.shows c.receiving.link) c.receiving.reader
          c.receiving.have c.receiving.object c.receiving.invariant.receiving,
      b.1,
      c.receive_piece.auto.room,
      c.receiving.invariant.small,
    )

pub receiving-smaller : goal.receiving-smaller
receiving-smaller g c =
    let b : PieceBrought (g.L.Link.shows c.receiving.link) (g.L.Link.shows c.receive_piece.new.link) c.receiving.reader
    c.receive_piece.new.reader c.receive_piece.new.room (More c.in-More.count c.in-More.span) =
    subst (λ x. PieceBrought (g.L.Link.shows c.receiving.link) (g.L.Link.shows c.receive_piece.new.link) c.receiving.reader
    c.receive_piece.new.reader c.receive_piece.new.room x) c.in-More.is c.in_ok-count.ensures.read in
    let some = b.2.some in
    omega (
      arith,
      receiving-small (g.L.Link.shows c.args.link.now) (g.L.Link.shows c.receiving.link) c.receiving.reader
          c.receiving.have c.receiving.object c.receiving.invariant.receiving,
      some,
    )

pub receiving-preserved : goal.receiving-preserved
receiving-preserved g c =
    let b : PieceBrought (g.L.Link.shows c.receiving.link) (g.L.Link.shows c.receive_piece.new.link) c.receiving.reader
    c.receive_piece.new.reader c.receive_piece.new.room (More c.in-More.count c.in-More.span) =
    subst (λ x. PieceBrought (g.L.Link.shows c.receiving.link) (g.L.Link.shows c.receive_piece.new.link) c.receiving.reader
    c.receive_piece.new.reader c.receive_piece.new.room x) c.in-More.is c.in_ok-count.ensures.read in
    let more = receiving-more (g.L.Link.shows c.args.link.now) (g.L.Link.shows c.receiving.link)
    (g.L.Link.shows c.receive_piece.new.link) c.receiving.reader c.receive_piece.new.reader c.receiving.have c.in-More.count
    c.receiving.object (spanned c.in-More.span c.receive_piece.new.room) c.receiving.invariant.receiving b.2 in
    record {
      room = omega (arith, c.receive_piece.auto.room, c.receiving.invariant.room);
      small = omega (arith, c.receive_piece.auto.room, c.receiving.invariant.small);
      shape = c.receive_piece.auto.room ∙ c.receiving.invariant.shape;
      receiving = subst (λ x. Receiving (g.L.Link.shows c.args.link.now) (g.L.Link.shows c.receive_piece.new.link)
          c.receive_piece.new.reader (c.receiving.have + c.in-More.count) x) (sym c.in_ok-try_extend-in-More.ensures.ok) more;
      receives = receives-then g.met.L.Link.follows_on c.receiving.invariant.receives c.receive_piece.ensures.receives;
    }

pub returns-in-Whole-clause-received : goal.returns-in-Whole-clause-received
returns-in-Whole-clause-received g c =
    let b : PieceBrought (g.L.Link.shows c.receiving.link) (g.L.Link.shows c.receive_piece.new.link) c.receiving.reader
    c.receive_piece.new.reader c.receive_piece.new.room (Whole c.in-Whole.span c.in-Whole.outcome) =
    subst (λ x. PieceBrought (g.L.Link.shows c.receiving.link) (g.L.Link.shows c.receive_piece.new.link) c.receiving.reader
    c.receive_piece.new.reader c.receive_piece.new.room x) c.in-Whole.is c.in_ok-count.ensures.read in
    let p = b.1.1 in
    let bytes = spanned c.in-Whole.span c.receive_piece.new.room in
    received-last (g.L.Link.shows c.args.link.now) (g.L.Link.shows c.receive_piece.new.link) c.join_last.result
    c.join_last.new.object (c.receiving.object ++ bytes) c.in-Whole.outcome c.join_last.ensures.ok c.join_last.ensures.memory
    (receiving-whole (g.L.Link.shows c.args.link.now) (g.L.Link.shows c.receiving.link) (g.L.Link.shows c.receive_piece.new.link)
    c.receiving.reader c.receive_piece.new.reader c.receiving.have b.1.0 c.receiving.object bytes c.in-Whole.outcome
    c.receiving.invariant.receiving p)
    (receiving-memory (g.L.Link.shows c.args.link.now) (g.L.Link.shows c.receiving.link) (g.L.Link.shows c.receive_piece.new.link)
    p.piece c.receiving.reader c.receiving.have c.receiving.object c.receiving.invariant.receiving p.grew p.ended p.still)
