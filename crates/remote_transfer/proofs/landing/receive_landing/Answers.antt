use Rattle.std.proofs.Common.{arith, ◌∙◌, refl, sym, subst}
use Rattle.std.proofs.lemmas.Result.{err_from_is_err_and}
use Rattle.reply_stream.specs.Objects.{spanned}
use Rattle.remote_transfer.specs.declared.receiving.Brought.TheVariants.{More, Whole}
use Rattle.remote_transfer.specs.Landings.{ReceivedInto}
use Rattle.remote_transfer.specs.Pieces.{PieceBrought}
use Rattle.remote_transfer.proofs.ByPieces.{receives-none, receives-then, receiving-small}
use Rattle.remote_transfer.proofs.IntoFiles.{stays-same, stays-then, into-begins, into-stops, into-memory, into-more, into-last}
use Rattle.remote_transfer.proofs.landing.receive_landing.Goals as goal

pub receiving-init : goal.receiving-init
receiving-init g c = record {
  room = c.requires.room;
  small = c.requires.small;
  shape = refl;
  into = into-begins (g.L.Link.shows c.args.link.now) c.args.reader.now c.args.path.now (g.K.Keeper.shows c.args.keeper.now) c.requires.at
      c.requires.idle;
  receives = receives-none c.args.link.now (g.met.L.Link.follows_itself _);
  stays = stays-same (g.K.Keeper.shows c.args.keeper.now);
}

pub returns-in_err-count-clause-received : goal.returns-in_err-count-clause-received
returns-in_err-count-clause-received g c =
    let p = err_from_is_err_and c.from_residual.result c.from_residual.ensures.1 in
    rw (p.1, p.2) (into-stops (g.L.Link.shows c.args.link.now) (g.L.Link.shows c.receiving.link)
    (g.L.Link.shows c.receive_piece.new.link) c.receiving.reader c.receiving.have c.receiving.state c.args.path.now
    (g.K.Keeper.shows c.args.keeper.now) (g.K.Keeper.shows c.receiving.keeper) c.in_err-count.field-0.0
    c.receiving.invariant.into c.in_err-count.ensures.stops)

pub returns-in_err-state-in-More-clause-received : goal.returns-in_err-state-in-More-clause-received
returns-in_err-state-in-More-clause-received g c =
    let b : PieceBrought (g.L.Link.shows c.receiving.link) (g.L.Link.shows c.receive_piece.new.link) c.receiving.reader
    c.receive_piece.new.reader c.receive_piece.new.room (More c.in-More.count c.in-More.object) =
    subst (λ x. PieceBrought (g.L.Link.shows c.receiving.link) (g.L.Link.shows c.receive_piece.new.link) c.receiving.reader
    c.receive_piece.new.reader c.receive_piece.new.room x) c.in-More.is c.in_ok-count.ensures.read in
    let p = err_from_is_err_and c.from_residual-in_err-state-in-More.result c.from_residual-in_err-state-in-More.ensures.1 in
    let memory = into-memory (g.L.Link.shows c.args.link.now) (g.L.Link.shows c.receiving.link)
    (g.L.Link.shows c.receive_piece.new.link) c.receiving.reader c.receive_piece.new.reader c.receiving.have c.receiving.state
    c.args.path.now (g.K.Keeper.shows c.args.keeper.now) (g.K.Keeper.shows c.receiving.keeper)
    (g.K.Keeper.shows c.land.new.keeper) c.in-More.count (spanned c.in-More.object c.receive_piece.new.room)
    c.receiving.invariant.into b.2
    c.in_err-state-in-More.ensures.some in
    rw (p.1, p.2, c.in_err-state-in-More.ensures.memory.0) memory

pub overflow_add-have : goal.overflow_add-have
overflow_add-have g c =
    let b : PieceBrought (g.L.Link.shows c.receiving.link) (g.L.Link.shows c.receive_piece.new.link) c.receiving.reader
    c.receive_piece.new.reader c.receive_piece.new.room (More c.in-More.count c.in-More.object) =
    subst (λ x. PieceBrought (g.L.Link.shows c.receiving.link) (g.L.Link.shows c.receive_piece.new.link) c.receiving.reader
    c.receive_piece.new.reader c.receive_piece.new.room x) c.in-More.is c.in_ok-count.ensures.read in
    omega (
      arith,
      receiving-small (g.L.Link.shows c.args.link.now) (g.L.Link.shows c.receiving.link) c.receiving.reader
          c.receiving.have c.receiving.invariant.into.object c.receiving.invariant.into.receiving,
      b.1,
      c.receive_piece.auto.room,
      c.receiving.invariant.small,
    )

pub receiving-smaller : goal.receiving-smaller
receiving-smaller g c =
    let b : PieceBrought (g.L.Link.shows c.receiving.link) (g.L.Link.shows c.receive_piece.new.link) c.receiving.reader
    c.receive_piece.new.reader c.receive_piece.new.room (More c.in-More.count c.in-More.object) =
    subst (λ x. PieceBrought (g.L.Link.shows c.receiving.link) (g.L.Link.shows c.receive_piece.new.link) c.receiving.reader
    c.receive_piece.new.reader c.receive_piece.new.room x) c.in-More.is c.in_ok-count.ensures.read in
    let some = b.2.some in
    omega (
      arith,
      receiving-small (g.L.Link.shows c.args.link.now) (g.L.Link.shows c.receiving.link) c.receiving.reader
          c.receiving.have c.receiving.invariant.into.object c.receiving.invariant.into.receiving,
      some,
    )

pub receiving-preserved : goal.receiving-preserved
receiving-preserved g c =
    let b : PieceBrought (g.L.Link.shows c.receiving.link) (g.L.Link.shows c.receive_piece.new.link) c.receiving.reader
    c.receive_piece.new.reader c.receive_piece.new.room (More c.in-More.count c.in-More.object) =
    subst (λ x. PieceBrought (g.L.Link.shows c.receiving.link) (g.L.Link.shows c.receive_piece.new.link) c.receiving.reader
    c.receive_piece.new.reader c.receive_piece.new.room x) c.in-More.is c.in_ok-count.ensures.read in
    record {
      room = omega (arith, c.receive_piece.auto.room, c.receiving.invariant.room);
      small = omega (arith, c.receive_piece.auto.room, c.receiving.invariant.small);
      shape = c.receive_piece.auto.room ∙ c.receiving.invariant.shape;
      into = into-more (g.L.Link.shows c.args.link.now) (g.L.Link.shows c.receiving.link) (g.L.Link.shows c.receive_piece.new.link)
          c.receiving.reader c.receive_piece.new.reader c.receiving.have c.receiving.state c.in_ok-state-in-More.state
          c.args.path.now (g.K.Keeper.shows c.args.keeper.now) (g.K.Keeper.shows c.receiving.keeper)
          (g.K.Keeper.shows c.land.new.keeper) c.in-More.count (spanned c.in-More.object c.receive_piece.new.room)
          c.receiving.invariant.into c.receiving.invariant.stays.faults b.2 c.in_ok-state-in-More.ensures.lands;
      receives = receives-then g.met.L.Link.follows_on c.receiving.invariant.receives c.receive_piece.ensures.receives;
      stays = stays-then (g.K.Keeper.shows c.args.keeper.now) (g.K.Keeper.shows c.receiving.keeper)
          (g.K.Keeper.shows c.land.new.keeper) c.receiving.invariant.stays c.land.ensures.stays;
    }

pub returns-in-Whole-clause-received : goal.returns-in-Whole-clause-received
returns-in-Whole-clause-received g c =
    let b : PieceBrought (g.L.Link.shows c.receiving.link) (g.L.Link.shows c.receive_piece.new.link) c.receiving.reader
    c.receive_piece.new.reader c.receive_piece.new.room (Whole c.in-Whole.object c.in-Whole.outcome) =
    subst (λ x. PieceBrought (g.L.Link.shows c.receiving.link) (g.L.Link.shows c.receive_piece.new.link) c.receiving.reader
    c.receive_piece.new.reader c.receive_piece.new.room x) c.in-Whole.is c.in_ok-count.ensures.read in
    subst (λ result. ReceivedInto result c.args.path.now (g.L.Link.shows c.args.link.now) (g.L.Link.shows c.receive_piece.new.link)
    (g.K.Keeper.shows c.args.keeper.now) (g.K.Keeper.shows c.land_last-landed.new.keeper)) (sym c.with_landing.ensures)
    (into-last (g.L.Link.shows c.args.link.now) (g.L.Link.shows c.receiving.link) (g.L.Link.shows c.receive_piece.new.link)
    c.receiving.reader c.receive_piece.new.reader c.receiving.have c.receiving.state c.args.path.now
    (g.K.Keeper.shows c.args.keeper.now) (g.K.Keeper.shows c.receiving.keeper) (g.K.Keeper.shows c.land_last-landed.new.keeper)
    b.1.0 (spanned c.in-Whole.object c.receive_piece.new.room) c.in-Whole.outcome c.land_last-landed.result
    c.receiving.invariant.into c.receiving.invariant.stays.faults b.1.1 c.land_last-landed.ensures.lands
    c.land_last-landed.ensures.memory)
