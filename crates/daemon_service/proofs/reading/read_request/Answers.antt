use Rattle.std.proofs.Common.{[], refl, ◌∙◌, arith}
use Rattle.std.proofs.lemmas.Grind.{common_steps}
use Rattle.wire_tokens.proofs.RequestLaws.{empty_is_short}
use Rattle.edge_traits.proofs.ToldLemmas.{Grew-refl, Grew-still}
use Rattle.daemon_service.proofs.Receiving.{read_on, have_small, read_whole, read_some}
use Rattle.daemon_service.proofs.reading.read_request.Goals as goal

pub receiving-init : goal.receiving-init
receiving-init g c = record {
  room = c.requires;
  reading = record {
    text = [];
    is_at = c.new-reader.ensures.at;
    short = empty_is_short;
    len = refl;
    grew = Grew-refl _;
    open_still = refl;
  };
  sent = Grew-refl _;
  stopped = refl;
  follows = g.met.L.Link.follows_itself _;
  still = refl;
}

pub overflow_add-have : goal.overflow_add-have
overflow_add-have g c =
    let before = c.receiving.invariant.reading in
    omega (
      arith,
      have_small before c.in_ok-count.count c.receive_piece.new.room c.in_ok-count.ensures.piece.within
          (c.in-More.ensures.says before.text before.is_at),
    )

pub receiving-smaller : goal.receiving-smaller
receiving-smaller g c =
    let before = c.receiving.invariant.reading in
    let small = have_small before c.in_ok-count.count c.receive_piece.new.room c.in_ok-count.ensures.piece.within
    (c.in-More.ensures.says before.text before.is_at) in
    omega (arith, small, c.in_ok-count.ensures.piece.some)

pub receiving-preserved : goal.receiving-preserved
receiving-preserved g c =
    let before = c.receiving.invariant in
    let reading = before.reading in
    let after = c.in_ok-count.ensures in
    record {
      room = grind (arith, common_steps);
      reading = read_on reading c.in_ok-count.count c.receive_piece.new.room after.piece.within after.piece.given after.piece.open_still
          (c.in-More.ensures.says reading.text reading.is_at) (c.in-More.ensures.leaves reading.text reading.is_at);
      sent = Grew-still before.sent after.sent;
      stopped = grind (arith, after.stopped);
      follows = g.met.L.Link.follows_on _ _ _ before.follows after.follows;
      still = after.done ∙ before.still;
    }

pub returns-in-Whole-clause-given : goal.returns-in-Whole-clause-given
returns-in-Whole-clause-given g c =
    let reading = c.receiving.invariant.reading in
    let after = c.in_ok-count.ensures in
    read_whole reading c.in_ok-count.count c.receive_piece.new.room (g.L.Link.shows c.receive_piece.new.link) after.piece.given after.piece.open_still
    _ _ (c.in-Whole.ensures.says reading.text reading.is_at)

pub returns-in-Whole-clause-follows : goal.returns-in-Whole-clause-follows
returns-in-Whole-clause-follows g c = g.met.L.Link.follows_on _ _ _ c.receiving.invariant.follows c.in_ok-count.ensures.follows

pub returns-in-Memory-clause-given : goal.returns-in-Memory-clause-given
returns-in-Memory-clause-given g c =
    let reading = c.receiving.invariant.reading in
    let after = c.in_ok-count.ensures in
    read_some reading c.in_ok-count.count c.receive_piece.new.room (g.L.Link.shows c.receive_piece.new.link) after.piece.given after.piece.open_still
