use Rattle.std.proofs.Common.{take, arith}
use Rattle.std.proofs.lemmas.Grind.{common_steps}
use Rattle.std.proofs.lemmas.List.{length-take}
use Rattle.remote_transfer.proofs.ByPieces.{span_in_room, comes-more, comes-whole}
use Rattle.remote_transfer.proofs.receiving.receive_piece.Goals as goal

pub returns-in-More-clause-read : goal.returns-in-More-clause-read
returns-in-More-clause-read g c =
    let f = c.in-More.ensures in (
      span_in_room c.in-More.object c.in-More.used c.in-Ok.count c.recv.new.room f.uses.1 (omega (arith, f.uses.0)),
      omega (arith, c.in-Ok.ensures.bound, c.recv.auto.room),
      record {
        piece = take c.in-Ok.count c.recv.new.room;
        long = omega (arith, length-take c.in-Ok.count c.recv.new.room, c.in-Ok.ensures.bound, c.recv.auto.room);
        some = omega (arith, c.in-Ok.count-test);
        grew = c.in-Ok.ensures.given;
        ended = grind (arith, common_steps, c.in-Ok.ensures.ended, c.in-Ok.count-test);
        still = c.in-Ok.ensures.cause.done;
        read = comes-more c.args.reader.now c.feed.new.self c.in-Ok.count c.in-More.used c.recv.new.room c.in-More.object f.uses
            f.says f.joined
            f.leaves;
      },
    )

pub returns-in-Whole-clause-read : goal.returns-in-Whole-clause-read
returns-in-Whole-clause-read g c =
    let f = c.in-Whole.ensures in (
      span_in_room c.in-Whole.object c.in-Whole.used c.in-Ok.count c.recv.new.room f.uses.1 f.uses.0,
      (
        c.in-Ok.count,
        record {
          piece = take c.in-Ok.count c.recv.new.room;
          long = omega (arith, length-take c.in-Ok.count c.recv.new.room, c.in-Ok.ensures.bound, c.recv.auto.room);
          some = omega (arith, c.in-Ok.count-test);
          grew = c.in-Ok.ensures.given;
          ended = grind (arith, common_steps, c.in-Ok.ensures.ended, c.in-Ok.count-test);
          still = c.in-Ok.ensures.cause.done;
          read = comes-whole c.args.reader.now c.feed.new.self c.in-Ok.count c.in-Whole.used c.recv.new.room c.in-Whole.object
              c.in-Whole.outcome f.uses f.says;
        },
      ),
    )
