use Rattle.std.proofs.Common.{◌∙◌, refl, arith}
use Rattle.std.proofs.lemmas.Grind.{common_steps}
use Rattle.std.proofs.Math.Seq.{take-add}
use Rattle.edge_traits.proofs.ToldLemmas.{Grew-join, Grew-by}
use Rattle.edge_traits.proofs.SentParts.{sent_part}
use Rattle.edge_traits.proofs.sending.send_all.Goals as goal

pub loop-sent-preserved : goal.loop-sent-preserved
loop-sent-preserved g c =
    let before = c.loop-sent.invariant in
    let after = c.in-Ok.ensures in
    record {
      within = grind (arith, common_steps, after.bound);
      grew = Grew-join before.grew after.sent (grind (arith, common_steps, take-add));
      given = Grew-join before.given after.given refl;
      ended = grind (arith, after.ended);
      stopped = grind (arith, common_steps, after.stopped);
      follows = g.met.L.Link.follows_on _ _ _ before.follows after.follows;
      still = after.cause.done ∙ before.still;
    }

pub returns-in-Ok-eq0-clause-part : goal.returns-in-Ok-eq0-clause-part
returns-in-Ok-eq0-clause-part g c =
    sent_part c.loop-sent.sent c.args.bytes.now c.loop-sent-test.true c.loop-sent.invariant.grew
    (Grew-by c.in-Ok-eq0.ensures.sent (grind (arith, common_steps)))

pub returns-in-Err-Failed-clause-part : goal.returns-in-Err-Failed-clause-part
returns-in-Err-Failed-clause-part g c =
    sent_part c.loop-sent.sent c.args.bytes.now c.loop-sent-test.true c.loop-sent.invariant.grew c.in-Err-Failed.ensures.sent

pub returns-in-Err-Memory-clause-part : goal.returns-in-Err-Memory-clause-part
returns-in-Err-Memory-clause-part g c =
    sent_part c.loop-sent.sent c.args.bytes.now c.loop-sent-test.true c.loop-sent.invariant.grew c.in-Err-Memory.ensures.sent
