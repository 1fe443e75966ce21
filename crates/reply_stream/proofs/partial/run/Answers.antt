use Rattle.std.proofs.Common.{◌<◌, ◌^◌, length, drop, sym, subst, ◌∙◌, arith}
use Rattle.std.proofs.lemmas.List.{take_rest}
use Rattle.reply_stream.proofs.Spans.{head-whole, head-more, object-part, ends-within}
use Rattle.reply_stream.specs.Taking.{Runs, hands}
use Rattle.reply_stream.proofs.partial.run.Goals as goal

pub returns-in-Whole : goal.returns-in-Whole
returns-in-Whole c = head-whole c.args.p.now c.run_head.new.p c.args.piece.now c.in-Whole.outcome c.in-Whole.taken c.in-Whole.ensures.says

pub returns-then-not-is_at_object : goal.returns-then-not-is_at_object
returns-then-not-is_at_object c =
    head-more c.args.p.now c.run_head.new.p c.args.piece.now c.in-More.taken c.in-More.ensures.says
    (c.in-More.ensures.head (sym c.is_at_object.ensures ∙ c.if-not-is_at_object.true))

pub object_part-requires : goal.object_part-requires
object_part-requires c =
    let then = rw take_rest at c.object_bytes.ensures.says in
    let small : length c.args.piece.now < 2 ^ 64 = omega arith in
    ends-within (hands (drop c.in-More.taken c.args.piece.now)) c.run_head.new.p c.object_bytes.new.p c.args.piece.now
    c.in-More.taken c.object_bytes.result c.in-More.ensures.says.0 small then

pub returns : goal.returns
returns c =
    let then = rw take_rest at c.object_bytes.ensures.says in
    let all = rw take_rest at c.object_bytes.ensures.all in
    subst (Runs c.args.p.now c.object_bytes.new.p c.args.piece.now) (sym c.object_part.ensures)
    (object-part c.args.p.now c.run_head.new.p c.object_bytes.new.p c.args.piece.now c.in-More.taken c.object_bytes.result
    c.in-More.ensures.says then all)
