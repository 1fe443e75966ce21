use Rattle.std.proofs.Common.{ℕ, ◌+◌, ◌-◌, take, refl, arith}
use Rattle.std.proofs.lemmas.List.{length-take}
use Rattle.reply_stream.specs.declared.partial.Partial.{Partial}
use Rattle.reply_stream.specs.Taking.{hands}
use Rattle.reply_stream.proofs.Bytewise.{object_more, finished, no_more_turns}
use Rattle.reply_stream.proofs.partial.object_bytes.Goals as goal

pub returns-clause-says : goal.returns-clause-says
returns-clause-says c =
    let p : Partial = c.args.p.now in
    let taken : ℕ = c.min-taken.result in
    let mid : Partial = record p { left = p.left - taken; given = p.given + taken } in
    let m = c.min-taken.ensures in
    finished (hands c.args.piece.now) p mid c.finish.new.p c.args.piece.now taken c.finish.result (omega arith)
    (λ text object g. object_more p mid (take taken c.args.piece.now) refl refl (omega (arith, length-take taken c.args.piece.now))
    text object g)
    c.finish.ensures.finishes

pub returns-clause-all : goal.returns-clause-all
returns-clause-all c = no_more_turns c.args.piece.now c.args.p.now.part c.args.p.now.left c.finish.result c.requires.at_object
    c.finish.ensures.goes_on
