use Rattle.std.proofs.Common.{◌++◌, subst}
use Rattle.wire_tokens.specs.Reply.{ReplyFaultStands}
use Rattle.wire_tokens.proofs.ReplyLaws.{fault_longer}
use Rattle.reply_stream.specs.declared.reader.State.{State}
use Rattle.reply_stream.specs.Taking.{IsPlaced}
use Rattle.reply_stream.specs.Objects.{with_object, spanned}
use Rattle.reply_stream.specs.Reader.{IsAt, place_of}
use Rattle.reply_stream.proofs.Pieces.{short_there, spelled_begins}
use Rattle.reply_stream.proofs.SoFar.{so_far}
use Rattle.reply_stream.proofs.reader.feed_state.Goals as goal

pub returns-in-More-clause-says : goal.returns-in-More-clause-says
returns-in-More-clause-says c text object g =
    let r = c.in-More.ensures in
    let there : IsPlaced c.in-Reading.partial text object = subst (λ (s : State). IsAt (place_of s) text object) c.in-Reading.is g in
    short_there c.run.new.p r.2 (text ++ c.args.piece.now) (object ++ spanned c.in-More.object c.args.piece.now) (r.3 text object there)

pub returns-in-Whole-clause-says : goal.returns-in-Whole-clause-says
returns-in-Whole-clause-says c text object g =
    let r = c.in-Whole.ensures in
    let there : IsPlaced c.in-Reading.partial text object = subst (λ (s : State). IsAt (place_of s) text object) c.in-Reading.is g in
    spelled_begins text c.args.piece.now c.in-Whole.used
    (with_object c.in-Whole.outcome (object ++ spanned c.in-Whole.object c.args.piece.now)) r.0 (r.3 text object there)

pub returns-in-Refused-clause-says : goal.returns-in-Refused-clause-says
returns-in-Refused-clause-says c text object g =
    let there : ReplyFaultStands text c.in-Refused.at c.in-Refused.fault =
    subst (λ (s : State). IsAt (place_of s) text object) c.in-Refused.is g in
    fault_longer text c.args.piece.now c.in-Refused.at c.in-Refused.fault there

pub returns-in-More-clause-leaves : goal.returns-in-More-clause-leaves
returns-in-More-clause-leaves c text object g =
    let r = c.in-More.ensures in
    let there : IsPlaced c.in-Reading.partial text object = subst (λ (s : State). IsAt (place_of s) text object) c.in-Reading.is g in
    r.3 text object there

pub returns-in-Bad-clause-says : goal.returns-in-Bad-clause-says
returns-in-Bad-clause-says c text object g =
    let there : IsPlaced c.in-Reading.partial text object = subst (λ (s : State). IsAt (place_of s) text object) c.in-Reading.is g in
    c.in-Bad.ensures text object there

pub returns-in-More-clause-joined : goal.returns-in-More-clause-joined
returns-in-More-clause-joined c text object g =
    let r = c.in-More.ensures in
    let there : IsPlaced c.in-Reading.partial text object = subst (λ (s : State). IsAt (place_of s) text object) c.in-Reading.is g in
    so_far c.run.new.p r.2 (text ++ c.args.piece.now) (object ++ spanned c.in-More.object c.args.piece.now) (r.3 text object there)
