use Rattle.std.proofs.Common.{sym, subst}
use Rattle.reply_stream.specs.Reader.{Place, IsAt}
use Rattle.reply_stream.proofs.Exact.{only_whole, only_bad, only_more}
use Rattle.reply_stream.proofs.reader.ReplyReader.feed.Goals as goal

pub returns-clause-whole : goal.returns-clause-whole
returns-clause-whole c text object used o g =
    only_whole text object c.args.piece.now c.feed_state.result
    (c.feed_state.ensures.says text object (subst (λ (p : Place). IsAt p text object) (sym c.self.view_is) g)) used o

pub returns-clause-bad : goal.returns-clause-bad
returns-clause-bad c text object at fault g =
    only_bad text object c.args.piece.now c.feed_state.result
    (c.feed_state.ensures.says text object (subst (λ (p : Place). IsAt p text object) (sym c.self.view_is) g)) at fault

pub returns-clause-short : goal.returns-clause-short
returns-clause-short c text object g =
    only_more text object c.args.piece.now c.feed_state.result
    (c.feed_state.ensures.says text object (subst (λ (p : Place). IsAt p text object) (sym c.self.view_is) g))
