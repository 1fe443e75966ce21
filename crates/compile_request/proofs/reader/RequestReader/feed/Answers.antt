use Rattle.std.proofs.Common.{sym, subst}
use Rattle.compile_request.specs.Reader.{Place, IsAt}
use Rattle.compile_request.proofs.Exact.{only_whole, only_bad, only_more}
use Rattle.compile_request.proofs.reader.RequestReader.feed.Goals as goal

pub returns-clause-whole : goal.returns-clause-whole
returns-clause-whole c text used q g =
    only_whole text c.args.piece.now c.feed_state.result
    (c.feed_state.ensures.says text (subst (λ (p : Place). IsAt p text) (sym c.self.view_is) g)) used q

pub returns-clause-bad : goal.returns-clause-bad
returns-clause-bad c text at fault g =
    only_bad text c.args.piece.now c.feed_state.result
    (c.feed_state.ensures.says text (subst (λ (p : Place). IsAt p text) (sym c.self.view_is) g)) at fault

pub returns-clause-short : goal.returns-clause-short
returns-clause-short c text g =
    only_more text c.args.piece.now c.feed_state.result
    (c.feed_state.ensures.says text (subst (λ (p : Place). IsAt p text) (sym c.self.view_is) g))
