use Rattle.std.proofs.Common.{sym, ◌∙◌}
use Rattle.shared_cache.proofs.Answering.{may_answer}
use Rattle.shared_cache.proofs.held.Held.answer.Goals as goal

pub returns-in_ok-copy-clause-may : goal.returns-in_ok-copy-clause-may
returns-in_ok-copy-clause-may g c =
    may_answer g.P.Sharing.ran c.args.bounds.now c.args.words.now c.args.input.now
    (record { words = c.self.inside.words; input = c.self.inside.input; ran = c.self.inside.ran }) c.args.self.now c.in_ok-copy.field-0
    c.self.view_is (sym c.is_of.ensures ∙ c.if-is_of.true) (c.is_within.ensures.0 c.if-is_within.true) c.self.invariant.0
    c.in_ok-copy.ensures
