use Rattle.std.proofs.Common.{refl, arith, ap, sym, ◌∙◌, ◌++◌, ◌∷◌, []}
use Rattle.slot_table.specs.declared.state.SlotState.{SlotState}
use Rattle.slot_table.specs.declared.calls.SlotCall.TheVariants.{Take}
use Rattle.slot_table.specs.declared.calls.SlotReply.{SlotReply}
use Rattle.slot_table.specs.History.{entry, outstanding}
use Rattle.slot_table.specs.Log.{Log}
use Rattle.slot_table.proofs.Keeping.{kept-more, kept-free}
use Rattle.slot_table.proofs.Rounds.{is-outstanding}
use Rattle.slot_table.proofs.one_thread.OneThreadGrants.take.Goals as goal

pub invariant_of-self : goal.invariant_of-self
invariant_of-self g c = (
  kept-more _ _ _ _ _ _ (Take c.args.job c.args.mask c.args.now) c.reply.result c.self.invariant.0 refl c.take-taken.ensures.limits
      (c.take-taken.ensures.step ∙ ap (λ (r : SlotReply). (c.take-taken.new.self.state, r)) (sym c.reply.ensures)) c.note.ensures.calls,
  omega arith,
)

pub returns-clause-free : goal.returns-clause-free
returns-clause-free g c = λ alone none is.
    (kept-free _ _ _ c.self.inside.slots.valid c.self.invariant.0 (ap (λ (v : Log g.row.H). outstanding v.mine) c.self.view_is
    ∙ none)).take c.args.job c.args.mask c.args.now
    (ap (λ (p : SlotState g.row.H × SlotReply). p.1) c.take-taken.ensures.step ∙ is)

pub returns-clause-out : goal.returns-clause-out
returns-clause-out g c = is-outstanding c.take-taken.result 0 c.args.job c.args.mask c.args.now c.self.inside.calls.items
    c.note.new.calls.items c.take-taken.ensures.grant
    (c.note.ensures.calls ∙ ap (λ (r : SlotReply). c.self.inside.calls.items ++ entry 0 (Take c.args.job c.args.mask c.args.now) r
    ∷ []) c.reply.ensures)
