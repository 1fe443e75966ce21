use Rattle.std.proofs.Common.{◌≡◌, ◌++◌, ◌∷◌, [], refl, arith, ap, sym, ◌∙◌, Bool, true, is_some, rules}
use Rattle.slot_table.specs.declared.state.SlotState.{SlotState}
use Rattle.slot_table.specs.declared.calls.SlotCall.TheVariants.{TakeLocal}
use Rattle.slot_table.specs.declared.calls.SlotReply.{SlotReply}
use Rattle.slot_table.specs.declared.calls.SlotReply.TheVariants.{Local}
use Rattle.slot_table.specs.History.{entry, outstanding}
use Rattle.slot_table.specs.Log.{Log}
use Rattle.slot_table.proofs.Keeping.{kept-more, kept-free}
use Rattle.slot_table.proofs.Rounds.{is-local_outstanding}
use Rattle.slot_table.proofs.one_thread.OneThreadGrants.take_local.Goals as goal

pub invariant_of-self : goal.invariant_of-self
invariant_of-self g c = (
  kept-more _ _ _ _ _ _ (TakeLocal c.args.job) (Local c.is_some.result) c.self.invariant.0 refl c.take_local-taken.ensures.limits
      (c.take_local-taken.ensures.step ∙ ap (λ (b : Bool). (c.take_local-taken.new.self.state, Local b)) (sym c.is_some.ensures))
      c.note.ensures.calls,
  omega arith,
)

pub returns-clause-free : goal.returns-clause-free
returns-clause-free g c = λ alone none.
    let some : Local (is_some c.take_local-taken.result) ≡ Local true =
    sym (ap (λ (p : SlotState g.row.H × SlotReply). p.1) c.take_local-taken.ensures.step)
    ∙ (kept-free _ _ _ c.self.inside.slots.valid c.self.invariant.0 (ap (λ (v : Log g.row.H). outstanding v.mine) c.self.view_is
    ∙ none)).local c.args.job in
    let is : is_some c.take_local-taken.result ≡ true = cc in search rules

pub returns-clause-out : goal.returns-clause-out
returns-clause-out g c = is-local_outstanding c.take_local-taken.result 0 c.args.job c.self.inside.calls.items
    c.note.new.calls.items c.take_local-taken.ensures.grant
    (c.note.ensures.calls ∙ ap (λ (b : Bool). c.self.inside.calls.items ++ entry 0 (TakeLocal c.args.job) (Local b) ∷ []) c.is_some.ensures)
