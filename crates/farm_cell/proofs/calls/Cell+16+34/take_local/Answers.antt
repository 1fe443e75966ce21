use Rattle.std.proofs.Common.{◌≡◌, [], ◌∷◌, ◌++◌, is_some, sym, ap, ◌∙◌, subst}
use Rattle.slot_table.specs.declared.limits.Limits.{Limits}
use Rattle.slot_table.specs.declared.state.SlotState.{SlotState}
use Rattle.slot_table.specs.declared.calls.SlotCall.TheVariants.{TakeLocal}
use Rattle.slot_table.specs.declared.calls.SlotReply.{SlotReply}
use Rattle.slot_table.specs.declared.calls.SlotReply.TheVariants.{Local}
use Rattle.slot_table.specs.Grants.{IsLocalOutstanding, IsLocalGrantFor}
use Rattle.slot_table.specs.Step.{slot_step}
use Rattle.slot_table.specs.History.{entry, outstanding}
use Rattle.slot_table.proofs.Rounds.{is-local_outstanding}
use Rattle.farm_cell.specs.Passes.{limits_of, number_of, mine_of}
use Rattle.farm_cell.proofs.calls.Cell+16+34.take_local.Goals as goal

pub returns-clause-out : goal.returns-clause-out
returns-clause-out g c =
    let p = c.args.pass.now in
    let q = c.meet-slots.new.pass in
    let s : SlotState 16 = c.meet-slots.result.state in
    let call = TakeLocal c.args.job in
    let made = c.meet-slots.ensures.made in
    let reply : (slot_step (limits_of c.args.self.now) s call).1 ≡ Local (is_some c.take_local.result) =
    ap (λ (k : Limits 16). (slot_step k s call).1) (sym c.meet-slots.ensures.limits)
    ∙ ap (λ (r : SlotState 16 × SlotReply). r.1) c.take_local.ensures.step in
    let grant = subst (λ n. IsLocalGrantFor n c.args.job c.take_local.result) c.meet-slots.ensures.number c.take_local.ensures.grant in
    subst (λ n. IsLocalOutstanding n (outstanding (mine_of q)) c.take_local.result) (sym c.meet-slots.ensures.number)
    (is-local_outstanding c.take_local.result (number_of p) c.args.job (mine_of p) (mine_of q) grant
    (made.mine ∙ ap (λ (r : SlotReply). mine_of p ++ entry (number_of p) call r ∷ []) reply))
