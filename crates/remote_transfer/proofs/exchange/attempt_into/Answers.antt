use Rattle.std.proofs.Common.{◌∙◌, sym, subst}
use Rattle.remote_transfer.specs.Attempts.{AttemptAdds}
use Rattle.remote_transfer.specs.Landings.{received_of, LandedAdds, LandedCause, IsUnasked}
use Rattle.remote_transfer.proofs.Attempting.{added, adds, no_failed_dial}
use Rattle.remote_transfer.proofs.IntoFiles.{same-answer, lands-answer, landed-cause, rises-answer}
use Rattle.remote_transfer.proofs.exchange.attempt_into.Goals as goal

pub returns-in-Ok-dial-clause-adds : goal.returns-in-Ok-dial-clause-adds
returns-in-Ok-dial-clause-adds g c =
    let fresh = c.in-Ok-dial.ensures.fresh in
    let into = c.converse_into-talked.ensures.passed in
    let talked = c.converse_into-talked.result in
    let passed = into.passed c.args.request.now c.args.host.now
    (record { spelled = c.as_slice.ensures ∙ c.in-Ok.ensures.text; host = fresh.host; port = fresh.port }) in
    let all = adds (g.D.Dialer.may_give c.hang_up.new.self) (g.D.Dialer.shows c.args.dialer.now).exchanges
    (g.D.Dialer.shows c.dial.new.self).exchanges (g.D.Dialer.shows c.hang_up.new.self).exchanges
    (g.D.Link.Link.shows c.in-Ok-dial.link) (g.D.Link.Link.shows c.converse_into-talked.new.link) c.in-Ok-dial.ensures.entries
    c.hang_up.ensures.entry c.hang_up.ensures.told fresh.is_new c.args.request.now c.args.host.now
    (received_of talked into.object) passed in
    subst (λ answer. LandedAdds (g.D.Dialer.may_give c.hang_up.new.self) c.args.request.now c.args.host.now answer c.args.path.now
    (g.D.Dialer.shows c.args.dialer.now).exchanges (g.D.Dialer.shows c.hang_up.new.self).exchanges
    (g.K.Keeper.shows c.args.keeper.now) (g.K.Keeper.shows c.converse_into-talked.new.keeper)) (sym c.landed_of.ensures)
    (record {
      object = into.object;
      adds = subst (λ answer. AttemptAdds (g.D.Dialer.may_give c.hang_up.new.self) c.args.request.now c.args.host.now answer
          (g.D.Dialer.shows c.args.dialer.now).exchanges (g.D.Dialer.shows c.hang_up.new.self).exchanges)
          (same-answer talked into.object) all;
      lands = lands-answer talked c.args.path.now into.object (g.K.Keeper.shows c.args.keeper.now).faults
          (g.K.Keeper.shows c.converse_into-talked.new.keeper) into.lands;
      rises = rises-answer (g.D.Dialer.may_give c.hang_up.new.self) talked _ _ _ _
          (added (g.D.Dialer.may_give c.hang_up.new.self) (g.D.Dialer.shows c.args.dialer.now).exchanges
          (g.D.Dialer.shows c.dial.new.self).exchanges
          (g.D.Dialer.shows c.hang_up.new.self).exchanges (g.D.Link.Link.shows c.in-Ok-dial.link)
          (g.D.Link.Link.shows c.converse_into-talked.new.link)
          c.in-Ok-dial.ensures.entries c.hang_up.ensures.entry c.hang_up.ensures.told fresh.is_new _ into.rises);
    })

pub returns-in-Ok-dial-clause-cause : goal.returns-in-Ok-dial-clause-cause
returns-in-Ok-dial-clause-cause g c =
    let fresh = c.in-Ok-dial.ensures.fresh in
    let into = c.converse_into-talked.ensures.passed in
    let talked = c.converse_into-talked.result in
    let passed = into.passed c.args.request.now c.args.host.now
    (record { spelled = c.as_slice.ensures ∙ c.in-Ok.ensures.text; host = fresh.host; port = fresh.port }) in
    subst (λ answer. LandedCause answer (g.D.Dialer.shows c.args.dialer.now).faults (g.D.Dialer.shows c.hang_up.new.self).faults)
    (sym c.landed_of.ensures)
    (landed-cause talked into.object _ _
    (no_failed_dial c.args.request.now c.args.host.now (g.D.Link.Link.shows c.in-Ok-dial.link)
    (g.D.Link.Link.shows c.converse_into-talked.new.link) (received_of talked into.object) passed _ _
    (c.hang_up.ensures.faults ∙ c.in-Ok-dial.ensures.cause.done)))

pub returns-in-Ok-dial-clause-unasked : goal.returns-in-Ok-dial-clause-unasked
returns-in-Ok-dial-clause-unasked g c =
    subst (λ answer. IsUnasked answer (g.K.Keeper.shows c.args.keeper.now) (g.K.Keeper.shows c.converse_into-talked.new.keeper))
    (sym c.landed_of.ensures) c.converse_into-talked.ensures.passed.unasked
