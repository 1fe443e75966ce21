use Rattle.std.proofs.Common.{◌∙◌, sym, subst}
use Rattle.remote_transfer.specs.Attempts.{AttemptAdds, DialCause}
use Rattle.remote_transfer.proofs.Attempting.{adds, no_failed_dial}
use Rattle.remote_transfer.proofs.exchange.attempt.Goals as goal

pub returns-in-Ok-dial-clause-adds : goal.returns-in-Ok-dial-clause-adds
returns-in-Ok-dial-clause-adds g c =
    let fresh = c.in-Ok-dial.ensures.fresh in
    let passed = c.converse-talked.ensures.passed c.args.request.now c.args.host.now
    (record { spelled = c.as_slice.ensures ∙ c.in-Ok.ensures.text; host = fresh.host; port = fresh.port }) in
    subst (λ answer. AttemptAdds (g.D.Dialer.may_give c.hang_up.new.self) c.args.request.now c.args.host.now answer
    (g.D.Dialer.shows c.args.dialer.now).exchanges (g.D.Dialer.shows c.hang_up.new.self).exchanges) (sym c.answer_of.ensures)
    (adds (g.D.Dialer.may_give c.hang_up.new.self) (g.D.Dialer.shows c.args.dialer.now).exchanges
    (g.D.Dialer.shows c.dial.new.self).exchanges (g.D.Dialer.shows c.hang_up.new.self).exchanges
    (g.D.Link.Link.shows c.in-Ok-dial.link) (g.D.Link.Link.shows c.converse-talked.new.link) c.in-Ok-dial.ensures.entries
    c.hang_up.ensures.entry c.hang_up.ensures.told fresh.is_new c.args.request.now c.args.host.now c.converse-talked.result passed)

pub returns-in-Ok-dial-clause-cause : goal.returns-in-Ok-dial-clause-cause
returns-in-Ok-dial-clause-cause g c =
    let fresh = c.in-Ok-dial.ensures.fresh in
    let passed = c.converse-talked.ensures.passed c.args.request.now c.args.host.now
    (record { spelled = c.as_slice.ensures ∙ c.in-Ok.ensures.text; host = fresh.host; port = fresh.port }) in
    subst (λ answer. DialCause answer (g.D.Dialer.shows c.args.dialer.now).faults (g.D.Dialer.shows c.hang_up.new.self).faults)
    (sym c.answer_of.ensures)
    (no_failed_dial c.args.request.now c.args.host.now (g.D.Link.Link.shows c.in-Ok-dial.link)
    (g.D.Link.Link.shows c.converse-talked.new.link) c.converse-talked.result passed _ _
    (c.hang_up.ensures.faults ∙ c.in-Ok-dial.ensures.cause.done))
