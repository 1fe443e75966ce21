use Rattle.std.proofs.Common.{ap, ◌∙◌}
use Rattle.farm_machine.specs.Checking.{is_awaited}
use Rattle.farm_machine.specs.Reading.{unread}
use Rattle.farm_machine.specs.Farm.{wanted}
use Rattle.farm_machine.specs.Machine.{job_call_of}
use Rattle.farm_machine.specs.Weave.{no_progress, last_progress}
use Rattle.farm_machine.proofs.Reading.{follows-adds, follows-waits, strays-adds, strays-waits, same-as}
use Rattle.farm_machine.proofs.following.follows.Goals as goal

pub returns-then-may_ask : goal.returns-then-may_ask
returns-then-may_ask c =
    let r = unread c.args.reports.now in
    let p = last_progress (no_progress r) c.args.before.now in
    follows-adds r (wanted c.args.limits.now) p c.args.entry.now.caller (job_call_of c.args.entry.now) c.in-Adds.job c.in-Adds.mask
    c.in-Adds.event c.is_next.result
    c.in-Adds.ensures ((c.may_ask.ensures r).0 c.if-may_ask.true) (same-as _ _ _ _ c.next_event.ensures c.is_next.ensures)

pub returns-else-may_ask : goal.returns-else-may_ask
returns-else-may_ask c =
    let r = unread c.args.reports.now in
    let p = last_progress (no_progress r) c.args.before.now in
    strays-adds r (wanted c.args.limits.now) p c.args.entry.now.caller (job_call_of c.args.entry.now) c.in-Adds.job c.in-Adds.mask
    c.in-Adds.event c.may_ask.result
    c.in-Adds.ensures (c.may_ask.ensures r) c.if-may_ask.false

pub returns-then-may_ask-2 : goal.returns-then-may_ask-2
returns-then-may_ask-2 c =
    let r = unread c.args.reports.now in
    let p = last_progress (no_progress r) c.args.before.now in
    follows-waits r (wanted c.args.limits.now) p c.args.entry.now.caller (job_call_of c.args.entry.now) c.in-Waits.job
    c.in-Waits.mask c.in-Waits.local c.is_awaited.result
    c.in-Waits.ensures ((c.may_ask-in-Waits.ensures r).0 c.if-may_ask-2.true)
    (c.is_awaited.ensures ∙ ap (λ o. is_awaited o c.in-Waits.local) c.next_event-then-may_ask-2.ensures)

pub returns-else-may_ask-2 : goal.returns-else-may_ask-2
returns-else-may_ask-2 c =
    let r = unread c.args.reports.now in
    let p = last_progress (no_progress r) c.args.before.now in
    strays-waits r (wanted c.args.limits.now) p c.args.entry.now.caller (job_call_of c.args.entry.now) c.in-Waits.job
    c.in-Waits.mask c.in-Waits.local c.may_ask-in-Waits.result
    c.in-Waits.ensures (c.may_ask-in-Waits.ensures r) c.if-may_ask-2.false
