use Rattle.std.proofs.Common.{Option, List, map, sym, ap, ◌∙◌}
use Rattle.std.specs.Prelude.{slice_get}
use Rattle.std.specs.Option.{option_map}
use Rattle.farm_machine.specs.declared.reports.Report.{Report}
use Rattle.farm_machine.specs.declared.reports.Event.{Event}
use Rattle.farm_machine.specs.Acts.{Met, next_met}
use Rattle.farm_machine.specs.Checking.{event_of, behind}
use Rattle.farm_machine.specs.Reading.{slots_in, slots_at, unread}
use Rattle.farm_machine.specs.Weave.{no_progress}
use Rattle.farm_machine.proofs.Steps.{next-behind, rest-empty}
use Rattle.farm_machine.proofs.following.next_event.Goals as goal

pub returns-in-Some : goal.returns-in-Some
returns-in-Some c =
    let met = c.events_met.result in
    c.slot_event_at.ensures ∙ ap (λ (events : List Event). option_map event_of (slice_get (slots_in events) met)) c.as_slice.ensures
    ∙ ap (option_map event_of) (sym (next-behind met (slots_in c.in-Some.report.now.events))
    ∙ ap (λ (o : Option Report). next_met (behind met (map Met (slots_at o)))) c.in-Some.ensures
    ∙ sym (ap next_met (c.events_met.ensures (unread c.args.reports.now))))

pub returns-in-None : goal.returns-in-None
returns-in-None c =
    let r = unread c.args.reports.now in
    sym (ap (λ acts. option_map event_of (next_met acts))
    (rest-empty (no_progress r) c.args.before.now c.args.job
    (sym (ap (λ (o : Option Report). map Met (slots_at o)) c.in-None.ensures))))
