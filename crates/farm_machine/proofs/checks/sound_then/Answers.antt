use Rattle.std.proofs.Common.{refl, sym, ap, ◌∙◌, subst, [], ◌∷◌}
use Rattle.std.proofs.lemmas.Bool.{false≢true}
use Rattle.slot_table.specs.Step.{opening, slot_step}
use Rattle.slot_table.specs.History.{outstanding, IsNext}
use Rattle.slot_table.proofs.Histories.{state_from-append}
use Rattle.farm_machine.specs.Farm.{wanted}
use Rattle.farm_machine.specs.Reading.{unread}
use Rattle.farm_machine.proofs.Prefixes.{sound-more, sound-next, sound-follows}
use Rattle.farm_machine.proofs.checks.sound_then.Goals as goal

pub returns-in_default-clause-none : goal.returns-in_default-clause-none
returns-in_default-clause-none c = λ none sound.
    let l = c.args.slots.now.limits in
    c.in_default.ensures.none refl (subst (λ s. IsNext l s (outstanding c.args.before.now) c.args.entry.now) (sym c.requires.state)
    (sound-next l (unread c.args.reports.now) (wanted l) c.args.before.now c.args.entry.now sound))

pub returns-then-follows-clause-some : goal.returns-then-follows-clause-some
returns-then-follows-clause-some c =
    let l = c.args.slots.now.limits in
    let stepped = c.in-Some.ensures.some in
    record {
      sound = sound-more l (unread c.args.reports.now) (wanted l) c.args.before.now c.args.entry.now c.requires.sound
          (subst (λ s. IsNext l s (outstanding c.args.before.now) c.args.entry.now) c.requires.state stepped.legal)
          (c.follows.ensures.0 c.if-follows.true);
      limits = stepped.limits;
      state = stepped.state ∙ ap (λ s. (slot_step l s c.args.entry.now.call).0) c.requires.state
          ∙ sym (state_from-append l (opening 16) c.args.before.now (c.args.entry.now ∷ []));
    }

pub returns-else-follows-clause-none : goal.returns-else-follows-clause-none
returns-else-follows-clause-none c = λ none sound.
    let l = c.args.slots.now.limits in
    false≢true (sym c.if-follows.false
    ∙ c.follows.ensures.1 (sound-follows l (unread c.args.reports.now) (wanted l) c.args.before.now c.args.entry.now sound))
