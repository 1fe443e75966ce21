use Rattle.std.proofs.Common.{◌≡◌, ℕ, ◌-◌, List, Option, sym, ap, ◌∙◌, subst}
use Rattle.slot_table.specs.History.{Holding, holding, Change, change, changed}
use Rattle.farm_machine.specs.Farm.{times}
use Rattle.farm_machine.proofs.Outs.{others-call, gave-one, left-alone}
use Rattle.farm_machine.proofs.legality.count_then.Goals as goal

pub returns-then-caller-entry-clause-times : goal.returns-then-caller-entry-clause-times
returns-then-caller-entry-clause-times c = λ out is.
    others-call c.args.caller c.args.entry.now.caller c.args.job c.args.host out
    (change c.args.entry.now.call c.args.entry.now.reply) c.if-caller-entry.true ∙ is

own : (caller other job : ℕ) (host : Option ℕ) (out : List Holding) (change : Change) (n : ℕ) → caller ≡ other
    → times (holding caller job host) (changed caller out change) ≡ n → times (holding caller job host) (changed other out change) ≡ n
own caller other job host out change n same is = subst (λ (w : ℕ). times (holding caller job host) (changed w out change) ≡ n) same is

pub returns-then-gives-clause-times : goal.returns-then-gives-clause-times
returns-then-gives-clause-times c = λ out is.
    own c.args.caller c.args.entry.now.caller c.args.job c.args.host out (change c.args.entry.now.call c.args.entry.now.reply) _
    c.if-caller-entry.false
    (gave-one c.args.caller c.args.job c.args.host out (change c.args.entry.now.call c.args.entry.now.reply)
    (sym c.gives.ensures ∙ c.if-gives.true) ∙ ap (λ (n : ℕ). n - 1) is ∙ sym c.saturating_sub.ensures)

pub returns-else-gives-clause-times : goal.returns-else-gives-clause-times
returns-else-gives-clause-times c = λ out is.
    own c.args.caller c.args.entry.now.caller c.args.job c.args.host out (change c.args.entry.now.call c.args.entry.now.reply) _
    c.if-caller-entry.false
    (left-alone c.args.caller c.args.job c.args.host out (change c.args.entry.now.call c.args.entry.now.reply)
    (sym c.takes.ensures ∙ c.if-takes.false) (sym c.gives.ensures ∙ c.if-gives.false) ∙ is)
