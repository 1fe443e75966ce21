use Rattle.std.proofs.Common.{◌≡◌, Bool, true, false, sym, ap, ◌∙◌}
use Rattle.std.proofs.Math.Bool.{beq}
use Rattle.slot_table.specs.Mask.{in_mask}
use Rattle.slot_table.proofs.Searches.{all-hit, all-miss}
use Rattle.farm_machine.specs.Acts.{took}
use Rattle.farm_machine.specs.Farm.{is_as_wanted}
use Rattle.farm_machine.specs.Weave.{no_progress, last_progress}
use Rattle.farm_machine.proofs.Steps.{unwanted, as-wanted}
use Rattle.farm_machine.proofs.following.is_wanted.Goals as goal

both : (a b c d t : Bool) → a ≡ b → c ≡ d → beq a d ≡ t → beq b c ≡ t
both a b c d t first second is = ap (λ (x : Bool). beq x c) (sym first) ∙ ap (beq a) second ∙ is

pub returns-then-contains-took : goal.returns-then-contains-took
returns-then-contains-took c = λ r.
    let past = (last_progress (no_progress r) c.args.before.now).past c.args.job in
    c.loop-host.invariant r ∙ all-miss (is_as_wanted past c.args.mask) c.loop-host.host c.args.limits.now.count c.loop-host-test.true
    (unwanted (took c.loop-host.host past) (in_mask c.args.mask c.loop-host.host)
    (both _ _ _ _ true c.contains.ensures (c.took.ensures r) c.if-contains-took.true))

pub loop-host-preserved : goal.loop-host-preserved
loop-host-preserved c = λ r.
    let past = (last_progress (no_progress r) c.args.before.now).past c.args.job in
    c.loop-host.invariant r ∙ all-hit (is_as_wanted past c.args.mask) c.loop-host.host c.args.limits.now.count c.loop-host-test.true
    (as-wanted (took c.loop-host.host past) (in_mask c.args.mask c.loop-host.host)
    (both _ _ _ _ false c.contains.ensures (c.took.ensures r) c.if-contains-took.false))
