use Rattle.std.proofs.Common.{take, Bool, ◌||◌, ap, ◌∙◌}
use Rattle.farm_machine.specs.Acts.{took}
use Rattle.farm_machine.specs.Weave.{Progress, no_progress, last_progress}
use Rattle.farm_machine.proofs.Prefixes.{progress-at}
use Rattle.farm_machine.proofs.following.took.Goals as goal

pub loop-entry-preserved : goal.loop-entry-preserved
loop-entry-preserved c = λ r.
    ap (λ (p : Progress). took c.args.host (p.past c.args.job))
    (progress-at (no_progress r) c.args.before.now c.loop-entry.entry-index _ c.loop-entry-test.true)
    ∙ c.is_take-found.ensures (last_progress (no_progress r) (take c.loop-entry.entry-index c.args.before.now))
    ∙ ap (λ (b : Bool). b || c.is_take-found.result) (c.loop-entry.invariant r)
