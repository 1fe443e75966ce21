use Rattle.std.proofs.Common.{take, ap, ◌∙◌}
use Rattle.farm_machine.specs.Weave.{Progress, no_progress, last_progress}
use Rattle.farm_machine.proofs.Prefixes.{progress-at}
use Rattle.farm_machine.proofs.following.current_job.Goals as goal

pub loop-entry-preserved : goal.loop-entry-preserved
loop-entry-preserved c = λ r.
    ap (λ (p : Progress). p.current c.args.caller)
    (progress-at (no_progress r) c.args.before.now c.loop-entry.entry-index _ c.loop-entry-test.true)
    ∙ c.current_then-current.ensures (last_progress (no_progress r) (take c.loop-entry.entry-index c.args.before.now))
    (c.loop-entry.invariant r)
