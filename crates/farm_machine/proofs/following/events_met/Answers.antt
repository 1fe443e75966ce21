use Rattle.std.proofs.Common.{take, ap, ◌∙◌, arith}
use Rattle.farm_machine.specs.Weave.{Progress, no_progress, last_progress}
use Rattle.farm_machine.proofs.Prefixes.{progress-at}
use Rattle.farm_machine.proofs.following.events_met.Goals as goal

pub loop-entry-preserved : goal.loop-entry-preserved
loop-entry-preserved c = (
  (let most = c.met_then-met.ensures.most in let before = c.loop-entry.invariant.0 in omega (arith, most, before)),
  λ r. ap (λ (p : Progress). p.rest c.args.job)
      (progress-at (no_progress r) c.args.before.now c.loop-entry.entry-index _ c.loop-entry-test.true)
      ∙ c.met_then-met.ensures.met (last_progress (no_progress r) (take c.loop-entry.entry-index c.args.before.now))
      (r.acts c.args.job) (c.loop-entry.invariant.1 r),
)
