use Rattle.std.proofs.Common.{arith}
use Rattle.sample_linker.proofs.circle.lowest.Goals as goal

pub returns : goal.returns
returns c = (c.loop-at.invariant.within, λ k d e lt. c.loop-at.invariant.least k d e (omega (arith, lt)))
