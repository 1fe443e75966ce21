use Rattle.farm_machine.proofs.Reading.{past-same}
use Rattle.farm_machine.proofs.following.is_take.Goals as goal

pub returns-then-job-taker : goal.returns-then-job-taker
returns-then-job-taker c =
    λ p. past-same p c.args.entry.now.caller _ c.args.job c.in-Adds.taker c.args.host c.in-Adds.mask c.in-Adds.event
    c.is_same.result c.in-Adds.ensures c.if-job-taker.true c.is_same.ensures
