use Rattle.std.proofs.Common.{sym}
use Rattle.arg_scan.proofs.Places.{remote_plan_is}
use Rattle.arg_scan.proofs.verdict.remote_plan.Goals as goal

pub returns-clause-value : goal.returns-clause-value
returns-clause-value c = remote_plan_is c.args.words.now c.in-Remote.plan (sym c.in-Remote.ensures.value)
