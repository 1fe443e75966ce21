-- The answers of attempts, by what came of their links.
use Rattle.std.specs.Prelude.{true, Result, Ok, Err}
use Rattle.farm_types.specs.declared.ran.Outcome.{Outcome}
use Rattle.edge_traits.specs.declared.cause.Cause.TheVariants.{Send, Stopped}
use Rattle.edge_traits.specs.declared.sending.SendFault.{SendFault}
use Rattle.edge_traits.specs.declared.sending.SendFault.TheVariants as sends
use Rattle.remote_transfer.specs.declared.answers.Attempt.{Attempt}
use Rattle.remote_transfer.specs.declared.answers.Attempt.TheVariants as attempts
use Rattle.remote_transfer.specs.declared.answers.Landing.{Landing}
use Rattle.remote_transfer.specs.declared.answers.Landed.{Landed}
use Rattle.remote_transfer.specs.declared.answers.Landed.TheVariants as landeds
use Rattle.remote_transfer.specs.declared.answers.Stop.{Stop}
use Rattle.remote_transfer.specs.declared.answers.Stop.TheVariants.{Broke, Memory}

-- why no reply came, if the request wasn't sent whole
abbrev pub stop_of : SendFault → Stop
stop_of sends.Failed = Broke Send
stop_of sends.Stopped = Broke Stopped
stop_of sends.Memory = Memory

abbrev pub landed_of : Result (Outcome × Landing) Stop → Landed
landed_of (Ok received) = landeds.Whole received.0 received.1
landed_of (Err (Broke cause)) = landeds.Broke cause
landed_of (Err Memory) = landeds.Memory true

abbrev pub answer_of : Result Outcome Stop → Attempt
answer_of (Ok outcome) = attempts.Whole outcome
answer_of (Err (Broke cause)) = attempts.Broke cause
answer_of (Err Memory) = attempts.Memory true
