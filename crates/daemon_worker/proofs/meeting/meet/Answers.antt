use Rattle.daemon_worker.proofs.Connecting.{met_fault, met_no_memory}
use Rattle.daemon_worker.proofs.meeting.meet.Goals as goal

pub returns-in-Err-Failed-clause-meets : goal.returns-in-Err-Failed-clause-meets
returns-in-Err-Failed-clause-meets g c =
    let accept = c.in-Err-Failed.ensures in
    met_fault _ _ _ _ _ _ accept.peers accept.visits (accept.cause.failed (cc (c.in-Err-Failed.field-0-is)))

pub returns-in-Err-Memory-clause-meets : goal.returns-in-Err-Memory-clause-meets
returns-in-Err-Memory-clause-meets g c =
    let accept = c.in-Err-Memory.ensures in
    met_no_memory _ _ _ _ _ _ accept.peers accept.visits (accept.cause.memory (cc (c.in-Err-Memory.field-0-is)))
