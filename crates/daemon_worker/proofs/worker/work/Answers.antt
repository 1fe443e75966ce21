use Rattle.daemon_worker.proofs.Working.{from_empty}
use Rattle.daemon_worker.proofs.Pathing.{asked_from_empty}
use Rattle.daemon_worker.proofs.worker.work.Goals as goal

pub returns : goal.returns
returns g c = (
  from_empty _ _ _ _ _ _ _ _ _ _ _ c.requires.ready.empty c.serve_door.ensures.served,
  asked_from_empty _ _ _ _ _ _ _ c.requires.ready.empty c.serve_door.ensures.path,
)
