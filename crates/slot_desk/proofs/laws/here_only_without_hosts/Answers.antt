use Rattle.slot_desk.proofs.Alone.{here-only}
use Rattle.slot_desk.proofs.laws.here_only_without_hosts.Goals as goal

pub returns : goal.returns
returns c = here-only
