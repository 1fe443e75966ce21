use Rattle.std.proofs.Common.{length}
use Rattle.host_list.proofs.choosing.+find_same.Given as goal

abbrev pub decreases-find_same : goal.decreases-find_same
decreases-find_same l = length l.hosts.now
