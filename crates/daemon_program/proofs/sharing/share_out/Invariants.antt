use Rattle.std.proofs.Common.{◌≡◌, ◌+◌, ◌≤◌, ◌++◌, map, reverse, vec_len, vec_capacity}
use Rattle.daemon_program.specs.Sharing.{bare_kit, counts_of}
use Rattle.daemon_program.proofs.sharing.share_out.Given as goal

abbrev pub invariant-moving : goal.invariant-moving
invariant-moving g l = record {
  kits : l.doors.items ++ reverse (map bare_kit l.shared.items) ≡ l.fn.doors.items ++ reverse (map bare_kit l.fn.shared.items);
  counts : l.counts.items ++ reverse (map counts_of l.shared.items) ≡ reverse (map counts_of l.fn.shared.items);
  room : vec_len l.doors + vec_len l.shared ≤ vec_capacity l.doors;
  space : vec_len l.counts + vec_len l.shared ≤ vec_capacity l.counts;
}

abbrev pub decreases-moving : goal.decreases-moving
decreases-moving g l = vec_len l.shared
