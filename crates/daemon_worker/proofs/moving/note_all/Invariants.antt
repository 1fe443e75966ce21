use Rattle.std.proofs.Common.{◌≡◌, ◌+◌, ◌≤◌, ◌++◌, length, vec_len, vec_capacity}
use Rattle.daemon_worker.proofs.moving.note_all.Given as goal

abbrev pub invariant-noting : goal.invariant-noting
invariant-noting l = record {
  items : l.log.items ++ l.rest ≡ l.fn.log.items ++ l.fn.entries;
  len : vec_len l.log + length l.rest ≡ vec_len l.fn.log + length l.fn.entries;
  capacity : vec_capacity l.fn.log ≤ vec_capacity l.log;
}

abbrev pub decreases-noting : goal.decreases-noting
decreases-noting l = length l.rest
