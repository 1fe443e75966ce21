use Rattle.std.proofs.Common.{◌≡◌, ◌+◌, ◌≤◌, ◌++◌, map, reverse, vec_len, vec_capacity}
use Rattle.job_driver.specs.Watching.{worker_of, marker_of}
use Rattle.job_driver.proofs.beside.unpair.Given as goal

abbrev pub invariant-loop-marked : goal.invariant-loop-marked
invariant-loop-marked g l = record {
  workers : l.workers.items ++ reverse (map worker_of l.pairs.items) ≡ reverse (map worker_of l.fn.pairs.items);
  markers : l.markers.items ++ reverse (map marker_of l.pairs.items) ≡ reverse (map marker_of l.fn.pairs.items);
  workers_room : vec_len l.workers + vec_len l.pairs ≤ vec_capacity l.workers;
  markers_room : vec_len l.markers + vec_len l.pairs ≤ vec_capacity l.markers;
}

abbrev pub decreases-loop-marked : goal.decreases-loop-marked
decreases-loop-marked g l = vec_len l.pairs
