use Rattle.std.proofs.Common.{◌≡◌, ◌+◌, ◌≤◌, ◌++◌, length, map, reverse, vec_len, vec_capacity}
use Rattle.job_driver.specs.Watching.{worker_of, marker_of}
use Rattle.job_driver.proofs.beside.pair.Given as goal

abbrev pub invariant-loop-worker : goal.invariant-loop-worker
invariant-loop-worker g l = record {
  workers : l.workers.items ++ map worker_of (reverse l.pairs.items) ≡ l.fn.workers.items;
  markers : l.markers.items ++ map marker_of (reverse l.pairs.items) ≡ l.fn.markers.items;
  same : length l.markers.items ≡ length l.workers.items;
  room : length l.workers.items + vec_len l.pairs ≤ vec_capacity l.pairs;
  workers_room : vec_len l.workers + vec_len l.pairs ≤ vec_capacity l.workers;
  markers_room : vec_len l.markers + vec_len l.pairs ≤ vec_capacity l.markers;
}

abbrev pub decreases-loop-worker : goal.decreases-loop-worker
decreases-loop-worker g l = vec_len l.workers
