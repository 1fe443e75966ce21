use Rattle.std.proofs.Common.{◌≡◌, ◌-◌, ◌≤◌, [], length, map, replicate, vec_len, vec_capacity}
use Rattle.std.specs.Prelude.{All}
use Rattle.farm_monitor.specs.Boards.{board_watched}
use Rattle.progress_lines.specs.Counts.{known}
use Rattle.job_driver.specs.Watching.{board_marked, IsFreshMarker}
use Rattle.job_driver.proofs.boards.make_boards.Given as goal

abbrev pub invariant-making : goal.invariant-making
invariant-making g l = record {
  boards : map board_marked l.markers.items ≡ map board_watched l.watchers.items;
  fresh : All IsFreshMarker l.markers.items;
  unread : known l.watchers.items ≡ replicate (length l.watchers.items) [];
  few : length l.markers.items ≤ l.count;
  same : length l.watchers.items ≡ length l.markers.items;
  markers_room : l.count ≤ vec_capacity l.markers;
  watchers_room : l.count ≤ vec_capacity l.watchers;
}

abbrev pub decreases-making : goal.decreases-making
decreases-making g l = l.count - vec_len l.markers
