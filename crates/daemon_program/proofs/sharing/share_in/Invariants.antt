use Rattle.std.proofs.Common.{◌≡◌, ◌+◌, ◌≤◌, ◌++◌, length, map, reverse, vec_len, vec_capacity}
use Rattle.std.specs.Prelude.{All}
use Rattle.edge_traits.specs.Told.{SameRelation3}
use Rattle.shared_cache.specs.Shared.{no_counts}
use Rattle.daemon_program.specs.Sharing.{bare_kit, counts_of}
use Rattle.daemon_program.proofs.sharing.share_in.Given as goal

abbrev pub invariant-moving : goal.invariant-moving
invariant-moving g l = record {
  kits : l.doors.items ++ reverse (map bare_kit l.shared.items) ≡ reverse l.fn.doors.items;
  alike : All (λ kit. SameRelation3 (g.S.Station.ran kit.station) g.P.Sharing.ran) l.doors.items;
  counts : All (λ kit. counts_of kit ≡ no_counts) l.shared.items;
  many : length l.shared.items ≡ l.counter;
  left : l.counter + length l.doors.items ≡ length l.fn.doors.items;
  space : l.count ≤ vec_capacity l.shared;
  back : vec_len l.doors + vec_len l.shared ≤ vec_capacity l.doors;
}
