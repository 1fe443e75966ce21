use Rattle.std.proofs.Common.{◌≡◌, ◌+◌, ◌≤◌, ◌++◌, map, reverse, vec_len, vec_capacity}
use Rattle.std.specs.Prelude.{All}
use Rattle.object_cache.specs.Entries.{sizes}
use Rattle.daemon_program.specs.Books.{plain_kit, book_of, stats_of}
use Rattle.daemon_program.proofs.books.move_out.Given as goal

abbrev pub invariant-moving : goal.invariant-moving
invariant-moving g l = record {
  kits : l.doors.items ++ reverse (map plain_kit l.cached.items) ≡ l.fn.doors.items ++ reverse (map plain_kit l.fn.cached.items);
  stats : l.stats.items ++ reverse (map (λ kit. stats_of (book_of kit)) l.cached.items)
      ≡ reverse (map (λ kit. stats_of (book_of kit)) l.fn.cached.items);
  within : All (λ kit. sizes (book_of kit).entries ≤ (book_of kit).bound) l.cached.items
      → All (λ kit. sizes (book_of kit).entries ≤ (book_of kit).bound) l.fn.cached.items;
  room : vec_len l.doors + vec_len l.cached ≤ vec_capacity l.doors;
  space : vec_len l.stats + vec_len l.cached ≤ vec_capacity l.stats;
}

abbrev pub decreases-moving : goal.decreases-moving
decreases-moving g l = vec_len l.cached
