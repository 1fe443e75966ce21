use Rattle.std.proofs.Common.{◌≡◌, ◌+◌, ◌≤◌, ◌++◌, length, map, reverse, vec_len, vec_capacity}
use Rattle.std.specs.Prelude.{All}
use Rattle.object_cache.specs.Books.{new_book}
use Rattle.daemon_program.specs.Books.{plain_kit, book_of}
use Rattle.daemon_program.proofs.books.move_in.Given as goal

abbrev pub invariant-moving : goal.invariant-moving
invariant-moving g l = record {
  kits : l.doors.items ++ reverse (map plain_kit l.cached.items) ≡ reverse l.fn.doors.items;
  books : All (λ kit. book_of kit ≡ new_book l.bound) l.cached.items;
  many : length l.cached.items ≡ l.counter;
  left : l.counter + length l.doors.items ≡ length l.fn.doors.items;
  space : l.count ≤ vec_capacity l.cached;
  back : vec_len l.doors + vec_len l.cached ≤ vec_capacity l.doors;
}
