use Rattle.std.proofs.Common.{ℕ, ◌+◌, ◌≤◌, Bool, true, false, List, arith}
use Rattle.std.specs.Prelude.{if◌then◌else◌, nat_lt}
use Rattle.edge_traits.specs.Calls.{is_in, failed_calls, one_more, greatest}
use Rattle.edge_traits.proofs.Counting.{failed_more}
use Rattle.object_delivery.proofs.mem_files.MemFilesFiles.remove.Goals as goal

-- one call more is one failed call more at most
once : (fails : List ℕ) (made : ℕ) → failed_calls fails (one_more made) ≤ failed_calls fails made + 1
once fails made = by_test (nat_lt made greatest)
  where
    at_most : (b : Bool) (n : ℕ) → (if b then 1 else 0) + n ≤ n + 1
    at_most true n = omega arith
    at_most false n = omega arith

    by_test : (below : Bool) → failed_calls fails (if below then made + 1 else made) ≤ failed_calls fails made + 1
    by_test true = rw failed_more (at_most (is_in (made + 1) fails) (failed_calls fails made))
    by_test false = omega arith

pub returns-then-fails_next-clause-once : goal.returns-then-fails_next-clause-once
returns-then-fails_next-clause-once c =
    rw (c.fails_next.ensures.fails, c.fails_next.ensures.made) (once c.args.self.now.calls.fails c.args.self.now.calls.made)
