use Rattle.std.proofs.Common.{ℕ, ◌-◌, ◌≤◌, ◌++◌, List, length, take}
use Rattle.reply_stream.specs.Taking.{Holds, IsPlaced}
use Rattle.reply_stream.proofs.partial.run_head.Given as goal

abbrev pub invariant-loop-done : goal.invariant-loop-done
invariant-loop-done l = record {
  within : l.done ≤ length l.piece;
  holds : Holds l.p;
  placed : (text object : List ℕ) → IsPlaced l.fn.p text object → IsPlaced l.p (text ++ take l.done l.piece) object;
}

abbrev pub decreases-loop-done : goal.decreases-loop-done
decreases-loop-done l = length l.piece - l.done
