use Rattle.std.proofs.Common.{◌≡◌, ◌<◌, ℕ, length}
use Rattle.sample_linker.specs.Waits.{Has}
use Rattle.sample_linker.proofs.placing.Progress.new.Given as goal

abbrev pub invariant-loop-at : goal.invariant-loop-at
invariant-loop-at l = record {
  len : length l.waiters.items ≡ l.at;
  seen : (at : ℕ) → at < l.at → Has l.seen.keys at;
}
