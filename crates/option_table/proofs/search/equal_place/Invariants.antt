use Rattle.std.proofs.Common.{◌≡◌, ◌<◌, ℕ, false, slice_index}
use Rattle.option_table.specs.Searches.{equal_at}
use Rattle.option_table.proofs.search.equal_place.Given as goal

abbrev pub invariant-loop-place : goal.invariant-loop-place
invariant-loop-place g l = (k : ℕ) → k < l.place-index → equal_at l.table l.word (slice_index l.places k) ≡ false
