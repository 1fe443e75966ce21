use Rattle.std.proofs.Common.{◌≡◌, ◌<◌, ℕ, length, slice_index}
use Rattle.option_table.proofs.index.listed_places.Given as goal

abbrev pub invariant-loop-place : goal.invariant-loop-place
invariant-loop-place g l = (length l.places ≡ g.row.N) × ((k : ℕ) → k < l.place → slice_index l.places k ≡ k)
