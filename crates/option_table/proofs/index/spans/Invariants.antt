use Rattle.std.proofs.Common.{◌≡◌, ◌<◌, ℕ, length, slice_index}
use Rattle.option_table.specs.Spans.{IsStart}
use Rattle.option_table.proofs.index.spans.Given as goal

abbrev pub invariant-loop-letter : goal.invariant-loop-letter
invariant-loop-letter l = (length l.starts ≡ 257) × ((k : ℕ) → k < l.letter → IsStart l.rows l.places k (slice_index l.starts k))
