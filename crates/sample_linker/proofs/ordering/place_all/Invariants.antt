use Rattle.std.proofs.Common.{◌≡◌, List, length}
use Rattle.sample_lang.specs.declared.program.Item.{Item}
use Rattle.sample_linker.specs.Waits.{Settled, PlacedSo}
use Rattle.sample_linker.proofs.ordering.place_all.Given as goal

abbrev pub invariant-loop-turn : goal.invariant-loop-turn
invariant-loop-turn l = record {
  len : length l.progress.waiters.items ≡ length l.fn.progress.waiters.items;
  steps : (placed : List Item) → PlacedSo l.fn.progress.placed l.fn.progress.text placed l.defined
      → Settled l.table l.fn.progress.waiters.items l.fn.progress.seen.keys placed l.defined
      → (more : List Item) × PlacedSo l.progress.placed l.progress.text more l.defined
      × Settled l.table l.progress.waiters.items l.progress.seen.keys more l.defined;
}
