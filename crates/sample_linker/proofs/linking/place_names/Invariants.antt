use Rattle.std.proofs.Common.{◌≤◌}
use Rattle.sample_linker.proofs.Front.{PlacedTo, IndexedTo}
use Rattle.sample_linker.proofs.linking.place_names.Given as goal

abbrev pub invariant-loop-item : goal.invariant-loop-item
invariant-loop-item l = record {
  placed : PlacedTo l.table l.items l.item-index;
  indexed : IndexedTo l.table l.place l.items l.item-index;
  few : l.place ≤ l.item-index;
}
