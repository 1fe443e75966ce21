use Rattle.std.proofs.Common.{◌≡◌, ◌+◌, ◌≤◌, length}
use Rattle.crossbeam_utils.specs.Seq.{cell_view}
use Rattle.farm_cell.specs.declared.rule.View.{View}
use Rattle.farm_cell.specs.Rule.{opened}
use Rattle.farm_cell.proofs.Lists.{AreAt, AreBlank}
use Rattle.farm_cell.proofs.ends.Cell+16+34.new.Given as goal

abbrev pub invariant-loop-number : goal.invariant-loop-number
invariant-loop-number g l = record {
  table : l.first.table_id ≡ l.words.table.shared.table_id;
  view : ◌≡◌ {A = View 16} (cell_view l.first) (record (opened l.limits) { made = l.number });
  rest : AreAt l.words.table.shared.table_id l.limits l.callers 1 l.rest.items;
  blank : AreBlank l.rest.items;
  within : l.number ≤ l.callers;
  long : length l.rest.items + 1 ≡ l.number;
}
