use Rattle.std.proofs.Common.{◌≡◌, ◌+◌, ◌<◌, Some, length, ◌++◌}
use Rattle.std.specs.Vec.Iter.{into_iter_items, into_iter_len}
use Rattle.farm_cell.specs.Passes.{name_of, limits_of, callers_of, view_of, number_of, mine_of}
use Rattle.farm_cell.specs.Ends.{all_mine}
use Rattle.farm_cell.proofs.Lists.{AreAt}
use Rattle.farm_cell.proofs.ends.Cell+16+34.close.Given as goal

abbrev pub invariant-loop-next : goal.invariant-loop-next
invariant-loop-next g l = record {
  table : l.first.seat.table_id ≡ name_of l.self;
  limits : (view_of l.first).limits ≡ Some (limits_of l.self);
  number : number_of l.first ≡ 0;
  low : (view_of l.first).low ≡ 0;
  some : 0 < (view_of l.first).high;
  high : (view_of l.first).high + length (into_iter_items l.next-iterator) ≡ callers_of l.self;
  made : (view_of l.first).made ≡ callers_of l.self;
  own : AreAt (name_of l.self) (limits_of l.self) (callers_of l.self) (view_of l.first).high (into_iter_items l.next-iterator);
  mine : mine_of l.first ++ all_mine (into_iter_items l.next-iterator) ≡ all_mine l.fn.passes.items;
  len : into_iter_len l.next-iterator ≡ length (into_iter_items l.next-iterator);
}
