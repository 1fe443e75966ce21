use Rattle.std.proofs.Common.{refl, arith}
use Rattle.option_table.specs.Gcc.{gcc_rows}
use Rattle.option_table.proofs.Indexing.{indexed_by_test}
use Rattle.option_table.proofs.gcc.gcc_table.Goals as goal

pub invariant_of-result : goal.invariant_of-result
invariant_of-result c = record {
  count = refl;
  indexed = indexed_by_test _ _ _ (omega arith) refl;
  letters = refl;
  fit = refl;
}

pub returns : goal.returns
unfolding gcc_rows
returns c = refl
