use Rattle.std.proofs.Common.{refl, arith}
use Rattle.option_table.specs.Scc.{scc_rows}
use Rattle.option_table.proofs.Indexing.{indexed_by_test}
use Rattle.option_table.proofs.scc.scc_table.Goals as goal

pub invariant_of-result : goal.invariant_of-result
invariant_of-result c = record {
  count = refl;
  indexed = indexed_by_test _ _ _ (omega arith) refl;
  letters = refl;
  fit = refl;
}

pub returns : goal.returns
unfolding scc_rows
returns c = refl
