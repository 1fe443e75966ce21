use Rattle.std.proofs.Common.{◌∙◌, arith}
use Rattle.std.proofs.lemmas.Grind.{common_steps}
use Rattle.std.proofs.lemmas.Bool.Decides.{nat_tests}
use Rattle.std.proofs.Math.Seq.{take-add}
use Rattle.edge_traits.proofs.ToldLemmas.{Grew-join}
use Rattle.stream_print.proofs.one.print.Goals as goal

pub printing-preserved : goal.printing-preserved
printing-preserved g c =
    let before = c.printing.invariant in
    let after = c.in-Ok.ensures in
    record {
      within = grind (arith, common_steps, after.bound);
      written = Grew-join before.written after.written (grind (arith, common_steps, take-add));
      goes_on = record {
        faults = after.cause.done ∙ before.goes_on.faults;
        stopped = grind (arith, common_steps, nat_tests, after.stopped, before.goes_on.stopped);
      };
    }
