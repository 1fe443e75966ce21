use Rattle.std.proofs.Common.{refl, arith}
use Rattle.std.proofs.lemmas.Grind.{common_steps}
use Rattle.stream_print.proofs.ReadLemmas.{TookIn-join}
use Rattle.stream_print.proofs.reads.read_input.Goals as goal

pub returns-in_err-try_extend-in-Ok-clause-some :
    goal.returns-in_err-try_extend-in-Ok-clause-some
returns-in_err-try_extend-in-Ok-clause-some g c =
    let read = c.in-Ok.ensures in
    record {
      text = _;
      took = TookIn-join c.reading.invariant.took read.read read.left read.cause.later refl;
      within = grind (arith, common_steps, c.reading.invariant.within);
    }
