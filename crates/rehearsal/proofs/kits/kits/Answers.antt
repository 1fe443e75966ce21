use Rattle.std.proofs.Common.{sym, subst, arith}
use Rattle.std.specs.Prelude.{All}
use Rattle.std.proofs.lemmas.Grind.{common_steps}
use Rattle.std.proofs.lemmas.List.Elements.{All-push}
use Rattle.workload.specs.Loads.{files_of}
use Rattle.rehearsal.specs.Counts.{RehearsalKit}
use Rattle.rehearsal.specs.Rehearsals.{IsFresh}
use Rattle.rehearsal.proofs.kits.kits.Goals as goal

pub making-preserved : goal.making-preserved
making-preserved c =
    let Fresh : RehearsalKit → Type 0 = λ kit. IsFresh (files_of c.args.n) kit in
    record {
      few = grind (arith, common_steps, c.in_ok-push.ensures.items, c.making-test.true, c.len.ensures, c.making.invariant.few);
      fresh = subst (All Fresh) (sym c.in_ok-push.ensures.items)
          (All-push Fresh c.making.kits.items c.in_ok-kit.field-0 c.making.invariant.fresh c.in_ok-kit.ensures);
    }
