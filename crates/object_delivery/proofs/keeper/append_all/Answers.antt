use Rattle.std.proofs.Common.{arith}
use Rattle.std.proofs.lemmas.Grind.{common_steps}
use Rattle.object_delivery.proofs.Filling.{filling-begins, filling-more, filling-stops, on_err}
use Rattle.object_delivery.proofs.keeper.append_all.Goals as goal

pub returns-in_err-taken-clause-err : goal.returns-in_err-taken-clause-err
returns-in_err-taken-clause-err g c = on_err _ (filling-stops _ _ _ _ _ c.adding.rest.now _ c.adding.invariant c.append.ensures.files)

pub returns-then-taken-eq0-clause-err : goal.returns-then-taken-eq0-clause-err
returns-then-taken-eq0-clause-err g c = filling-stops _ _ _ _ _ c.adding.rest.now _ c.adding.invariant c.append.ensures.files

pub adding-preserved : goal.adding-preserved
adding-preserved g c =
    filling-more _ _ _ _ _ c.adding.rest.now _ c.in_ok-taken.taken c.adding.invariant c.in_ok-taken.ensures.files
    (grind (arith, common_steps)) c.append.ensures.overruns (c.in_ok-taken.ensures.cause.taken (omega (arith, c.if-taken-eq0.false)))

pub adding-init : goal.adding-init
adding-init g c = filling-begins (g.F.Files.shows c.args.files.now) c.args.name.now c.args.piece.now c.requires.there
