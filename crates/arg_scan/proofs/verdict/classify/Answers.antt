use Rattle.std.proofs.Common.{◌∙◌, ap, subst, sym}
use Rattle.arg_scan.specs.Class.{HasCause, verdict_of}
use Rattle.arg_scan.proofs.Causes.{cause_is}
use Rattle.arg_scan.proofs.verdict.classify.Goals as goal

pub returns-clause-cause : goal.returns-clause-cause
returns-clause-cause c =
    subst (HasCause c.args.words.now) (sym (c.verdict_by_places.ensures ∙ ap verdict_of c.as_slice.ensures)) (cause_is c.args.words.now)
