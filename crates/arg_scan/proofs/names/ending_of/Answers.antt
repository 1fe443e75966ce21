use Rattle.std.proofs.Common.{◌<◌, sym, ◌∙◌, arith}
use Rattle.arg_scan.specs.declared.names.Ending.TheVariants.{C}
use Rattle.arg_scan.specs.Names.{endings, has_ending}
use Rattle.arg_scan.proofs.Firsts.{find_first, find_none}
use Rattle.arg_scan.proofs.names.ending_of.Goals as goal

pub returns-then-ends : goal.returns-then-ends
returns-then-ends c = find_first (has_ending c.args.name.now) endings c.loop-ending.ending-index C (omega arith)
    c.loop-ending.invariant (sym c.ends.ensures ∙ c.if-ends.true)

pub returns : goal.returns
returns c = sym (find_none (has_ending c.args.name.now) endings C (λ k l. let below : k < 7 = l in c.loop-ending.invariant k (omega arith)))
