use Rattle.std.proofs.Common.{◌≤◌, ap, subst, arith, length, List}
use mathlib.Core.List.{IsPrefix}
use Rattle.farm_monitor.specs.declared.progress.Progress.{Progress}
use Rattle.farm_monitor.proofs.Beginnings.{shorter_begins}
use Rattle.farm_monitor.proofs.row.Row.later.Goals as goal

pub returns-then-self-other-clause-this : goal.returns-then-self-other-clause-this
returns-then-self-other-clause-this c =
    let one = c.args.self.now in
    let two = c.args.other.now in
    let all = c.learn.new.self.log in
    let this : IsPrefix one.rows.log all =
    subst (λ (l : List Progress). IsPrefix l all) (ap (λ s. s.log) c.again-both.ensures) c.learn.ensures.2 in
    let less : length one.rows.log ≤ length two.rows.log = omega (arith, one.counted, two.counted) in
    rw c.again.ensures (shorter_begins one.rows.log two.rows.log all this c.learn.ensures.3 less)

pub returns-clause-that : goal.returns-clause-that
returns-clause-that c =
    let one = c.args.self.now in
    let two = c.args.other.now in
    let all = c.learn.new.self.log in
    let this : IsPrefix one.rows.log all =
    subst (λ (l : List Progress). IsPrefix l all) (ap (λ s. s.log) c.again-both.ensures) c.learn.ensures.2 in
    let less : length two.rows.log ≤ length one.rows.log = omega (arith, one.counted, two.counted) in
    rw c.again-else-self-other.ensures (shorter_begins two.rows.log one.rows.log all c.learn.ensures.3 this less)
