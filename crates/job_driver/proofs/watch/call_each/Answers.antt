use Rattle.std.proofs.Common.{◌≡◌, ◌++◌, length, take, drop, sym, ap, ◌∙◌, subst}
use Rattle.std.specs.Fork.{ChangesEach}
use Rattle.job_driver.specs.Watching.{CalledEach}
use Rattle.job_driver.proofs.Watching.{all-written}
use Rattle.job_driver.proofs.watch.call_each.Goals as goal

pub returns-clause-each : goal.returns-clause-each
returns-clause-each g c =
    let old = c.args.pairs.now in
    let new = c.for_each_mut.new.s in
    let len : length new ≡ length old.items = search in
    let is : take old.len (new ++ drop (length new) old.items) ≡ new =
    ap (λ n. take n (new ++ drop (length new) old.items)) (search) ∙ all-written old.items new len in
    let each = subst (λ xs. ChangesEach g.F.Fn c.args.f.now xs new) c.as_mut_slice.ensures.value c.for_each_mut.ensures in
    subst (λ ys. CalledEach g.F.Fn c.args.f.now old.items ys) (sym is) (record { each = each })
