use Rattle.std.proofs.Common.{[], ap, inl, inr, arith}
use Rattle.std.specs.Option.{is_some}
use Rattle.sample_linker.proofs.Steps.{placed_none}
use Rattle.sample_linker.proofs.Used.{all_own, place_below}
use Rattle.sample_linker.proofs.Rounds.{Halted, left_at, order_at}
use Rattle.sample_linker.proofs.ordering.place_definitions.Goals as goal

pub place_all-requires-clause-bound : goal.place_all-requires-clause-bound
place_all-requires-clause-bound c name place found =
    omega (arith, place_below c.args.table.now c.args.defined.now name place c.requires.indexes found, c.in_ok-progress.ensures.len)

pub place_all-requires-clause-own : goal.place_all-requires-clause-own
place_all-requires-clause-own c item here = all_own c.args.table.now c.args.defined.now item c.requires.indexes here

pub circle_from-requires-clause-left : goal.circle_from-requires-clause-left
circle_from-requires-clause-left c =
    let start = c.in_ok-progress.ensures in
    let done = c.in_ok-place_all.ensures []
    (placed_none c.in_ok-progress.progress.placed c.in_ok-progress.progress.text c.args.defined.now
    (λ name. ap is_some (start.placed name)) start.text)
    (λ at item here. inr (inl (start.seen at here.0))) in
    let progress = c.place_all.new.progress in
    let halted : Halted c.args.table.now progress.placed progress.text progress.waiters.items c.args.defined.now =
    record { before = done.0; so = done.1; settled = done.2 } in
    left_at c.args.table.now progress.placed progress.text progress.waiters.items c.args.defined.now c.in-Some.name.now
    c.requires.indexes halted c.in-Some.ensures.left c.in-Some.ensures.defined

pub returns-in-None-clause-ok : goal.returns-in-None-clause-ok
returns-in-None-clause-ok c =
    let start = c.in_ok-progress.ensures in
    let done = c.in_ok-place_all.ensures []
    (placed_none c.in_ok-progress.progress.placed c.in_ok-progress.progress.text c.args.defined.now
    (λ name. ap is_some (start.placed name)) start.text)
    (λ at item here. inr (inl (start.seen at here.0))) in
    let progress = c.place_all.new.progress in
    let halted : Halted c.args.table.now progress.placed progress.text progress.waiters.items c.args.defined.now =
    record { before = done.0; so = done.1; settled = done.2 } in
    order_at c.args.table.now progress.placed progress.text progress.waiters.items c.args.defined.now halted c.in-None.ensures.none
