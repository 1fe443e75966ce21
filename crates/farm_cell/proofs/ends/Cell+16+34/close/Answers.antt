use Rattle.std.proofs.Common.{◌≡◌, ◌+◌, [], ◌∷◌, ◌++◌, List, length, get_or, refl, sym, ap, ◌∙◌, subst, arith}
use Rattle.std.proofs.lemmas.List.{append-nil}
use Rattle.std.specs.Vec.Iter.{into_iter_items, into_iter_len}
use Rattle.crossbeam_utils.specs.Seq.{cell_view}
use Rattle.slot_table.specs.History.{calls_by}
use Rattle.farm_cell.specs.declared.rule.View.{View}
use Rattle.farm_cell.specs.declared.cell.Pass.{Pass}
use Rattle.farm_cell.specs.Rule.{Looked}
use Rattle.farm_cell.specs.Passes.{name_of, limits_of, callers_of, view_of}
use Rattle.farm_cell.specs.Ends.{IsNumbered, all_mine}
use Rattle.farm_cell.proofs.Lists.{AreAt, are-at, own-mines, all-back}
use Rattle.farm_cell.proofs.ends.Cell+16+34.close.Goals as goal

nothing : (ps : List Pass) → length ps ≡ 0 → ps ≡ []
nothing [] e = refl
nothing (p ∷ ps) e = absurd (omega arith)

pub loop-next-init : goal.loop-next-init
loop-next-init g c =
    let cell = c.args.self in
    let p : Pass = c.in-Some.first in
    let xs : List Pass = into_iter_items c.into_iter-next-iterator.result in
    let items : c.args.passes.items ≡ p ∷ xs = sym c.into_iter-rest.ensures.rest ∙ c.in-Some.ensures.items
    ∙ ap (λ it. p ∷ into_iter_items it) (sym c.into_iter-next-iterator.ensures.into_iter_gives) in
    let all : AreAt (name_of cell) (limits_of cell) (callers_of cell) 0 (p ∷ xs) =
    subst (λ (k : List Pass). AreAt (name_of cell) (limits_of cell) (callers_of cell) 0 k) items
    (are-at cell 0 c.args.passes.items
    (λ i d below. subst (λ k. IsNumbered cell k (get_or c.args.passes.items i d)) (omega arith) (c.requires.passes.each i d below))) in
    let low : (view_of p).low ≡ 0 = all.0.pass.number ∙ all.0.number in
    let high : (view_of p).high ≡ 1 = all.0.pass.single ∙ ap (λ k. k + 1) low in
    let long : length c.args.passes.items ≡ length xs + 1 = (let e = ap length items in omega arith) in record {
      table = all.0.pass.cell;
      limits = all.0.pass.limits;
      number = all.0.number;
      low = low;
      some = omega arith;
      high = (let n = c.requires.passes.len in omega arith);
      made = all.0.pass.count all.0.number;
      own = subst (λ k. AreAt (name_of cell) (limits_of cell) (callers_of cell) k xs) (omega arith) all.1;
      mine = sym (ap all_mine items);
      len = (let gives = ap into_iter_len c.into_iter-next-iterator.ensures.into_iter_gives in let less = c.in-Some.ensures.len in
          let was = c.into_iter-rest.ensures.len in let ok = c.args.passes.ok in omega arith);
    }

pub returns-clause-each : goal.returns-clause-each
returns-clause-each g c = λ k d below.
    let cell = c.args.self in
    let i = c.loop-next.invariant in
    let v : View 16 = view_of c.loop-next.first in
    let seen : Looked v c.look.result (cell_view c.look.new.seat) = c.look.ensures.seen in
    let none : into_iter_items c.loop-next.next-iterator ≡ [] =
    nothing (into_iter_items c.loop-next.next-iterator) (let e = c.in-None.ensures.steps in let n = i.len in sym n ∙ e.0) in
    let mine : v.mine ≡ all_mine c.args.passes.items =
    sym (append-nil v.mine) ∙ ap (λ (ps : List Pass). v.mine ++ all_mine ps) (sym none) ∙ i.mine in
    let high : v.high + 0 ≡ callers_of cell = ap (λ (ps : List Pass). v.high + length ps) (sym none) ∙ i.high in
    let low = i.low in
    let len = c.requires.passes.len in
    let zero : 0 + k ≡ k = omega arith in
    let all = are-at cell 0 c.args.passes.items
    (λ i d below. subst (λ k. IsNumbered cell k (get_or c.args.passes.items i d)) (omega arith) (c.requires.passes.each i d below)) in
    sym (seen.own k (omega arith, omega arith)) ∙ ap (calls_by k) mine ∙ ap (λ n. calls_by n (all_mine c.args.passes.items)) (sym zero)
    ∙ own-mines (name_of cell) (limits_of cell) (callers_of cell) 0 c.args.passes.items all k d below

pub returns-clause-back : goal.returns-clause-back
returns-clause-back g c =
    let seen : Looked (view_of c.loop-next.first) c.look.result (cell_view c.look.new.seat) = c.look.ensures.seen in
    let some = c.args.self.some in
    let made = c.loop-next.invariant.made in
    all-back (cell_view c.look.new.seat).seen c.args.passes.items (callers_of c.args.self) c.requires.passes.len
    (λ k far. seen.callers k (omega arith) (omega arith)) (returns-clause-each g c) c.requires.back c.loop-next.first
