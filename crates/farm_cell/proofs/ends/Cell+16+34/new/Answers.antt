use Rattle.std.proofs.Common.{rules, ◌≡◌, ◌+◌, ◌<◌, [], ◌∷◌, ◌++◌, List, length, Some, refl, sym, ap, ◌∙◌, subst, arith, length-append}
use Rattle.crossbeam_utils.specs.Seq.{cell_view}
use Rattle.slot_table.specs.History.{calls_by}
use Rattle.farm_cell.specs.declared.rule.View.{View}
use Rattle.farm_cell.specs.declared.cell.Pass.{Pass}
use Rattle.farm_cell.specs.Rule.{counted, newcomer}
use Rattle.farm_cell.proofs.Lists.{IsAt, AreAt, AreBlank, are-snoc, blank-snoc, are-all, blank-each}
use Rattle.farm_cell.proofs.Newcomers.{comes}
use Rattle.farm_cell.proofs.ends.Cell+16+34.new.Goals as goal

pub split_pass-seat-requires : goal.split_pass-seat-requires
split_pass-seat-requires g c =
    let i = c.loop-number.invariant in
    let v : View 16 = cell_view c.loop-number.first in
    let made : v.made ≡ c.loop-number.number = ap (λ (z : View 16). z.made) i.view in
    let long = i.long in
    let within = c.loop-number-test.true in
    let few = c.requires.callers.1 in (
      search rules,
      (
        search rules,
        (
          i.table,
          comes {h = 16} c.loop-number.first.id v c.args.limits (ap (λ (z : View 16). z.limits) i.view) (omega arith)
              (omega arith),
        ),
      ),
    )

pub loop-number-preserved : goal.loop-number-preserved
loop-number-preserved g c =
    let i = c.loop-number.invariant in
    let t = c.in_ok-words.words.table.shared.table_id in
    let l = c.args.limits in
    let n = c.loop-number.number in
    let kept = c.split_pass-seat.ensures.kept in
    let given = c.split_pass-seat.ensures.given in
    let p : Pass = record { number = n; seat = c.split_pass-seat.result } in
    let w : View 16 = cell_view c.split_pass-seat.result in
    let is : ◌≡◌ {A = View 16} w (record { limits = Some l; made = 0; low = n; high = n + 1; seen = []; mine = [] }) =
    given.1 ∙ ap (λ (z : View 16). newcomer z) i.view in
    let items : c.push.new.self.items ≡ c.loop-number.rest.items ++ p ∷ [] = c.in_ok-push.ensures.items in
    let long = i.long in
    let one : IsAt t l c.args.callers (1 + length c.loop-number.rest.items) p = record {
      pass = record {
        cell = given.0 ∙ i.table;
        limits = ap (λ (z : View 16). z.limits) is;
        single = ap (λ (z : View 16). z.high) is ∙ ap (λ (z : View 16). z.low + 1) (sym is);
        number = ap (λ (z : View 16). z.low) is;
        count = λ zero. absurd (omega arith);
        own = ap (λ (z : View 16). calls_by n z.mine) is ∙ ap (λ (z : View 16). z.mine) (sym is);
      };
      number = omega arith;
    } in record {
      table = kept.0.0 ∙ i.table;
      view = kept.1 ∙ ap (λ (z : View 16). counted z) i.view;
      rest = subst (λ (k : List Pass). AreAt t l c.args.callers 1 k) (sym items)
          (are-snoc t l c.args.callers 1 c.loop-number.rest.items p i.rest one);
      blank = subst (λ (k : List Pass). AreBlank k) (sym items)
          (blank-snoc c.loop-number.rest.items p i.blank (ap (λ (z : View 16). z.seen) is, ap (λ (z : View 16). z.mine) is));
      within = (let below = c.loop-number-test.true in omega arith);
      long = ap (λ (k : List Pass). length k + 1) items ∙ ap (λ k. k + 1) (length-append c.loop-number.rest.items (p ∷ []))
          ∙ ap (λ k. k + 1) long;
    }

pub returns-clause-passes : goal.returns-clause-passes
returns-clause-passes g c =
    let i = c.loop-number.invariant in
    let first : Pass = record { number = 0; seat = c.loop-number.first } in
    let rest : List Pass = c.loop-number.rest.items in
    let v : View 16 = cell_view c.loop-number.first in
    let pushed : c.push-2.new.self.items ≡ first ∷ [] = c.in_ok-push-2.ensures.items
    ∙ ap (λ (k : List Pass). k ++ first ∷ []) c.in_ok-passes.ensures.items in
    let all : c.append.new.self.items ≡ first ∷ rest = c.in_ok-append.ensures.items ∙ ap (λ (k : List Pass). k ++ rest) pushed in
    let number : c.loop-number.number ≡ c.args.callers = (let within = i.within in let done = c.loop-number-test.false in omega arith) in
    let some : 0 < c.args.callers = c.requires.callers.0 in
    let one : IsAt c.in_ok-words.words.table.shared.table_id c.args.limits c.args.callers 0 first = record {
      pass = record {
        cell = i.table;
        limits = ap (λ (z : View 16). z.limits) i.view;
        single = ap (λ (z : View 16). z.high) i.view ∙ ap (λ (z : View 16). z.low + 1) (sym i.view);
        number = ap (λ (z : View 16). z.low) i.view;
        count = λ zero. ap (λ (z : View 16). z.made) i.view ∙ number;
        own = ap (λ (z : View 16). calls_by 0 z.mine) i.view ∙ ap (λ (z : View 16). z.mine) (sym i.view);
      };
      number = refl;
    } in
    are-all _ c.append.new.self.items (ap length all ∙ (let long = i.long in omega arith))
    (subst (λ (k : List Pass). AreAt c.in_ok-words.words.table.shared.table_id c.args.limits c.args.callers 0 k) (sym all) (one, i.rest))

pub returns-clause-blank : goal.returns-clause-blank
returns-clause-blank g c =
    let i = c.loop-number.invariant in
    let first : Pass = record { number = 0; seat = c.loop-number.first } in
    let rest : List Pass = c.loop-number.rest.items in
    let pushed : c.push-2.new.self.items ≡ first ∷ [] = c.in_ok-push-2.ensures.items
    ∙ ap (λ (k : List Pass). k ++ first ∷ []) c.in_ok-passes.ensures.items in
    let all : c.append.new.self.items ≡ first ∷ rest = c.in_ok-append.ensures.items ∙ ap (λ (k : List Pass). k ++ rest) pushed in
    blank-each c.append.new.self.items
    (subst (λ (k : List Pass). AreBlank k) (sym all)
    ((ap (λ (z : View 16). z.seen) i.view, ap (λ (z : View 16). z.mine) i.view), i.blank))
