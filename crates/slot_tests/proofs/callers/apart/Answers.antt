use Rattle.std.proofs.Common.{◌≡◌, ◌∷◌, List, length, get_or, sym, ap, ◌∙◌, subst, arith}
use Rattle.std.specs.Vec.Iter.{into_iter_items}
use Rattle.farm_cell.specs.declared.cell.Pass.{Pass}
use Rattle.farm_cell.specs.Passes.{mine_of}
use Rattle.farm_cell.specs.Ends.{IsNumbered}
use Rattle.slot_tests.proofs.callers.apart.Goals as goal

items : (c : goal.After-drop-rest-2)
    → c.args.passes.items ≡ c.in_ok-first.first ∷ (c.in_ok-second.second ∷ (c.in_ok-third.third ∷ into_iter_items c.next-3.new.self))
items c =
    sym c.into_iter-rest.ensures.rest ∙ c.in_ok-first.ensures.items
    ∙ ap (λ (k : List Pass). c.in_ok-first.first ∷ k) c.in_ok-second.ensures.items
    ∙ ap (λ (k : List Pass). c.in_ok-first.first ∷ (c.in_ok-second.second ∷ k)) c.in_ok-third.ensures.items

pub returns-clause-first : goal.returns-clause-first
returns-clause-first c =
    let p = c.in_ok-first.first in
    let long : length c.args.passes.items ≡ 3 = c.requires.passes.len ∙ c.requires.three in (
      subst (λ (ps : List Pass). IsNumbered c.args.cell.now 0 (get_or ps 0 p)) (items c) (c.requires.passes.each 0 p (omega arith)),
      ap (λ (ps : List Pass). mine_of (get_or ps 0 p)) (sym (items c)) ∙ (c.requires.blank 0 p (omega arith)).1,
    )

pub returns-clause-second : goal.returns-clause-second
returns-clause-second c =
    let p = c.in_ok-second.second in
    let long : length c.args.passes.items ≡ 3 = c.requires.passes.len ∙ c.requires.three in (
      subst (λ (ps : List Pass). IsNumbered c.args.cell.now 1 (get_or ps 1 p)) (items c) (c.requires.passes.each 1 p (omega arith)),
      ap (λ (ps : List Pass). mine_of (get_or ps 1 p)) (sym (items c)) ∙ (c.requires.blank 1 p (omega arith)).1,
    )

pub returns-clause-third : goal.returns-clause-third
returns-clause-third c =
    let p = c.in_ok-third.third in
    let long : length c.args.passes.items ≡ 3 = c.requires.passes.len ∙ c.requires.three in (
      subst (λ (ps : List Pass). IsNumbered c.args.cell.now 2 (get_or ps 2 p)) (items c) (c.requires.passes.each 2 p (omega arith)),
      ap (λ (ps : List Pass). mine_of (get_or ps 2 p)) (sym (items c)) ∙ (c.requires.blank 2 p (omega arith)).1,
    )
