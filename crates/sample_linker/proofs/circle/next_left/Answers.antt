use Rattle.std.proofs.Common.{◌≡◌, ◌<◌, length, get_or, sym, ap, subst, ◌∙◌, rules}
use Rattle.std.specs.Prelude.{unwrap_or}
use Rattle.sample_linker.specs.Circles.{IsLeft}
use Rattle.sample_linker.specs.Orders.{Uses}
use Rattle.sample_linker.proofs.Rounds.{left_stands, step_lacks, step_uses}
use Rattle.sample_linker.proofs.circle.next_left.Goals as goal

pub offset_bounds-defined-place : goal.offset_bounds-defined-place
offset_bounds-defined-place c =
    let s = left_stands c.args.table.now c.args.placed.now c.args.defined.now c.args.name.now c.unwrap_or-place.result
    c.requires.indexes c.requires.left
    (c.unwrap_or-place.ensures ∙ ap (λ o. unwrap_or o 0) c.find.ensures) in
    let lt : c.unwrap_or-place.result < length c.args.defined.now = s.here.0 in
    search rules

pub bounds-defined-place : goal.bounds-defined-place
bounds-defined-place c =
    (left_stands c.args.table.now c.args.placed.now c.args.defined.now c.args.name.now c.unwrap_or-place.result c.requires.indexes
    c.requires.left
    (c.unwrap_or-place.ensures ∙ ap (λ o. unwrap_or o 0) c.find.ensures)).here.0

pub bounds-code-found : goal.bounds-code-found
bounds-code-found c =
    let s = left_stands c.args.table.now c.args.placed.now c.args.defined.now c.args.name.now c.unwrap_or-place.result
    c.requires.indexes c.requires.left
    (c.unwrap_or-place.ensures ∙ ap (λ o. unwrap_or o 0) c.find.ensures) in
    let lacks = step_lacks c.args.table.now c.args.placed.now c.args.defined.now c.args.name.now c.unwrap_or-place.result
    c.index-defined-place.result c.code_of-code.result.now
    c.unknown_in.result c.unwrap_or-found.result s c.index-defined-place.is c.requires.left c.code_of-code.ensures
    (record { bound = c.unknown_in.ensures.bound; some = c.unknown_in.ensures.some; none = c.unknown_in.ensures.none })
    c.unwrap_or-found.ensures in
    subst (λ code. c.unwrap_or-found.result < length code) (sym c.code_of-code.ensures) lacks.within

-- the name is one that the definition uses, and left
goes_on : (c : goal.After-part_name) → Uses c.args.defined.now c.args.name.now c.part_name.result.now
    × IsLeft c.args.table.now c.args.placed.now c.args.defined.now c.part_name.result.now
goes_on c =
    let s = left_stands c.args.table.now c.args.placed.now c.args.defined.now c.args.name.now c.unwrap_or-place.result
    c.requires.indexes c.requires.left
    (c.unwrap_or-place.ensures ∙ ap (λ o. unwrap_or o 0) c.find.ensures) in
    let lacks = step_lacks c.args.table.now c.args.placed.now c.args.defined.now c.args.name.now c.unwrap_or-place.result
    c.index-defined-place.result c.code_of-code.result.now
    c.unknown_in.result c.unwrap_or-found.result s c.index-defined-place.is c.requires.left c.code_of-code.ensures
    (record { bound = c.unknown_in.ensures.bound; some = c.unknown_in.ensures.some; none = c.unknown_in.ensures.none })
    c.unwrap_or-found.ensures in
    step_uses c.args.table.now c.args.placed.now c.args.defined.now c.args.name.now c.part_name.result.now c.unwrap_or-place.result
    c.index-defined-place.result c.unwrap_or-found.result
    c.index-code-found.result s c.index-defined-place.is c.requires.used c.requires.left lacks.within
    (subst (λ code. c.index-code-found.result ≡ get_or code c.unwrap_or-found.result c.index-code-found.result)
    c.code_of-code.ensures c.index-code-found.is) lacks.unknown c.part_name.ensures

pub returns-clause-uses : goal.returns-clause-uses
returns-clause-uses c = (goes_on c).0

pub returns-clause-left : goal.returns-clause-left
returns-clause-left c = (goes_on c).1
