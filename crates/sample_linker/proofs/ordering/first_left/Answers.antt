use Rattle.std.proofs.Common.{◌≡◌, ◌<◌, true, length, ap, sym, ◌∙◌, arith}
use Rattle.std.specs.Prelude.{not}
use Rattle.std.specs.Option.{is_some}
use Rattle.sample_lang.specs.Names.{name_of}
use Rattle.sample_linker.specs.Tables.{place_in}
use Rattle.sample_linker.proofs.Members.{member_contained, member_named}
use Rattle.sample_linker.proofs.Rounds.{all_more}
use Rattle.sample_linker.proofs.ordering.first_left.Goals as goal

pub returns-then-is_none-clause-defined : goal.returns-then-is_none-clause-defined
returns-then-is_none-clause-defined c =
    let lt : c.loop-item.item-index < length c.args.defined.now = omega arith in
    member_named c.args.defined.now c.item-item.result c.name_of-then-is_none.result.now
    (member_contained c.args.defined.now c.item-item.result (c.loop-item.item-index, lt, sym c.item-item.is))
    (sym c.name_of-then-is_none.ensures)

pub loop-item-preserved : goal.loop-item-preserved
loop-item-preserved c =
    let lt : c.loop-item.item-index < length c.args.defined.now = omega arith in
    all_more (λ item. is_some (place_in c.args.placed.now (name_of item)) ≡ true) c.args.defined.now c.loop-item.item-index
    c.item-item.result lt c.item-item.is c.loop-item.invariant
    (ap (λ n. is_some (place_in c.args.placed.now n)) (sym c.name_of.ensures) ∙ ap is_some (sym c.find.ensures) ∙ c.is_none.ensures
    ∙ ap not c.if-is_none.false)
