use Rattle.std.proofs.Common.{◌≡◌, ◌+◌, ◌<◌, ℕ, List, true, false, length, take, sym, subst, ◌∙◌, arith}
use Rattle.std.proofs.lemmas.Result.{err_from_is_err_and}
use Rattle.sample_linker.specs.Links.{is_definition, definitions}
use Rattle.sample_lang.specs.declared.program.Item.{Item}
use Rattle.sample_linker.proofs.Front.{PlacedTo, IndexedTo, placed_def, placed_need, placed_stop, indexed_def, indexed_need}
use Rattle.sample_linker.proofs.linking.place_names.Goals as goal
use Rattle.sample_linker.proofs.linking.place_names.Goals.{then-is_definition+in_ok-place_item, else-is_definition}

pub returns-in_err-place_item-clause-err : goal.returns-in_err-place_item-clause-err
returns-in_err-place_item-clause-err c =
    let i : ℕ = c.loop-item.item-index in
    let lt : i < length c.args.items.now = omega arith in
    let defines : is_definition c.item-item.result ≡ true = sym c.is_definition.ensures ∙ c.if-is_definition.true in
    let p = err_from_is_err_and c.from_residual.result c.from_residual.ensures.1 in
    rw (p.1, p.2) (placed_stop c.loop-item.table c.args.items.now i c.item-item.result c.in_err-place_item.field-0.0 lt
    c.item-item.is defines c.loop-item.invariant.placed
    (c.in_err-place_item.ensures.err (definitions (take i c.args.items.now)) c.loop-item.invariant.placed.lists))

pub loop-item-preserved : goal.loop-item-preserved
loop-item-preserved c =
    let i : ℕ = c.loop-item.item-index in
    let lt : i < length c.args.items.now = omega arith in
    let before : List Item = definitions (take i c.args.items.now) in
    elim c.if-is_definition.branch [
      | then-is_definition+in_ok-place_item w ↦
          let defines : is_definition c.item-item.result ≡ true = sym c.is_definition.ensures ∙ w.if-is_definition.true in
          let done = w.in_ok-place_item.ensures in
          let ok = done.ok before c.loop-item.invariant.placed.lists in
          let table = w.place_item.new.table in
          record {
            placed = subst (λ t. PlacedTo t c.args.items.now (i + 1)) (sym w.table-is)
                (placed_def c.loop-item.table table c.args.items.now i c.item-item.result lt c.item-item.is defines
                c.loop-item.invariant.placed ok);
            indexed = subst (λ t. IndexedTo t c.if-is_definition.place c.args.items.now (i + 1)) (sym w.table-is)
                (subst (λ p. IndexedTo table p c.args.items.now (i + 1)) (sym w.place-is)
                (indexed_def c.loop-item.table table c.loop-item.place c.args.items.now i c.item-item.result lt c.item-item.is
                defines c.loop-item.invariant.indexed ok.0 done.number));
            few = omega (arith, w.place-is, c.loop-item.invariant.few);
          }
      | else-is_definition w ↦
          let needs : is_definition c.item-item.result ≡ false = sym c.is_definition.ensures ∙ w.if-is_definition.false in
          record {
            placed = subst (λ t. PlacedTo t c.args.items.now (i + 1)) (sym w.table-is)
                (placed_need c.loop-item.table c.args.items.now i c.item-item.result lt c.item-item.is needs c.loop-item.invariant.placed);
            indexed = subst (λ t. IndexedTo t c.if-is_definition.place c.args.items.now (i + 1)) (sym w.table-is)
                (subst (λ p. IndexedTo c.loop-item.table p c.args.items.now (i + 1)) (sym w.place-is)
                (indexed_need c.loop-item.table c.loop-item.place c.args.items.now i c.item-item.result lt c.item-item.is needs
                c.loop-item.invariant.indexed));
            few = omega (arith, w.place-is, c.loop-item.invariant.few);
          }
    ]
