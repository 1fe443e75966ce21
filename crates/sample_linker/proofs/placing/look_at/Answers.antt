use Rattle.std.proofs.Common.{◌≡◌, ◌<◌, length, false, ap, sym, subst, ◌∙◌, arith}
use Rattle.std.proofs.lemmas.Bool.Decides.{nat_tests}
use Rattle.std.specs.Option.{is_some}
use Rattle.sample_lang.specs.declared.program.Item.{Item}
use Rattle.sample_lang.specs.Names.{is_named, name_of}
use Rattle.sample_linker.specs.Tables.{place_in}
use Rattle.sample_linker.specs.Waits.{At, Settled, PlacedSo}
use Rattle.sample_linker.proofs.Steps.{look_waits, look_places}
use Rattle.sample_linker.proofs.placing.look_at.Goals as goal

pub returns-in_ok-let_wait-in-Some-clause-steps : goal.returns-in_ok-let_wait-in-Some-clause-steps
returns-in_ok-let_wait-in-Some-clause-steps c placed so settled above =
    let lt : c.args.at < length c.args.defined.now = grind (arith, nat_tests) in
    let item : Item = c.index-defined-at.result in
    let here : At c.args.defined.now c.args.at item = (lt, sym c.index-defined-at.is) in
    let code = c.code_of-code.result.now in
    let done = c.in_ok-let_wait-in-Some.ensures in (
      placed,
      subst (λ t. PlacedSo t c.let_wait.new.progress.text placed c.args.defined.now) (sym done.placed)
          (subst (λ t. PlacedSo c.args.progress.now.placed t placed c.args.defined.now) (sym done.text) so),
      subst (λ t. Settled c.args.table.now c.let_wait.new.progress.waiters.items t.keys placed c.args.defined.now) (sym done.seen)
          (look_waits c.args.table.now c.args.progress.now.waiters.items c.let_wait.new.progress.waiters.items c.args.at
          c.args.progress.now.seen.keys placed c.args.defined.now item code c.in-Some.found
          c.index-code-found.result c.part_name.result.now here c.code_of-code.ensures c.in-Some.ensures.bound c.index-code-found.is
          (c.in-Some.ensures.some placed so.lists) (c.part_name.ensures placed)
          (λ used k. c.requires.used item used (c.args.at, here.0, here.1) k) done.waits done.kept settled),
    )

pub returns-in_ok-place-in-None-clause-steps : goal.returns-in_ok-place-in-None-clause-steps
returns-in_ok-place-in-None-clause-steps c placed so settled above =
    let lt : c.args.at < length c.args.defined.now = grind (arith, nat_tests) in
    let item : Item = c.index-defined-at.result in
    let here : At c.args.defined.now c.args.at item = (lt, sym c.index-defined-at.is) in
    let done = c.in_ok-place-in-None.ensures in
    let free : is_named placed (name_of item) ≡ false =
    sym (so.lists (name_of item)) ∙ ap (λ n. is_some (place_in c.args.progress.now.placed n)) (sym c.name_of.ensures)
    ∙ ap is_some (sym c.find.ensures) ∙ sym c.is_some.ensures ∙ c.if-is_some.false in
    look_places c.args.table.now c.args.progress.now.placed c.place.new.progress.placed c.args.progress.now.waiters.items
    c.place.new.progress.waiters.items c.args.progress.now.text c.place.new.progress.text
    c.args.at c.args.progress.now.seen.keys c.place.new.progress.seen.keys placed c.args.defined.now item c.code_of-code.result.now
    here c.code_of-code.ensures free (c.in-None.ensures.none placed so.lists)
    (c.requires.own item (c.args.at, here.0, here.1)) (done.lists placed so.lists) done.text done.wakes so settled above
