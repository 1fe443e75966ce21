use Rattle.std.proofs.Common.{◌≡◌, ◌+◌, ◌-◌, ◌<◌, ◌≤◌, ◌++◌, ◌∷◌, [], List, ℕ, false, length, ap, sym, subst, ◌∙◌, arith}
use Rattle.std.specs.Prelude.{not, unwrap_or}
use Rattle.std.specs.List.{list_any}
use Rattle.std.specs.Option.{is_some}
use Rattle.std.specs.Str.{bytes_eq}
use Rattle.std.proofs.lemmas.List.{length-append}
use Rattle.sample_linker.specs.Tables.{place_in}
use Rattle.sample_linker.proofs.Places.{any_place, indexes_more}
use Rattle.sample_linker.proofs.Rounds.{WalksTo, walk_none, walk_more, walk_few, walk_round, some_at}
use Rattle.sample_linker.proofs.circle.find_round.Goals as goal

pub walking-init : goal.walking-init
walking-init c = walk_none c.args.table.now c.args.placed.now c.new-met.result c.args.defined.now c.new-path.result c.args.start.now
    c.new-path.ensures c.new-met.ensures c.requires.left

pub walking-preserved : goal.walking-preserved
walking-preserved c =
    let at : List ℕ = c.walking.at.now in
    let path : List (List ℕ) = c.walking.path in
    let walks = c.walking.invariant in
    let fresh : list_any (bytes_eq at) path ≡ false =
    sym (any_place (bytes_eq at) 0 path) ∙ ap is_some (sym (walks.met_so at)) ∙ ap is_some (sym c.find.ensures) ∙ c.is_none.ensures
    ∙ ap not c.walking-test.true in
    let grown : c.try_push.new.self ≡ path ++ at ∷ [] = c.in_ok-try_push.ensures.ok
    ∙ ap (λ name. path ++ name ∷ []) c.in_ok-from_slice.ensures in
    subst (λ p. WalksTo c.args.table.now c.args.placed.now c.try_add.new.self c.args.defined.now p c.next_left-at.result.now) (sym grown)
    (walk_more c.args.table.now c.args.placed.now c.walking.met c.try_add.new.self c.args.defined.now path at
    c.next_left-at.result.now c.requires.indexes walks fresh
    (indexes_more c.walking.met c.try_add.new.self path at c.len.result walks.met_so fresh c.len.ensures c.in_ok-try_add.ensures)
    c.next_left-at.ensures.uses c.next_left-at.ensures.left)

pub walking-smaller : goal.walking-smaller
walking-smaller c =
    let at : List ℕ = c.walking.at.now in
    let path : List (List ℕ) = c.walking.path in
    let walks = c.walking.invariant in
    let fresh : list_any (bytes_eq at) path ≡ false =
    sym (any_place (bytes_eq at) 0 path) ∙ ap is_some (sym (walks.met_so at)) ∙ ap is_some (sym c.find.ensures) ∙ c.is_none.ensures
    ∙ ap not c.walking-test.true in
    let grown : c.try_push.new.self ≡ path ++ at ∷ [] = c.in_ok-try_push.ensures.ok
    ∙ ap (λ name. path ++ name ∷ []) c.in_ok-from_slice.ensures in
    let next = walk_more c.args.table.now c.args.placed.now c.walking.met c.try_add.new.self c.args.defined.now path at
    c.next_left-at.result.now c.requires.indexes walks fresh
    (indexes_more c.walking.met c.try_add.new.self path at c.len.result walks.met_so fresh c.len.ensures c.in_ok-try_add.ensures)
    c.next_left-at.ensures.uses c.next_left-at.ensures.left in
    let few : length (path ++ at ∷ []) ≤ length c.args.defined.now =
    walk_few c.args.table.now c.args.placed.now c.try_add.new.self c.args.defined.now (path ++ at ∷ []) c.next_left-at.result.now next in
    let more : length (path ++ at ∷ []) ≡ length path + 1 = length-append path (at ∷ []) in
    let less : length c.args.defined.now - length c.try_push.new.self < length c.args.defined.now - length path =
    subst (λ p. length c.args.defined.now - length p < length c.args.defined.now - length path) (sym grown) (omega (arith, few, more)) in
    less

pub returns : goal.returns
returns c =
    let at : List ℕ = c.walking.at.now in
    walk_round c.args.table.now c.args.placed.now c.walking.met c.args.defined.now c.walking.path at c.unwrap_or-from.result
    c.walking.invariant
    (some_at (place_in c.walking.met at) c.unwrap_or-from.result (ap is_some (sym c.find.ensures) ∙ c.is_none.ensures
    ∙ ap not c.walking-test.false)
    (c.unwrap_or-from.ensures ∙ ap (λ o. unwrap_or o 0) c.find-2.ensures))
