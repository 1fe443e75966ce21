use Rattle.std.proofs.Common.{◌<◌, ◌≤◌, ◌-◌, ◌+◌, ◌++◌, ◌∷◌, [], length, map, string_bytes, Global, sym, subst, ◌∙◌, arith}
use Rattle.std.proofs.lemmas.Result.{err_from_is_err_and}
use Rattle.sample_program.proofs.FetchLemmas.{FetchesTo, fetched_first, only_none, fetched_more, missed_then, missed_for_memory, name_at}
use Rattle.sample_program.specs.Fetches.{files_max}
use Rattle.sample_program.proofs.fetching.fetch_files.Goals as goal

pub loop-name-init : goal.loop-name-init
loop-name-init g c =
    let view = g.K.Keeper.shows c.args.keeper.now in
    let names = map (string_bytes {Z = Global}) c.args.names.now in
    subst (λ contents. FetchesTo names 0 files_max contents view view) (sym c.new-contents.ensures)
    (fetched_first view (only_none view c.requires) names)

pub loop-name-preserved : goal.loop-name-preserved
loop-name-preserved g c =
    let i = c.loop-name.name-index in
    let names = map (string_bytes {Z = Global}) c.args.names.now in
    let old = g.K.Keeper.shows c.args.keeper.now in
    let mid = g.K.Keeper.shows c.loop-name.keeper in
    let new = g.K.Keeper.shows c.fetch_file.new.keeper in
    let lt : i < length c.args.names.now = omega arith in
    let here = name_at c.args.names.now i c.name-item.result c.in_ok-name.name lt c.name-item.is
    (c.in_ok-name.ensures ∙ c.as_bytes.ensures.value) in
    let more = fetched_more names i c.loop-name.left c.loop-name.contents old mid new c.in_ok-name.name c.in_ok-content.content
    here.0 here.1
    c.loop-name.invariant c.fetch_file.ensures.only c.in_ok-content.ensures.took in
    subst (λ n. FetchesTo names (i + 1) (c.loop-name.left - n) c.try_push.new.self old new) (sym c.len.ensures)
    (subst (λ contents. FetchesTo names (i + 1) (c.loop-name.left - length c.in_ok-content.content) contents old new)
    (sym c.in_ok-try_push.ensures.ok) more)

pub returns-in_err-content-clause-missed : goal.returns-in_err-content-clause-missed
returns-in_err-content-clause-missed g c =
    let p = err_from_is_err_and c.from_residual-in_err-content.result c.from_residual-in_err-content.ensures.1 in
    let i = c.loop-name.name-index in
    let names = map (string_bytes {Z = Global}) c.args.names.now in
    let lt : i < length c.args.names.now = omega arith in
    let here = name_at c.args.names.now i c.name-item.result c.in_ok-name.name lt c.name-item.is
    (c.in_ok-name.ensures ∙ c.as_bytes.ensures.value) in
    rw (p.1, p.2) (missed_then names i c.loop-name.left c.loop-name.contents (g.K.Keeper.shows c.args.keeper.now)
    (g.K.Keeper.shows c.loop-name.keeper) (g.K.Keeper.shows c.fetch_file.new.keeper)
    c.in_ok-name.name c.in_err-content.field-0.0 here.0 here.1 c.loop-name.invariant c.fetch_file.ensures.only
    c.in_err-content.ensures.missed)

pub returns-in_err-try_push-clause-missed : goal.returns-in_err-try_push-clause-missed
returns-in_err-try_push-clause-missed g c =
    let p = err_from_is_err_and c.from_residual-in_err-try_push.result c.from_residual-in_err-try_push.ensures.1 in
    let i = c.loop-name.name-index in
    let names = map (string_bytes {Z = Global}) c.args.names.now in
    let lt : i < length c.args.names.now = omega arith in
    let here = name_at c.args.names.now i c.name-item.result c.in_ok-name.name lt c.name-item.is
    (c.in_ok-name.ensures ∙ c.as_bytes.ensures.value) in
    let more = fetched_more names i c.loop-name.left c.loop-name.contents (g.K.Keeper.shows c.args.keeper.now)
    (g.K.Keeper.shows c.loop-name.keeper) (g.K.Keeper.shows c.fetch_file.new.keeper)
    c.in_ok-name.name c.in_ok-content.content here.0 here.1 c.loop-name.invariant c.fetch_file.ensures.only c.in_ok-content.ensures.took in
    let few : i + 1 ≤ length names = omega (arith, here.0) in
    rw (p.1, p.2) (missed_for_memory names (i + 1) (c.loop-name.left - length c.in_ok-content.content)
    (c.loop-name.contents ++ c.in_ok-content.content ∷ [])
    (g.K.Keeper.shows c.args.keeper.now) (g.K.Keeper.shows c.fetch_file.new.keeper) few more)
