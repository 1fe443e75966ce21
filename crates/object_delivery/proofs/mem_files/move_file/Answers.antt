use Rattle.std.proofs.Common.{◌≡◌, ◌∙◌, sym, ap, true, false, not}
use Rattle.std.specs.Prelude.{Some}
use Rattle.std.specs.FinMap.{get, insert, remove}
use Rattle.object_delivery.proofs.FileMapLemmas.{is_name, named, moved-away, moved-nowhere}
use Rattle.object_delivery.proofs.mem_files.move_file.Goals as goal

pub returns-then-ne-clause-ok : goal.returns-then-ne-clause-ok
returns-then-ne-clause-ok c =
    let there : get c.args.files.now c.args.from.now ≡ Some c.in_ok-content.content =
    sym c.in-Some.ensures ∙ ap (λ bytes. Some bytes) (sym c.in_ok-content.ensures) in
    let put : c.try_put.new.self ≡ insert c.args.files.now c.args.to.now c.in_ok-content.content = c.in_ok-try_put.ensures.ok
    ∙ ap (λ name. insert c.args.files.now name c.in_ok-content.content) c.in_ok-copy.ensures in
    let other : is_name c.args.from.now c.args.to.now ≡ false =
    named _ _ c.args.from.now c.args.to.now c.ne.result c.ne.ensures c.as_slice.ensures c.as_slice-2.ensures
    ∙ ap (λ b. not b) c.if-ne.true in
    c.remove.ensures ∙ ap (λ files. remove files c.args.from.now) put
    ∙ moved-away c.args.files.now c.args.from.now c.args.to.now c.in_ok-content.content there other

pub returns-else-ne-clause-ok : goal.returns-else-ne-clause-ok
returns-else-ne-clause-ok c =
    let there : get c.args.files.now c.args.from.now ≡ Some c.in_ok-content.content =
    sym c.in-Some.ensures ∙ ap (λ bytes. Some bytes) (sym c.in_ok-content.ensures) in
    let put : c.try_put.new.self ≡ insert c.args.files.now c.args.to.now c.in_ok-content.content = c.in_ok-try_put.ensures.ok
    ∙ ap (λ name. insert c.args.files.now name c.in_ok-content.content) c.in_ok-copy.ensures in
    let same : is_name c.args.from.now c.args.to.now ≡ true =
    named _ _ c.args.from.now c.args.to.now c.ne.result c.ne.ensures c.as_slice.ensures c.as_slice-2.ensures
    ∙ ap (λ b. not b) c.if-ne.false in
    put ∙ moved-nowhere c.args.files.now c.args.from.now c.args.to.now c.in_ok-content.content there same
