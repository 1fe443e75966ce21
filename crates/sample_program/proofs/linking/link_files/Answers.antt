use Rattle.std.proofs.Common.{◌∙◌, map, string_bytes, Global, subst}
use Rattle.std.specs.Prelude.{IfOk}
use Rattle.std.proofs.lemmas.Result.{err_from_is_err_and}
use Rattle.sample_program.specs.Links.{DidLink}
use Rattle.sample_program.proofs.LinkLemmas.{stopped_none, put_came, missed_came}
use Rattle.sample_program.proofs.linking.link_files.Goals as goal

pub returns-in_err-name-clause-stop : goal.returns-in_err-name-clause-stop
returns-in_err-name-clause-stop g c =
    let p = err_from_is_err_and c.from_residual.result c.from_residual.ensures.1 in
    rw (p.1, p.2) (stopped_none (map (string_bytes {Z = Global}) c.args.files.now) (g.K.Keeper.shows c.args.keeper.now) c.requires.idle)

pub returns-in-Ok-clause-ran : goal.returns-in-Ok-clause-ran
returns-in-Ok-clause-ran g c =
    let files = map (string_bytes {Z = Global}) c.args.files.now in
    let old = g.K.Keeper.shows c.args.keeper.now in
    let new = g.K.Keeper.shows c.put_linked.new.keeper in
    subst (λ image. IfOk c.put_linked.result (DidLink files image old new)) (c.in_ok-name.ensures ∙ c.as_bytes.ensures.value)
    (put_came files c.in-Ok.objects c.in_ok-name.name c.link.result old (g.K.Keeper.shows c.fetch_files.new.keeper) new
    c.put_linked.result c.fetch_files.ensures.only c.in-Ok.ensures.took
    c.link.ensures.linked c.put_linked.ensures.ran)

pub returns-clause-ran : goal.returns-clause-ran
returns-clause-ran g c =
    missed_came (map (string_bytes {Z = Global}) c.args.files.now) (string_bytes c.args.image.now)
    (g.K.Keeper.shows c.args.keeper.now) (g.K.Keeper.shows c.fetch_files.new.keeper) c.in-Err.stop
    c.missed_ran.result c.fetch_files.ensures.only c.in-Err.ensures.missed c.missed_ran.ensures.ran
