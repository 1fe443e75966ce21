use Rattle.std.proofs.Common.{◌∙◌, string_bytes, subst}
use Rattle.std.proofs.lemmas.Result.{err_from_is_err_and}
use Rattle.sample_program.specs.Fetches.{files_max, Took, Missed}
use Rattle.sample_program.proofs.LinkLemmas.{image_stopped, did_run_image, image_came}
use Rattle.sample_program.proofs.linking.run_image.Goals as goal

pub returns-in_err-value_ran-in-Ok-clause-stop : goal.returns-in_err-value_ran-in-Ok-clause-stop
returns-in_err-value_ran-in-Ok-clause-stop g c =
    let p = err_from_is_err_and c.from_residual-in_err-value_ran-in-Ok.result c.from_residual-in_err-value_ran-in-Ok.ensures.1 in
    let old = g.K.Keeper.shows c.args.keeper.now in
    let mid = g.K.Keeper.shows c.fetch_file.new.keeper in
    rw (p.1, p.2) (image_stopped (string_bytes c.args.image.now) c.in-Ok.content old mid c.fetch_file.ensures.only
    (subst (λ image. Took image files_max old mid c.in-Ok.content) (c.in_ok-name.ensures ∙ c.as_bytes.ensures.value) c.in-Ok.ensures.took))

pub returns-in-Ok-clause-ran : goal.returns-in-Ok-clause-ran
returns-in-Ok-clause-ran g c =
    let old = g.K.Keeper.shows c.args.keeper.now in
    let mid = g.K.Keeper.shows c.fetch_file.new.keeper in
    did_run_image (string_bytes c.args.image.now) c.in-Ok.content c.run.result old mid c.in_ok-value_ran-in-Ok.field-0
    c.fetch_file.ensures.only
    (subst (λ image. Took image files_max old mid c.in-Ok.content) (c.in_ok-name.ensures ∙ c.as_bytes.ensures.value)
    c.in-Ok.ensures.took) c.run.ensures c.in_ok-value_ran-in-Ok.ensures

pub returns-clause-ran : goal.returns-clause-ran
returns-clause-ran g c =
    let old = g.K.Keeper.shows c.args.keeper.now in
    let mid = g.K.Keeper.shows c.fetch_file.new.keeper in
    image_came (string_bytes c.args.image.now) old mid c.in-Err.stop c.missed_ran.result c.fetch_file.ensures.only
    (subst (λ image. Missed image files_max old mid c.in-Err.stop) (c.in_ok-name.ensures ∙ c.as_bytes.ensures.value)
    c.in-Err.ensures.missed) c.missed_ran.ensures.ran
