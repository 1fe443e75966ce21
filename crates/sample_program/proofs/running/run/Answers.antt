use Rattle.std.proofs.Common.{ap, ◌∙◌, map, string_bytes, Global}
use Rattle.std.proofs.lemmas.Result.{err_from_is_err_and}
use Rattle.sample_compiler.specs.Tasks.{task_of}
use Rattle.sample_program.proofs.RunLemmas.{loaded, stopped_loaded, stopped_put, did_run}
use Rattle.sample_program.proofs.running.run.Goals as goal

pub returns-in_err-put_object-clause-stop : goal.returns-in_err-put_object-clause-stop
returns-in_err-put_object-clause-stop g c =
    let p = err_from_is_err_and c.from_residual-in_err-put_object.result c.from_residual-in_err-put_object.ensures.1 in
    let words = map (string_bytes {Z = Global}) c.args.words.now in
    let before = g.K.Keeper.shows c.args.keeper.now in
    let mid = g.K.Keeper.shows c.load.new.keeper in
    let after = g.K.Keeper.shows c.put_object.new.keeper in
    let done = loaded words c.in_ok-words.words before mid c.in_ok-words.ensures c.in-Ok.ensures.only c.in-Ok.ensures.went.calm
    c.in-Ok.ensures.fetched c.in-Ok.ensures.went.missed in
    rw (p.1, p.2) (stopped_put words before mid after c.in_err-put_object.field-0.0 done c.in_err-put_object.ensures.err
    c.put_object.ensures.none c.in_err-put_object.ensures.cause)

pub returns-clause-ran : goal.returns-clause-ran
returns-clause-ran g c =
    let words = map (string_bytes {Z = Global}) c.args.words.now in
    let before = g.K.Keeper.shows c.args.keeper.now in
    let mid = g.K.Keeper.shows c.load.new.keeper in
    let after = g.K.Keeper.shows c.put_object.new.keeper in
    let done = loaded words c.in_ok-words.words before mid c.in_ok-words.ensures c.in-Ok.ensures.only c.in-Ok.ensures.went.calm
    c.in-Ok.ensures.fetched c.in-Ok.ensures.went.missed in
    did_run words c.in_ok-words.words before mid after c.in-Ok.files c.in_ok-ran.ran c.in_ok-asked.asked c.in_ok-words.ensures done
    c.in-Ok.ensures.same c.in_ok-ran.ensures (c.in_ok-asked.ensures.task ∙ ap task_of c.as_slice.ensures)
    c.in_ok-put_object.ensures.ok c.put_object.ensures.none c.in_ok-put_object.ensures.calm

pub returns-in_err-asked-clause-stop : goal.returns-in_err-asked-clause-stop
returns-in_err-asked-clause-stop g c =
    let p = err_from_is_err_and c.from_residual-in_err-asked.result c.from_residual-in_err-asked.ensures.1 in
    let words = map (string_bytes {Z = Global}) c.args.words.now in
    let before = g.K.Keeper.shows c.args.keeper.now in
    let mid = g.K.Keeper.shows c.load.new.keeper in
    rw (p.1, p.2) (stopped_loaded words before mid
    (loaded words c.in_ok-words.words before mid c.in_ok-words.ensures c.in-Ok.ensures.only c.in-Ok.ensures.went.calm
    c.in-Ok.ensures.fetched c.in-Ok.ensures.went.missed))

pub returns-in_err-ran-clause-stop : goal.returns-in_err-ran-clause-stop
returns-in_err-ran-clause-stop g c =
    let p = err_from_is_err_and c.from_residual-in_err-ran.result c.from_residual-in_err-ran.ensures.1 in
    let words = map (string_bytes {Z = Global}) c.args.words.now in
    let before = g.K.Keeper.shows c.args.keeper.now in
    let mid = g.K.Keeper.shows c.load.new.keeper in
    rw (p.1, p.2) (stopped_loaded words before mid
    (loaded words c.in_ok-words.words before mid c.in_ok-words.ensures c.in-Ok.ensures.only c.in-Ok.ensures.went.calm
    c.in-Ok.ensures.fetched c.in-Ok.ensures.went.missed))
