use Rattle.std.proofs.Common.{length, ltb-true, sym, ◌∙◌}
use Rattle.sample_program.proofs.FormLemmas.{file_is}
use Rattle.sample_program.proofs.messages.file_name.Goals as goal

pub returns-in-Some-get : goal.returns-in-Some-get
returns-in-Some-get c =
    let found = c.in-Some-get.ensures.lookup in
    c.as_bytes.ensures.value
    ∙ file_is c.args.files.now c.args.file c.in-Some.at c.in-Some-get.name.now c.in-Some.ensures.0 c.in-Some.ensures.1
    (ltb-true c.in-Some.at (length c.args.files.now) (sym found.0)) found.1
