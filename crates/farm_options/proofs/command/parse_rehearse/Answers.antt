use Rattle.std.proofs.Common.{◌∙◌, string_bytes, Global}
use Rattle.farm_options.proofs.CommandLemmas.{nothing_counted, first_counted}
use Rattle.farm_options.proofs.command.parse_rehearse.Goals as goal

pub returns-in-None : goal.returns-in-None
returns-in-None c = nothing_counted (string_bytes {Z = Global}) c.args.words.now c.in-None.ensures.cases

pub returns-in-Some : goal.returns-in-Some
returns-in-Some c =
    c.with_jobs.ensures ∙ first_counted (string_bytes {Z = Global}) c.args.words.now c.in-Some.word.now c.in-Some.field-0-1.now
    c.as_str.result.now c.in-Some.ensures.cases.0 c.as_str.ensures.value
