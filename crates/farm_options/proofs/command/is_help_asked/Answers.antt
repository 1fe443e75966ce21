use Rattle.std.proofs.Common.{◌∙◌, string_bytes, Global}
use Rattle.farm_options.proofs.CommandLemmas.{nothing_asked, first_asked}
use Rattle.farm_options.proofs.command.is_help_asked.Goals as goal

pub returns-in-None : goal.returns-in-None
returns-in-None c = nothing_asked (string_bytes {Z = Global}) c.args.name c.args.words.now c.in-None.ensures.cases

pub returns-in-Some : goal.returns-in-Some
returns-in-Some c =
    c.is_help_word.ensures ∙ first_asked (string_bytes {Z = Global}) c.args.words.now c.in-Some.word.now c.in-Some.more.now
    c.as_str.result.now c.in-Some.ensures.cases.0 c.as_str.ensures.value c.args.name
