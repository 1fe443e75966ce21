use Rattle.std.proofs.Common.{map, string_bytes, Global}
use Rattle.farm_options.specs.Commands.{command_meant}
use Rattle.farm_options.proofs.CommandLemmas.{answers, nothing_first, first_read}
use Rattle.farm_options.proofs.command.parse_command.Goals as goal

pub returns-in-None : goal.returns-in-None
returns-in-None c = nothing_first (string_bytes {Z = Global}) c.args.words.now c.in-None.ensures.cases

pub returns-in-Some : goal.returns-in-Some
returns-in-Some c =
    answers c.parse_after.result (map (string_bytes {Z = Global}) c.args.words.now)
    (first_read (string_bytes {Z = Global}) c.args.words.now c.in-Some.first.now c.in-Some.rest.now c.as_str.result.now
    c.in-Some.ensures.cases.0 c.as_str.ensures.value (command_meant c.parse_after.result) c.parse_after.ensures)
