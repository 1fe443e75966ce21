use Rattle.std.proofs.Common.{string_bytes, Global, arith}
use Rattle.std.specs.Prelude.{Some, None}
use Rattle.std.proofs.lemmas.Grind.{common_steps}
use Rattle.farmd_options.proofs.Meaning.{all_rules, more_rules}
use Rattle.farmd_options.proofs.tables.rules_of.Goals as goal

pub returns : goal.returns
returns c = all_rules (string_bytes {Z = Global}) c.args.words.now c.gathering.rest.now c.gathering.found
    (omega (arith, c.in_default.len_below)) c.gathering.invariant

pub gathering-preserved-in_ok-try_push : goal.gathering-preserved-in_ok-try_push
gathering-preserved-in_ok-try_push c =
    more_rules (string_bytes {Z = Global}) c.args.words.now c.gathering.rest.now c.word-item.result c.value-item.result
    c.as_str.result.now c.as_bytes.result.now c.gathering.found _ (Some c.in-Some.rule)
    c.in-len2-up.len_at_least c.word-item.is c.value-item.is c.as_str.ensures.value
    (grind (arith, common_steps, c.as_bytes.ensures.value, c.as_str-in-len2-up.ensures.value)) c.in-Some.ensures
    (grind (arith, common_steps)) c.gathering.invariant

pub gathering-preserved : goal.gathering-preserved
gathering-preserved c =
    more_rules (string_bytes {Z = Global}) c.args.words.now c.gathering.rest.now c.word-item.result c.value-item.result
    c.as_str.result.now c.as_bytes.result.now c.gathering.found c.gathering.found None
    c.in-len2-up.len_at_least c.word-item.is c.value-item.is c.as_str.ensures.value
    (grind (arith, common_steps, c.as_bytes.ensures.value, c.as_str-in-len2-up.ensures.value)) c.in_default-rule_in.ensures
    (grind (arith, common_steps)) c.gathering.invariant
