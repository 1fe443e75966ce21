use Rattle.std.proofs.Common.{string_bytes, Global, arith, sym, ◌∙◌}
use Rattle.std.proofs.lemmas.Grind.{common_steps}
use Rattle.farmd_options.proofs.Meaning.{named_more}
use Rattle.farmd_options.proofs.setting.is_named.Goals as goal

pub seeking-preserved : goal.seeking-preserved
seeking-preserved c =
    c.seeking.invariant
    ∙ named_more (string_bytes {Z = Global}) c.seeking.rest.now c.word-item.result c.value-item.result c.as_str.result.now
    c.as_bytes.result.now c.args.name.now
    c.in-len2-up.len_at_least c.word-item.is c.value-item.is c.as_str.ensures.value
    (grind (arith, common_steps, c.as_bytes.ensures.value, c.as_str-in-len2-up.ensures.value)) (sym c.names.ensures ∙ c.if-names.false)
