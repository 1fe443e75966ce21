use Rattle.std.proofs.Common.{string_bytes, Global, sym, ◌∙◌}
use Rattle.farmd_options.proofs.Meaning.{given_more}
use Rattle.farmd_options.proofs.setting.is_given.Goals as goal

pub seeking-preserved : goal.seeking-preserved
seeking-preserved c =
    c.seeking.invariant
    ∙ given_more (string_bytes {Z = Global}) c.seeking.rest.now c.word-item.result c.as_str.result.now c.args.name.now
    c.in-len2-up.len_at_least c.word-item.is c.as_str.ensures.value (sym c.eq.ensures ∙ c.if-eq.false)
