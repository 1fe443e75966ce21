use Rattle.std.proofs.Common.{◌≡◌, length, map, string_bytes, Global}
use Rattle.farmd_options.specs.Options.{named_in}
use Rattle.farmd_options.proofs.setting.is_named.Given as goal

abbrev pub invariant-seeking : goal.invariant-seeking
invariant-seeking l = named_in (map (string_bytes {Z = Global}) l.fn.before) l.name
    ≡ named_in (map (string_bytes {Z = Global}) l.rest) l.name

abbrev pub decreases-seeking : goal.decreases-seeking
decreases-seeking l = length l.rest
