use Rattle.std.proofs.Common.{◌≡◌, drop, map, string_bytes, Global}
use Rattle.farm_options.specs.Environment.{value_of}
use Rattle.farm_options.proofs.environment.lookup.Given as goal

abbrev pub invariant-each : goal.invariant-each
invariant-each l =
    value_of (map (λ v. (string_bytes {Z = Global} v.0, string_bytes {Z = Global} v.1)) l.env) l.name
    ≡ value_of (map (λ v. (string_bytes {Z = Global} v.0, string_bytes {Z = Global} v.1)) (drop l.variable-index l.env)) l.name
