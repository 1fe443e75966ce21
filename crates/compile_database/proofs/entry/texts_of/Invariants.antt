use Rattle.std.proofs.Common.{◌≡◌, ◌++◌, map, drop}
use Rattle.std.specs.Prelude.{option_map}
use Rattle.serde_json.specs.View.{view}
use Rattle.compile_database.specs.Entries as entries
use Rattle.compile_database.proofs.entry.texts_of.Given as goal

abbrev pub invariant-each : goal.invariant-each
invariant-each l = entries.texts_of (map view l.items) ≡ option_map (λ more. l.texts ++ more)
    (entries.texts_of (map view (drop l.item-index l.items)))
