use Rattle.std.proofs.Common.{◌≡◌, map, drop}
use Rattle.serde_json.specs.View.{view}
use Rattle.compile_database.specs.Choices.{places, places_from, is_placeless}
use Rattle.compile_database.proofs.choice.first_placeless.Given as goal

abbrev pub invariant-each : goal.invariant-each
invariant-each l = places is_placeless (map view l.entries) ≡ places_from l.at is_placeless (map view (drop l.at l.entries))
