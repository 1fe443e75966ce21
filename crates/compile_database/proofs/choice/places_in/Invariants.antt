use Rattle.std.proofs.Common.{◌≡◌, ◌++◌, map, drop}
use Rattle.serde_json.specs.View.{view}
use Rattle.compile_database.specs.Choices.{places, places_from, is_in}
use Rattle.compile_database.proofs.choice.places_in.Given as goal

abbrev pub invariant-each : goal.invariant-each
invariant-each l = places (is_in l.folder) (map view l.entries) ≡ l.found ++ places_from l.at (is_in l.folder)
    (map view (drop l.at l.entries))
