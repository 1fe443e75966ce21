use Rattle.std.proofs.Common.{map, take}
use Rattle.serde_json.specs.View.{view}
use Rattle.compile_database.specs.Databases.{AreEntries}
use Rattle.compile_database.proofs.jobs.jobs_at.Given as goal

abbrev pub invariant-each : goal.invariant-each
invariant-each l = AreEntries (map view l.entries) (take l.place-index l.places) l.jobs
