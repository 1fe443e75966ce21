use Rattle.std.proofs.Common.{◌≡◌, true, take}
use Rattle.std.specs.List.{list_all}
use Rattle.std.specs.Str.{is_utf8}
use Rattle.compile_database.proofs.jobs.are_utf8.Given as goal

abbrev pub invariant-each : goal.invariant-each
invariant-each l = list_all is_utf8 (take l.word-index l.word-items) ≡ true
