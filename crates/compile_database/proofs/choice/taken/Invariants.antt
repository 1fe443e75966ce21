use Rattle.std.proofs.Common.{◌≡◌, take}
use Rattle.compile_database.proofs.choice.taken.Given as goal

abbrev pub invariant-each : goal.invariant-each
invariant-each l = l.found ≡ take l.place-index l.part
