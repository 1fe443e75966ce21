use Rattle.std.proofs.Common.{take}
use Rattle.compile_database.proofs.LineLemmas.{IsText}
use Rattle.compile_database.proofs.listing.lines_of.Given as goal

abbrev pub invariant-each : goal.invariant-each
invariant-each l = IsText l.list (take l.words-index l.words-items)
