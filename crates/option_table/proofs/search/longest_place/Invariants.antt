use Rattle.option_table.specs.Searches.{IsLongestIn}
use Rattle.option_table.proofs.search.longest_place.Given as goal

abbrev pub invariant-loop-place : goal.invariant-loop-place
invariant-loop-place g l = IsLongestIn l.table l.word l.places l.place-index l.best
