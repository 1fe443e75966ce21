use Rattle.std.proofs.Common.{map, string_bytes, Global}
use Rattle.sample_program.proofs.FetchLemmas.{FetchesTo}
use Rattle.sample_program.proofs.fetching.fetch_files.Given as goal

abbrev pub invariant-loop-name : goal.invariant-loop-name
invariant-loop-name g l =
    FetchesTo (map (string_bytes {Z = Global}) l.names) l.name-index l.left l.contents (g.K.Keeper.shows l.fn.keeper)
    (g.K.Keeper.shows l.keeper)
