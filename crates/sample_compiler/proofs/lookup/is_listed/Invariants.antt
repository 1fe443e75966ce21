use Rattle.std.proofs.Common.{◌≡◌, drop}
use Rattle.sample_compiler.specs.Lookups.{is_listed}
use Rattle.sample_compiler.proofs.lookup.is_listed.Given as goal

abbrev pub invariant-loop-listed : goal.invariant-loop-listed
invariant-loop-listed l = is_listed l.names l.name ≡ is_listed (drop l.listed-index l.names) l.name
