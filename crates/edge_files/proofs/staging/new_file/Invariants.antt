use Rattle.edge_files.specs.OwnNames.{names_view, SameOwner}
use Rattle.edge_files.proofs.staging.new_file.Given as goal

abbrev pub invariant-loop : goal.invariant-loop
invariant-loop g l = SameOwner (names_view l.fn.names) (names_view l.names)
