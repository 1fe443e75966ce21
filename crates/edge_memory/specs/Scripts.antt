-- What the front of a script is.
use Rattle.std.specs.Prelude.{List, [], ◌∷◌}
use Rattle.edge_memory.specs.declared.script.Moves.{Moves}
use Rattle.edge_memory.specs.declared.script.LinkScript.{LinkScript}

-- the first element, or another value if there is none
abbrev pub first_or : {T : Type 0} → T → List T → T
first_or other [] = other
first_or other (x ∷ xs) = x

-- the script of a link that ends at once
abbrev pub ends_at_once : LinkScript
ends_at_once = record { gives = []; moves = record { fails = []; zeros = []; most = 4294967295 } }

-- a script without calls that fail
abbrev pub never_moves : Moves → Moves
never_moves moves = record moves { fails = [] }

abbrev pub never_script : LinkScript → LinkScript
never_script script = record script { moves = never_moves script.moves }
