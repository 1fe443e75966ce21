-- What the users of a mark know, the rule that ties it to the mark, and what each kind of step shows.
use Rattle.std.specs.Prelude.{◌≡◌, ℕ, Bool, true, false, List, [], ◌∷◌, ◌++◌, count_by}
use Rattle.edge_gates.specs.declared.marked.Marked.{Marked}
use Rattle.edge_gates.specs.declared.marked.Marked.TheVariants.{Clear, Set}
use Rattle.edge_gates.specs.declared.marked.Turn.{Turn}
use Rattle.edge_gates.specs.declared.marked.Turn.TheVariants.{Entered, Refused}
use Rattle.edge_gates.specs.declared.marked.MarkView.{MarkView}

abbrev pub marks_of : Marked → ℕ
marks_of Clear = 0
marks_of Set = 1

abbrev pub is_inside : MarkView → Bool
is_inside v = v.inside

-- a user that hasn't tried to enter
abbrev pub outsider : MarkView
outsider = record { inside = false; turns = [] }

-- exactly one user is inside if the mark is set, and none if it is clear
abbrev pub KeptAt : Marked → List MarkView → Type 0
KeptAt marked views = count_by is_inside views ≡ marks_of marked

-- the user enters if the mark was clear, and is refused if it was set
abbrev pub tried : MarkView → Marked → MarkView
tried v Clear = record { inside = true; turns = v.turns ++ Entered ∷ [] }
tried v Set = record { inside = v.inside; turns = v.turns ++ Refused ∷ [] }

abbrev pub EntersAt : MarkView → Marked → Marked → MarkView → Type 0
EntersAt v before after w = w ≡ tried v before

-- the user leaves
abbrev pub LeavesAt : MarkView → Marked → Marked → MarkView → Type 0
LeavesAt v before after w = w ≡ record { inside = false; turns = v.turns }

-- what a try met, by whether the user entered
abbrev pub turn_of : Bool → Turn
turn_of true = Entered
turn_of false = Refused
