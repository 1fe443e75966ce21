-- The stops of the linker before it places definitions.
use Rattle.std.specs.Prelude.{ℕ, ◌≡◌, List, Option, Some, Result, Err, true}
use Rattle.sample_lang.specs.declared.program.Item.{Item}
use Rattle.sample_lang.specs.Names.{is_named}
use Rattle.sample_linker.specs.Links.{LinkTo}
use Rattle.sample_linker.specs.declared.faults.LinkFault.TheVariants.{BadObject, Doubled, Unresolved, Circular}
use Rattle.sample_linker.specs.declared.faults.Linked.TheVariants as linked
use Rattle.sample_linker.specs.declared.faults.LinkStop.{LinkStop}
use Rattle.sample_linker.specs.declared.faults.LinkStop.TheVariants.{Fault, Memory}

-- the object and the line are the first that aren't right, or memory ran out
abbrev pub IsObjectStop : Result (List Item) (ℕ × ℕ) → LinkStop → Type 0
IsObjectStop outcome (Fault (BadObject file line)) = outcome ≡ Err (file, line)
IsObjectStop outcome (Fault (Doubled name)) = ⊥
IsObjectStop outcome (Fault (Unresolved name)) = ⊥
IsObjectStop outcome (Fault (Circular names)) = ⊥
IsObjectStop outcome Memory = Unit {0}

-- the name is the first that is defined again, or memory ran out
abbrev pub IsDoubledStop : Option (List ℕ) → LinkStop → Type 0
IsDoubledStop found (Fault (Doubled name)) = found ≡ Some name
IsDoubledStop found (Fault (BadObject file line)) = ⊥
IsDoubledStop found (Fault (Unresolved name)) = ⊥
IsDoubledStop found (Fault (Circular names)) = ⊥
IsDoubledStop found Memory = Unit {0}

-- the name is the first that is needed and not defined, or memory ran out
abbrev pub IsUnresolvedStop : Option (List ℕ) → LinkStop → Type 0
IsUnresolvedStop found (Fault (Unresolved name)) = found ≡ Some name
IsUnresolvedStop found (Fault (BadObject file line)) = ⊥
IsUnresolvedStop found (Fault (Doubled name)) = ⊥
IsUnresolvedStop found (Fault (Circular names)) = ⊥
IsUnresolvedStop found Memory = Unit {0}

-- the line of the object with this number is the first that isn't right, or memory ran out
abbrev pub IsFileStop : ℕ → Result (List Item) ℕ → LinkStop → Type 0
IsFileStop file outcome (Fault (BadObject there line)) = (there ≡ file) × (outcome ≡ Err line)
IsFileStop file outcome (Fault (Doubled name)) = ⊥
IsFileStop file outcome (Fault (Unresolved name)) = ⊥
IsFileStop file outcome (Fault (Circular names)) = ⊥
IsFileStop file outcome Memory = Unit {0}

-- the items have the name already, or memory ran out
abbrev pub IsNamedStop : List Item → List ℕ → LinkStop → Type 0
IsNamedStop items name (Fault (Doubled other)) = (other ≡ name) × (is_named items name ≡ true)
IsNamedStop items name (Fault (BadObject file line)) = ⊥
IsNamedStop items name (Fault (Unresolved other)) = ⊥
IsNamedStop items name (Fault (Circular names)) = ⊥
IsNamedStop items name Memory = Unit {0}

-- the fault is the result for these objects, or memory ran out
abbrev pub IsLinkStop : List (List ℕ) → LinkStop → Type 0
IsLinkStop objects (Fault fault) = LinkTo objects (linked.Fault fault)
IsLinkStop objects Memory = Unit {0}
