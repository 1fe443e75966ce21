-- What linking returns.
use Rattle.std.specs.Prelude.{ℕ, ◌≡◌, List, [], ◌∷◌, ◌++◌, codes, Bool, true, false, if◌then◌else◌, Option, Some, None, MatchOption}
use Rattle.std.specs.Prelude.{MatchResult}
use Rattle.std.specs.List.{filter, flat_map}
use Rattle.sample_lang.specs.declared.program.Item.{Item}
use Rattle.sample_lang.specs.declared.program.Item.TheVariants.{Extern, Def}
use Rattle.sample_lang.specs.Names.{is_named, name_of}
use Rattle.sample_compiler.specs.Objects.{item_line}
use Rattle.sample_linker.specs.declared.faults.LinkFault.TheVariants.{BadObject, Doubled, Unresolved, Circular}
use Rattle.sample_linker.specs.declared.faults.Linked.{Linked}
use Rattle.sample_linker.specs.declared.faults.Linked.TheVariants as linked
use Rattle.sample_linker.specs.Files.{objects_items}
use Rattle.sample_linker.specs.Orders.{IsImageOrder, IsCircle}

abbrev pub is_definition : Item → Bool
is_definition (Extern name) = false
is_definition (Def name code) = true

-- the definitions, by file and line
abbrev pub definitions : List Item → List Item
definitions items = filter is_definition items

-- The first name of these definitions that an earlier one has. In one file no name is defined twice, so the earlier one is in an
-- earlier file.
abbrev pub doubled : List Item → List Item → Option (List ℕ)
doubled earlier [] = None
doubled earlier (item ∷ items) = if is_named earlier (name_of item) then Some (name_of item) else doubled (earlier ++ item ∷ []) items

-- the first need of a name that no definition has
abbrev pub unresolved : List Item → List Item → Option (List ℕ)
unresolved defined [] = None
unresolved defined (Def name code ∷ items) = unresolved defined items
unresolved defined (Extern name ∷ items) = if is_named defined name then unresolved defined items else Some name

-- `SCP1`, and then a line for each definition
abbrev pub image_of : List Item → List ℕ
image_of order = codes "SCP1\n" ++ flat_map item_line order

-- the definitions can be placed, or go round
abbrev pub OrderedTo : List Item → Linked → Type 0
OrderedTo defined (linked.Image image) = (order : List Item) × IsImageOrder defined [] order × (image ≡ image_of order)
OrderedTo defined (linked.Fault (Circular names)) = IsCircle defined names
OrderedTo defined (linked.Fault (BadObject file line)) = ⊥
OrderedTo defined (linked.Fault (Doubled name)) = ⊥
OrderedTo defined (linked.Fault (Unresolved name)) = ⊥
OrderedTo defined linked.Memory = ⊥

-- the result for the items of all files, by file and line
abbrev pub ItemsLinkTo : List Item → Linked → Type 0
ItemsLinkTo items answer =
    MatchOption (doubled [] (definitions items))
    (MatchOption (unresolved (definitions items) items)
    (OrderedTo (definitions items) answer)
    (λ name. answer ≡ linked.Fault (Unresolved name)))
    (λ name. answer ≡ linked.Fault (Doubled name))

-- the result for these objects
abbrev pub LinkTo : List (List ℕ) → Linked → Type 0
LinkTo objects answer =
    MatchResult (objects_items [] 1 objects) (λ items. ItemsLinkTo items answer) (λ at. answer ≡ linked.Fault (BadObject at.0 at.1))

-- the same, unless memory ran out
abbrev pub IsLinked : List (List ℕ) → Linked → Type 0
IsLinked objects linked.Memory = Unit {0}
IsLinked objects (linked.Image image) = LinkTo objects (linked.Image image)
IsLinked objects (linked.Fault fault) = LinkTo objects (linked.Fault fault)
