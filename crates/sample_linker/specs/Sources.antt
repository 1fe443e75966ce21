-- Assignments of numbers that fit sources, and what linking their objects promises.
use Rattle.std.specs.Prelude.{ℕ, ◌≡◌, ◌<◌, ◌^◌, List, [], ◌∷◌, map, true, false, None}
use Rattle.std.specs.List.{flat_map}
use Rattle.sample_lang.specs.declared.program.Item.{Item}
use Rattle.sample_lang.specs.Names.{is_named}
use Rattle.sample_lang.specs.Sources.{SourceOf}
use Rattle.sample_lang.specs.Values.{Numbers, FormsHold}
use Rattle.sample_linker.specs.declared.faults.Linked.{Linked}
use Rattle.sample_linker.specs.declared.faults.Linked.TheVariants as linked
use Rattle.sample_linker.specs.declared.running.RunFault.TheVariants.{BadImage, NoMain}
use Rattle.sample_linker.specs.declared.running.Value.{Value}
use Rattle.sample_linker.specs.declared.running.Value.TheVariants as values
use Rattle.sample_compiler.specs.Objects.{items_text}
use Rattle.sample_linker.specs.Orders.{LeadTo}
use Rattle.sample_linker.specs.Links.{definitions, doubled, unresolved, IsLinked}
use Rattle.sample_linker.specs.Values.{main_name, IsValue}

-- the texts are sources of these items
abbrev pub AreSources : List (List ℕ) → List (List Item) → Type 0
AreSources [] [] = Unit {0}
AreSources (text ∷ texts) (items ∷ files) = SourceOf text items × AreSources texts files
AreSources [] (items ∷ files) = ⊥
AreSources (text ∷ texts) [] = ⊥

-- ---- the equations

-- for each `int n = e` of the source the number of n is the value of e, if each name in e means its number
abbrev pub FitsText : Numbers → List ℕ → Type 0
FitsText numbers text = (items : List Item) × (source : SourceOf text items) × FormsHold numbers source.forms

abbrev pub FitsTexts : Numbers → List (List ℕ) → Type 0
FitsTexts numbers [] = Unit {0}
FitsTexts numbers (text ∷ texts) = FitsText numbers text × FitsTexts numbers texts

-- the assignment fits the sources: its numbers are below 2 to the 64, and solve the equations of all of them
pub record FitsSources (texts : List (List ℕ)) (numbers : Numbers) : Type 0 where
  pub small : (name : List ℕ) → numbers name < 2 ^ 64
  pub solves : FitsTexts numbers texts

-- ---- what can be linked

-- the definition of the name uses the name, through any others
abbrev pub UsesItself : List Item → List ℕ → Type 0
UsesItself defined name = (through : List (List ℕ)) × LeadTo defined name (name ∷ through)

-- no name is defined twice, each needed name is defined, and no definition uses itself through others
pub record CanLink (items : List Item) : Type 0 where
  pub once : doubled [] (definitions items) ≡ None
  pub met : unresolved (definitions items) items ≡ None
  pub straight : (name : List ℕ) → UsesItself (definitions items) name → ⊥

-- ---- the promise

-- an assignment fits, and each that fits has the same numbers for the defined names
pub record FitOnce (texts : List (List ℕ)) (items : List Item) : Type 0 where
  pub some : (numbers : Numbers) × FitsSources texts numbers
  pub one : (a b : Numbers) (name : List ℕ) → FitsSources texts a → FitsSources texts b → is_named (definitions items) name ≡ true
      → a name ≡ b name

-- the value is the number of `main`, which is defined; or it isn't defined
abbrev pub MainFits : List (List ℕ) → List Item → Value → Type 0
MainFits texts items (values.Number n) = (is_named (definitions items) main_name ≡ true)
    × ((numbers : Numbers) → FitsSources texts numbers → numbers main_name ≡ n)
MainFits texts items (values.Fault NoMain) = is_named (definitions items) main_name ≡ false
MainFits texts items (values.Fault (BadImage line)) = ⊥
MainFits texts items values.Memory = Unit {0}

-- An image comes only if the objects can be linked; then one assignment fits, and running the image gives its number of `main`. A fault comes only if
-- they can't be linked. Memory may run out in both cases.
abbrev pub Promised : List (List ℕ) → List Item → Linked → Type 0
Promised texts items (linked.Image image) = CanLink items × FitOnce texts items
    × ((value : Value) → IsValue image value → MainFits texts items value)
Promised texts items (linked.Fault fault) = CanLink items → ⊥
Promised texts items linked.Memory = Unit {0}

-- the items of all files, by file and line
abbrev pub together : List (List Item) → List Item
together files = flat_map (λ items. items) files

-- whatever linking the objects of sources returns keeps the promise
abbrev pub LinksSources : Type 0
LinksSources = (texts : List (List ℕ)) (files : List (List Item)) (answer : Linked) → AreSources texts files
    → IsLinked (map items_text files) answer → Promised texts (together files) answer
