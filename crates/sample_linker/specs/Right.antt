-- Which items can be in an object or an image, and which texts are right: the same as Files says, from an item to its text.
use Rattle.std.specs.Prelude.{ℕ, ◌≡◌, ◌<◌, ◌^◌, List, [], ◌∷◌, ◌++◌, true}
use Rattle.std.specs.List.{flat_map}
use Rattle.farm_types.specs.Bytes.{line_feed}
use Rattle.sample_lang.specs.declared.program.Part.{Part}
use Rattle.sample_lang.specs.declared.program.Part.TheVariants.{Number, Name, Add, Sub, Mul}
use Rattle.sample_lang.specs.declared.program.Item.{Item}
use Rattle.sample_lang.specs.declared.program.Item.TheVariants.{Extern, Def}
use Rattle.sample_lang.specs.Names.{AreDeclared}
use Rattle.sample_compiler.specs.Objects.{item_line}
use Rattle.sample_linker.specs.declared.kind.Kind.{Kind}
use Rattle.sample_linker.specs.Lines.{heading, has_needs, is_name, leaves_one}

-- a number is below 2 to the 64, and a name is one of the language
abbrev pub IsRightPart : Part → Type 0
IsRightPart (Number n) = n < 2 ^ 64
IsRightPart (Name name) = is_name name ≡ true
IsRightPart Add = Unit {0}
IsRightPart Sub = Unit {0}
IsRightPart Mul = Unit {0}

abbrev pub AreRightParts : List Part → Type 0
AreRightParts [] = Unit {0}
AreRightParts (part ∷ parts) = IsRightPart part × AreRightParts parts

-- names are names of the language, and a code leaves one value
abbrev pub IsRightItem : Kind → Item → Type 0
IsRightItem kind (Extern name) = (has_needs kind ≡ true) × (is_name name ≡ true)
IsRightItem kind (Def name code) = (is_name name ≡ true) × AreRightParts code × (leaves_one 0 code ≡ true)

abbrev pub AreRightItems : Kind → List Item → Type 0
AreRightItems kind [] = Unit {0}
AreRightItems kind (item ∷ items) = IsRightItem kind item × AreRightItems kind items

-- The text is right, and says these items: it is the heading and the line of each, each name is needed or defined once, and
-- each name in a code is needed or defined on an earlier line.
pub record Says (kind : Kind) (text : List ℕ) (items : List Item) : Type 0 where
  pub spelled : text ≡ heading kind ++ (line_feed ∷ flat_map item_line items)
  pub right : AreRightItems kind items
  pub declared : AreDeclared [] items
