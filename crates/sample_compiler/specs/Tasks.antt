-- What the words of the compiler ask for.
use Rattle.std.specs.Prelude.{ℕ, Bool, true, false, List, [], ◌∷◌, drop, if◌then◌else◌, Option, Some, None}
use Rattle.std.specs.List.{list_any, flat_map}
use Rattle.edge_traits.specs.FileMaps.{IsStaged}
use Rattle.arg_scan.specs.declared.verdict.Action.{Action}
use Rattle.arg_scan.specs.declared.names.Ending.{Ending}
use Rattle.arg_scan.specs.Names.{last_name, ending_of, derived_output, is_reserved}
use Rattle.sample_compiler.specs.declared.defines.Define.{Define}
use Rattle.sample_compiler.specs.declared.meaning.Command.{Command}
use Rattle.sample_compiler.specs.declared.meaning.Command.TheVariants.{Expand, Build}
use Rattle.sample_compiler.specs.declared.meaning.Meaning.{Meaning}
use Rattle.sample_compiler.specs.declared.meaning.Meaning.TheVariants as meaning
use Rattle.sample_compiler.specs.declared.task.Product.{Product}
use Rattle.sample_compiler.specs.declared.task.Product.TheVariants.{Text, Object}
use Rattle.sample_compiler.specs.declared.task.Task.{Task}
use Rattle.sample_compiler.specs.declared.task.Gathered.{Gathered}
use Rattle.sample_compiler.specs.Meanings.{meanings}

-- ---- the words by kinds

abbrev pub command_in : Meaning → List Command
command_in (meaning.Command command) = command ∷ []
command_in _ = []

abbrev pub input_in : Meaning → List (List ℕ)
input_in (meaning.Input name) = name ∷ []
input_in _ = []

abbrev pub output_in : Meaning → List (List ℕ)
output_in (meaning.Output name) = name ∷ []
output_in _ = []

abbrev pub folder_in : Meaning → List (List ℕ)
folder_in (meaning.Folder name) = name ∷ []
folder_in _ = []

abbrev pub define_in : Meaning → List Define
define_in (meaning.Define define) = define ∷ []
define_in _ = []

abbrev pub is_lacking : Meaning → Bool
is_lacking meaning.Lacking = true
is_lacking _ = false

abbrev pub gathered : List Meaning → Gathered
gathered ms = record {
  commands = flat_map command_in ms;
  inputs = flat_map input_in ms;
  outputs = flat_map output_in ms;
  dirs = flat_map folder_in ms;
  defines = flat_map define_in ms;
  lacking = list_any is_lacking ms;
}

-- ---- what is to be made

abbrev pub made_as : Command → List ℕ → Product
made_as Expand output = Text
made_as (Build action) output = Object output

-- `-o` names this file
abbrev pub named_product : Command → List ℕ → Option Product
named_product command output = if is_reserved output then None else Some (made_as command output)

abbrev pub derived_product : Action → List ℕ → Option Ending → Option Product
derived_product action input (Some ending) = Some (Object (derived_output action input ending))
derived_product action input None = None

-- without `-o` an object is named after its source
abbrev pub unnamed_product : Command → List ℕ → Option Product
unnamed_product Expand input = Some Text
unnamed_product (Build action) input = derived_product action input (ending_of (last_name input))

-- by the names of `-o`; there is at most one
abbrev pub product_of : Command → List ℕ → List (List ℕ) → Option Product
product_of command input [] = unnamed_product command input
product_of command input (output ∷ []) = named_product command output
product_of command input (output ∷ other ∷ more) = None

-- a keeper of files puts the object
abbrev pub HasPlainOutput : Product → Type 0
HasPlainOutput Text = Unit {0}
HasPlainOutput (Object output) = ¬ (IsStaged output)

-- ---- the task

abbrev pub with_product : Gathered → List ℕ → Option Product → Option Task
with_product g input (Some product) = Some (record { product = product; input = input; dirs = g.dirs; defines = g.defines })
with_product g input None = None

-- there is exactly one input
abbrev pub with_only_input : Gathered → Command → List (List ℕ) → Option Task
with_only_input g command [] = None
with_only_input g command (input ∷ []) = with_product g input (product_of command input g.outputs)
with_only_input g command (input ∷ other ∷ more) = None

-- the first command counts
abbrev pub with_command : Gathered → List Command → Option Task
with_command g [] = None
with_command g (command ∷ more) = with_only_input g command g.inputs

abbrev pub asked : Gathered → Option Task
asked g = if g.lacking then None else with_command g g.commands

-- what the words ask for; the first names the compiler; none if they are bad
unfoldable pub task_of : List (List ℕ) → Option Task
task_of words = asked (gathered (meanings (drop 1 words)))
