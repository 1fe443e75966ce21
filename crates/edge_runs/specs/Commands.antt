-- What a program is given.
use Rattle.std.specs.Prelude.{◌≡◌, ◌≢◌, ℕ, ◌==◌, Bool, false, not, ◌&&◌, ◌||◌, nat_eq, List, [], ◌∷◌, ◌++◌, map, Option, None, Some}
use Rattle.std.specs.Prelude.{codes, if◌then◌else◌}
use Rattle.std.specs.List.{list_any, starts_with}
use Rattle.std.specs.Option.{option_map, unwrap_or, is_some}
use Rattle.std.specs.Str.{IsUtf8}
use Rattle.std.specs.Process.{command_program, command_args, command_var, command_dir, clears_env}
use Rattle.std.specs.declared.process.command.Command.{Command}
use Rattle.farm_types.specs.declared.placed.Ext.{Ext}
use Rattle.farm_types.specs.declared.placed.Ext.TheVariants.{I, Ii}
use Rattle.farm_types.specs.declared.placed.Word.{Word}
use Rattle.farm_types.specs.declared.placed.Word.TheVariants.{Text, Input, Output}
use Rattle.edge_traits.specs.declared.faults.StationFault.{StationFault}
use Rattle.edge_traits.specs.declared.faults.StationFault.TheVariants.{Failed, TooMuch, Memory}
use Rattle.edge_traits.specs.Stations.{has_output}

-- no stream is named
abbrev pub NamesNoStream : StationFault → Type 0
NamesNoStream Failed = Unit {0}
NamesNoStream (TooMuch stream bytes) = ⊥
NamesNoStream Memory = Unit {0}

-- a word as the program is given it: its text, or the name of the input or of the object in its place
abbrev pub given_word : List ℕ → List ℕ → Word → List ℕ
given_word source object (Text bytes) = bytes
given_word source object (Input ext) = source
given_word source object Output = object

-- A text can be given that is UTF-8 and has no zero byte.
abbrev pub CanBeGiven : Word → Type 0
CanBeGiven (Text bytes) = IsUtf8 bytes × (list_any (λ b. b == 0) bytes ≡ false)
CanBeGiven (Input ext) = Unit {0}
CanBeGiven Output = Unit {0}

-- the words' program with their arguments, in this process's environment and folder
pub record IsCommandOf {A : Type 0} (words : List Word) (source object : List ℕ) (command : Command A) : Type 0 where
  pub words_given : command_program command ∷ command_args command ≡ map (given_word source object) words
  pub environment : clears_env command ≡ false
  pub variables : (name : List ℕ) → command_var command name ≡ None
  pub folder : command_dir command ≡ None

-- a path from the folder of this process: it has a slash, but not as its first byte
abbrev pub is_from_here : List ℕ → Bool
is_from_here program = list_any (λ b. b == 47) program && not (starts_with nat_eq program (codes "/"))

-- the name of a program for a child in another folder than this process's
abbrev pub named_from : List ℕ → List ℕ → List ℕ
named_from here program = if is_from_here program then here ++ codes "/" ++ program else program

-- this process's environment, but that temporary files are made in this folder
pub record HasFolderForFiles {A : Type 0} (here place : List ℕ) (command : Command A) : Type 0 where
  pub environment : clears_env command ≡ false
  pub temporary : command_var command (codes "TMPDIR") ≡ Some (Some (named_from here place))
  pub variables : (name : List ℕ) → name ≢ codes "TMPDIR" → command_var command name ≡ None

-- a program without arguments, in this folder, in which its temporary files are made too
pub record IsProgramIn {A : Type 0} (program here place : List ℕ) (command : Command A) : Type 0 where
  pub program_given : command_program command ≡ named_from here program
  pub arguments : command_args command ≡ []
  pub environment : HasFolderForFiles here place command
  pub folder : command_dir command ≡ Some place

-- the ending of the first `Input` of the words
abbrev pub first_input : List Word → Option Ext
first_input [] = None
first_input (Text bytes ∷ words) = first_input words
first_input (Input ext ∷ words) = Some ext
first_input (Output ∷ words) = first_input words

-- the name of the input in its folder
abbrev pub source_text : Ext → List ℕ
source_text I = codes "input.i"
source_text Ii = codes "input.ii"

-- the name of the input if one of the words is `Input`, and else nothing
abbrev pub source_of : List Word → List ℕ
source_of words = unwrap_or (option_map source_text (first_input words)) []

-- the name of the object in its folder
abbrev pub object_text : List ℕ
object_text = codes "output.o"

-- one of the words is `Input` or `Output`
abbrev pub needs_folder : List Word → Bool
needs_folder words = is_some (first_input words) || has_output words

-- the program is named from this process's folder
abbrev pub first_named_from : List ℕ → List (List ℕ) → List (List ℕ)
first_named_from here [] = []
first_named_from here (program ∷ arguments) = named_from here program ∷ arguments

-- the words' program with their arguments, in the folder in which the input, the object and its temporary files are
pub record IsCommandIn {A : Type 0} (words : List Word) (here place : List ℕ) (command : Command A) : Type 0 where
  pub words_given : command_program command ∷ command_args command
      ≡ first_named_from here (map (given_word (source_of words) object_text) words)
  pub environment : HasFolderForFiles here place command
  pub folder : command_dir command ≡ Some place
