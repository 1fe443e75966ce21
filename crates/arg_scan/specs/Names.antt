-- The names of sources and outputs.
use Rattle.std.specs.Prelude.{ℕ, ◌-◌, Bool, true, false, ◌&&◌, nat_lt, nat_eq, List, [], ◌∷◌, ◌++◌, length, take, codes, Option}
use Rattle.std.specs.Prelude.{if◌then◌else◌}
use Rattle.std.specs.List.{list_any, find, starts_with, ends_with}
use Rattle.arg_scan.specs.declared.names.Ending.{Ending}
use Rattle.arg_scan.specs.declared.names.Ending.TheVariants.{C, Cc, Cpp, Cxx, CapitalC, I, Ii}
use Rattle.arg_scan.specs.declared.verdict.Action.{Action}
use Rattle.arg_scan.specs.declared.verdict.Action.TheVariants.{Compile, Assemble}
use Rattle.farm_types.specs.declared.placed.Ext.{Ext}
use Rattle.farm_types.specs.declared.placed.Ext.TheVariants as ext

-- the part of a path after its last `/`
abbrev pub last_name : List ℕ → List ℕ
last_name [] = []
last_name (b ∷ bs) = if list_any (nat_eq 47) (b ∷ bs) then last_name bs else b ∷ bs

abbrev pub ending_text : Ending → List ℕ
ending_text C = codes ".c"
ending_text Cc = codes ".cc"
ending_text Cpp = codes ".cpp"
ending_text Cxx = codes ".cxx"
ending_text CapitalC = codes ".C"
ending_text I = codes ".i"
ending_text Ii = codes ".ii"

-- the name ends so, and at least one byte is before the ending
abbrev pub has_ending : List ℕ → Ending → Bool
has_ending name ending = nat_lt (length (ending_text ending)) (length name) && ends_with nat_eq name (ending_text ending)

abbrev pub endings : List Ending
endings = C ∷ Cc ∷ Cpp ∷ Cxx ∷ CapitalC ∷ I ∷ Ii ∷ []

-- the ending of a source's name
abbrev pub ending_of : List ℕ → Option Ending
ending_of name = find (has_ending name) endings

-- the ending of the preprocessed source
abbrev pub ext_of : Ending → Ext
ext_of C = ext.I
ext_of I = ext.I
ext_of Cc = ext.Ii
ext_of Cpp = ext.Ii
ext_of Cxx = ext.Ii
ext_of CapitalC = ext.Ii
ext_of Ii = ext.Ii

abbrev pub is_preprocessed : Ending → Bool
is_preprocessed I = true
is_preprocessed Ii = true
is_preprocessed _ = false

-- a configure script's trial source
abbrev pub is_conftest : List ℕ → Bool
is_conftest word = starts_with nat_eq (last_name word) (codes "conftest.")

-- a name that the farm keeps for files of its own
abbrev pub is_reserved : List ℕ → Bool
is_reserved name = ends_with nat_eq name (codes ".farm~")

abbrev pub object_ending : Action → List ℕ
object_ending Compile = codes ".o"
object_ending Assemble = codes ".s"

-- the output of a command that names none: the source's last name with another ending
abbrev pub derived_output : Action → List ℕ → Ending → List ℕ
derived_output action source ending =
    let name = last_name source in take (length name - length (ending_text ending)) name ++ object_ending action
