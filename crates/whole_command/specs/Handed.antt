-- Which descriptors are handed on, and what for.
use Rattle.std.specs.Prelude.{ℕ, Bool, true, false, nat_eq, if◌then◌else◌, List, codes}
use Rattle.std.specs.List.{starts_with}
use Rattle.whole_command.specs.declared.handed.Kind.{Kind}
use Rattle.whole_command.specs.declared.handed.Kind.TheVariants.{File, Device, Pipe, Other}
use Rattle.whole_command.specs.declared.words.Mode.{Mode}
use Rattle.whole_command.specs.declared.words.Mode.TheVariants.{Read, Write, Both}

-- What a descriptor is open for, by the two last bits of its flags.
abbrev pub mode_of : ℕ → Mode
mode_of access = if nat_eq access 0 then Read else (if nat_eq access 1 then Write else Both)

-- Whether what a descriptor leads to can be opened again. A pipe can if it has no name, by the text of its link: a named one might wait.
abbrev pub opens_again : Kind → List ℕ → Bool
opens_again File link = true
opens_again Device link = true
opens_again Pipe link = starts_with nat_eq link (codes "pipe:[")
opens_again Other link = false
