-- When what is at an output asks for the command as it is.
use Rattle.std.specs.Prelude.{Bool, true, false}
use Rattle.arg_scan.specs.declared.verdict.Action.{Action}
use Rattle.arg_scan.specs.declared.verdict.Action.TheVariants.{Compile, Assemble}
use Rattle.whole_command.specs.declared.outputs.Found.{Found}
use Rattle.whole_command.specs.declared.outputs.Found.TheVariants.{Nothing, File, Other}

-- An object replaces a regular file and nothing else; assembly replaces nothing.
abbrev pub takes_whole_command : Action → Found → Bool
takes_whole_command Compile Nothing = false
takes_whole_command Compile File = false
takes_whole_command Compile Other = true
takes_whole_command Assemble Nothing = false
takes_whole_command Assemble File = true
takes_whole_command Assemble Other = true
