-- The names of options.
use Rattle.std.specs.Prelude.{ℕ, List, codes, bytes_eq, Option, Some, None, if◌then◌else◌}
use Rattle.farmd_options.specs.declared.name.OptionName.{OptionName}
use Rattle.farmd_options.specs.declared.name.OptionName.TheVariants as option

-- the option that a word names
abbrev pub option_named : List ℕ → Option OptionName
option_named word =
    if bytes_eq word (codes "--compiler") then Some option.Compiler
    else (if bytes_eq word (codes "--port") then Some option.Port
    else (if bytes_eq word (codes "--listen") then Some option.Listen
    else (if bytes_eq word (codes "--jobs") then Some option.Jobs
    else (if bytes_eq word (codes "--serve") then Some option.Serve
    else (if bytes_eq word (codes "--allow") then Some option.Allow
    else (if bytes_eq word (codes "--deny") then Some option.Deny
    else (if bytes_eq word (codes "--cache") then Some option.Cache
    else (if bytes_eq word (codes "--tools") then Some option.Tools
    else (if bytes_eq word (codes "--job-lifetime") then Some option.JobLifetime
    else (if bytes_eq word (codes "--shared-cache") then Some option.SharedCache
    else None))))))))))
