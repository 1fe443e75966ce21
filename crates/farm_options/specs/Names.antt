-- The names of commands and of options.
use Rattle.std.specs.Prelude.{ℕ, Bool, true, false, List, codes, bytes_eq, Option, Some, None, if◌then◌else◌}
use Rattle.farm_options.specs.declared.name.CommandName.{CommandName}
use Rattle.farm_options.specs.declared.name.CommandName.TheVariants as command
use Rattle.farm_options.specs.declared.name.FirstWord.{FirstWord}
use Rattle.farm_options.specs.declared.name.FirstWord.TheVariants as first
use Rattle.farm_options.specs.declared.name.OptionName.{OptionName}
use Rattle.farm_options.specs.declared.name.OptionName.TheVariants as option

-- what the first word asks for
abbrev pub first_word_named : List ℕ → Option FirstWord
first_word_named word =
    if bytes_eq word (codes "build") then Some (first.Name command.Build)
    else (if bytes_eq word (codes "watch") then Some (first.Name command.Watch)
    else (if bytes_eq word (codes "graph") then Some (first.Name command.Graph)
    else (if bytes_eq word (codes "cc") then Some (first.Name command.Cc)
    else (if bytes_eq word (codes "hosts") then Some (first.Name command.Hosts)
    else (if bytes_eq word (codes "scan") then Some (first.Name command.Scan)
    else (if bytes_eq word (codes "rehearse") then Some (first.Name command.Rehearse)
    else (if bytes_eq word (codes "--help") then Some first.Help
    else (if bytes_eq word (codes "--version") then Some first.Version
    else None))))))))

-- the word that names an option
abbrev pub option_text : OptionName → List ℕ
option_text option.Hosts = codes "--hosts"
option_text option.Workers = codes "--workers"
option_text option.Tries = codes "--tries"
option_text option.Lines = codes "--lines"
option_text option.NoFallback = codes "--no-fallback"
option_text option.NoRetry = codes "--no-retry"

-- the option that a word names
abbrev pub option_named : List ℕ → Option OptionName
option_named word =
    if bytes_eq word (option_text option.Hosts) then Some option.Hosts
    else (if bytes_eq word (option_text option.Workers) then Some option.Workers
    else (if bytes_eq word (option_text option.Tries) then Some option.Tries
    else (if bytes_eq word (option_text option.Lines) then Some option.Lines
    else (if bytes_eq word (option_text option.NoFallback) then Some option.NoFallback
    else (if bytes_eq word (option_text option.NoRetry) then Some option.NoRetry
    else None)))))

-- whether a word follows it, which is its value
abbrev pub takes_value : OptionName → Bool
takes_value option.NoFallback = false
takes_value option.NoRetry = false
takes_value _ = true

-- `watch` has all options, `build` and `graph` all but `--lines`, and `hosts` has `--hosts`
abbrev pub has_option : CommandName → OptionName → Bool
has_option command.Watch name = true
has_option command.Build option.Lines = false
has_option command.Build name = true
has_option command.Graph option.Lines = false
has_option command.Graph name = true
has_option command.Hosts option.Hosts = true
has_option _ _ = false

-- the words of these commands are those of a compile command, which may be any
abbrev pub takes_any_words : CommandName → Bool
takes_any_words command.Cc = true
takes_any_words command.Scan = true
takes_any_words _ = false
