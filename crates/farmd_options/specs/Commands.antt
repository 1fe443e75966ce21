-- What the words of `farmd` ask for.
use Rattle.std.specs.Prelude.{◌≡◌, ℕ, ◌+◌, ◌==◌, Bool, false, List, [], ◌∷◌, length, codes, bytes_eq, Option, Some, None, unwrap_or}
use Rattle.std.specs.Prelude.{Result, Ok, Err, if◌then◌else◌}
use Rattle.farm_types.specs.Limits.{port_default, workers_default}
use Rattle.farmd_options.specs.declared.options.Options.{Options}
use Rattle.farmd_options.specs.declared.command.Command.{Command}
use Rattle.farmd_options.specs.declared.command.Command.TheVariants.{Help, Version, Serve}
use Rattle.farmd_options.specs.declared.command.DoorPlace.{DoorPlace}
use Rattle.farmd_options.specs.Options.{Reads}

abbrev pub asked_by : List ℕ → Option Command
asked_by word = if bytes_eq word (codes "--help") then Some Help else (if bytes_eq word (codes "--version") then Some Version else None)

-- what the first word asks for if it is `--help` or `--version`, and otherwise None
abbrev pub asked : List (List ℕ) → Option Command
asked [] = None
asked (word ∷ words) = asked_by word

abbrev pub served : Result Options ℕ → Result Command ℕ
served (Ok options) = Ok (Serve options)
served (Err place) = Err place

-- If the first word asks for something, it has to be the only one, and else the place of the second is answered. Otherwise the words are options and
-- their values.
abbrev pub ByFirst : List (List ℕ) → Result Command ℕ → Option Command → Type 0
ByFirst words read (Some command) = read ≡ (if length words == 1 then Ok command else Err 1)
ByFirst words read None = (options : Result Options ℕ) × Reads words options × (read ≡ served options)

-- the words begin with `--trust-options`
abbrev pub trusts : List (List ℕ) → Bool
trusts [] = false
trusts (word ∷ words) = bytes_eq word (codes "--trust-options")

-- the words without it
abbrev pub settings_of : List (List ℕ) → List (List ℕ)
settings_of [] = []
settings_of (word ∷ words) = if bytes_eq word (codes "--trust-options") then words else word ∷ words

-- the same with a place among all words
abbrev pub placed : Bool → Result Command ℕ → Result Command ℕ
placed trusting (Ok command) = Ok command
placed trusting (Err place) = Err (if trusting then place + 1 else place)

-- what the words ask for, or the place of the first that isn't right; that of a missing word is their number
abbrev pub ReadWords : List (List ℕ) → Result Command ℕ → Type 0
ReadWords words read = (read_behind : Result Command ℕ) × ByFirst (settings_of words) read_behind (asked (settings_of words))
    × (read ≡ placed (trusts words) read_behind)

abbrev pub IsCommand : List (List ℕ) → Command → Type 0
IsCommand words command = ReadWords words (Ok command)

abbrev pub BadAt : List (List ℕ) → ℕ → Type 0
BadAt words place = ReadWords words (Err place)

-- the address, the port and the number of the doors; there are none if `farmd` isn't to serve
abbrev pub place_of : Command → DoorPlace
place_of (Serve options) = record {
  addr = unwrap_or options.listen 0;
  port = unwrap_or options.port port_default;
  doors = unwrap_or options.jobs workers_default;
}
place_of _ = record { addr = 0; port = port_default; doors = 0 }
