-- The words of `farm share`, after its name.
use Rattle.std.specs.Prelude.{ℕ, ◌&&◌, ◌==◌, Bool, List, [], ◌∷◌, length, map, string_bytes, codes, bytes_eq, Option, Some, None}
use Rattle.std.specs.Prelude.{Result, Ok, Err, if◌then◌else◌}
use Rattle.std.specs.Option.{option_copied}
use Rattle.std.specs.List.{starts_with}
use Rattle.std.specs.Prelude.{nat_eq}
use Rattle.farm_options.specs.declared.share.Share.{Share}
use Rattle.farm_options.specs.declared.share.Share.TheVariants as share

-- what they ask for
pub data Shared : Type 0 where
  Help : Shared
  Run : Option (List ℕ) → List (List ℕ) → Shared

abbrev pub shared : Share → Shared
shared share.Help = Help
shared (share.Run hosts command) = Run (option_copied hosts) (map string_bytes command.now)

abbrev pub share_meant : Result Share ℕ → Result Shared ℕ
share_meant (Ok found) = Ok (shared found)
share_meant (Err place) = Err place

-- after the host list, if one is given: a command, which has a word at least
abbrev pub command_behind : ℕ → Option (List ℕ) → List (List ℕ) → Result Shared ℕ
command_behind place hosts [] = Err place
command_behind place hosts (word ∷ words) = Ok (Run hosts (word ∷ words))

-- after `--hosts`: the host list, and then the command
abbrev pub hosts_behind : List (List ℕ) → Result Shared ℕ
hosts_behind [] = Err 2
hosts_behind (hosts ∷ words) = command_behind 3 (Some hosts) words

-- a word that begins with `--`, which no command does
abbrev pub is_option : List ℕ → Bool
is_option word = starts_with nat_eq word (codes "--")

-- What the words ask for, or the place of the first that doesn't fit. The name has place 0; the place of a missing word is the number of
-- all words
abbrev pub share_read : List (List ℕ) → Result Shared ℕ
share_read [] = Err 1
share_read (word ∷ words) =
    if bytes_eq word (codes "--hosts") then hosts_behind words
    else (if bytes_eq word (codes "--help") && length words == 0 then Ok Help
    else (if is_option word then Err 1
    else Ok (Run None (word ∷ words))))
