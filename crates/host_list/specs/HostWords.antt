-- What one word of a host list means, and what is wrong with a word that means nothing.
use Rattle.std.specs.Prelude.{ℕ, ◌≡◌, ◌+◌, List, [], ◌∷◌, ◌++◌, length, drop, min, codes, nat_eq, nat_lt, Bool, true, not, ◌&&◌, ◌||◌}
use Rattle.std.specs.Prelude.{◌==◌, ◌⊎◌, if◌then◌else◌, Option, Some, None, is_none, IsSome, unwrap_or, slice_index, MatchBool}
use Rattle.std.specs.List.{list_any, starts_with, prefix_len, AllPass}
use Rattle.std.specs.Str.{bytes_eq}
use Rattle.farm_types.specs.Bytes.{comma, dash, slash, colon, at_sign}
use Rattle.farm_types.specs.Limits.{host_name_max, port_default}
use Rattle.farm_types.specs.declared.hosts.Host.{Host}
use Rattle.host_list.specs.declared.meaning.Meaning.{Meaning}
use Rattle.host_list.specs.declared.meaning.Meaning.TheVariants.{Entry, LocalSlots, LocalCpp, Randomize}
use Rattle.host_list.specs.declared.fault.HostFault.{HostFault}
use Rattle.host_list.specs.declared.fault.HostFault.TheVariants.{Ssh, HostOption, Zeroconf, BadPort, BadLimit, BadName, UnknownOption}
use Rattle.host_list.specs.Names.{is_host_name_byte, IsHostName, IsPort, IsLimit}

-- ---- what a word means

-- `:PORT`
abbrev pub SpellsPort : List ℕ → ℕ → Type 0
SpellsPort part port = (digits : List ℕ) × IsPort digits port × (part ≡ colon ∷ digits)

-- `/LIMIT`
abbrev pub SpellsLimit : List ℕ → ℕ → Type 0
SpellsLimit part limit = (digits : List ℕ) × IsLimit digits limit × (part ≡ slash ∷ digits)

-- `:PORT` and `/LIMIT`, each if it is given, in either order
abbrev pub SpellsParts : Option ℕ → Option ℕ → List ℕ → Type 0
SpellsParts None None parts = parts ≡ []
SpellsParts (Some port) None parts = SpellsPort parts port
SpellsParts None (Some limit) parts = SpellsLimit parts limit
SpellsParts (Some port) (Some limit) parts =
    (first : List ℕ) × (second : List ℕ) × (parts ≡ first ++ second)
    × ((SpellsPort first port × SpellsLimit second limit) ⊎ (SpellsLimit first limit × SpellsPort second port))

-- `localhost` without a port means this machine, without the network
abbrev pub names_this_machine : List ℕ → Option ℕ → Bool
names_this_machine name port = bytes_eq name (codes "localhost") && is_none port

-- the entry of a name with the port and limit that are given: the port is 3632 if none is,
-- and the limit 4, or 2 for a local entry
abbrev pub host_of : List ℕ → Option ℕ → Option ℕ → Host
host_of name port limit = record {
  name = record { text = name };
  port = unwrap_or port port_default;
  limit = unwrap_or limit (if names_this_machine name port then 2 else 4);
  local = names_this_machine name port;
}

-- a name, and after it the port and the limit that are given
pub record SpellsHost (word : List ℕ) (host : Host) : Type 0 where
  pub name : List ℕ
  pub port : Option ℕ
  pub limit : Option ℕ
  pub parts : List ℕ
  pub spelled : word ≡ name ++ parts
  pub named : IsHostName name
  pub behind : SpellsParts port limit parts
  pub meant : host ≡ host_of name port limit

-- an option's name with its `=`, and a number after it
abbrev pub SpellsSlots : List ℕ → List ℕ → ℕ → Type 0
SpellsSlots option word n = (digits : List ℕ) × IsLimit digits n × (word ≡ option ++ digits)

-- what a word means
abbrev pub HostWord : List ℕ → Meaning → Type 0
HostWord word (Entry host) = SpellsHost word host
HostWord word (LocalSlots n) = SpellsSlots (codes "--localslots=") word n
HostWord word (LocalCpp n) = SpellsSlots (codes "--localslots_cpp=") word n
HostWord word Randomize = word ≡ codes "--randomize"

-- ---- what is wrong with a word, and at which place in it

abbrev pub begins_with : List ℕ → List ℕ → Bool
begins_with front word = starts_with nat_eq word front

abbrev pub has_byte : ℕ → List ℕ → Bool
has_byte c word = list_any (λ x. x == c) word

-- this fault, at the word's first byte
abbrev pub IsAtStart : HostFault → ℕ → HostFault → Type 0
IsAtStart expected at fault = (at ≡ 0) × (fault ≡ expected)

-- of a word that begins with an option's name and `=`: the number after it isn't right
abbrev pub SlotsFault : List ℕ → List ℕ → ℕ → HostFault → Type 0
SlotsFault option word at fault =
    ((n : ℕ) → SpellsSlots option word n → ⊥) × (at ≡ length option) × (fault ≡ BadLimit)

-- of a word that begins with `--`
abbrev pub OptionFault : List ℕ → ℕ → HostFault → Type 0
OptionFault word at fault =
    MatchBool (begins_with (codes "--localslots=") word) (SlotsFault (codes "--localslots=") word at fault)
    (MatchBool (begins_with (codes "--localslots_cpp=") word) (SlotsFault (codes "--localslots_cpp=") word at fault)
    (MatchBool (bytes_eq word (codes "--randomize")) ⊥
    (IsAtStart UnknownOption at fault)))

-- of a word that begins with `+`
abbrev pub PlusFault : List ℕ → ℕ → HostFault → Type 0
PlusFault word at fault =
    MatchBool (bytes_eq word (codes "+zeroconf")) (IsAtStart Zeroconf at fault) (IsAtStart BadName at fault)

-- `:` or `/`
abbrev pub is_separator : ℕ → Bool
is_separator c = c == colon || c == slash

-- how far a name can reach from the word's first byte on
abbrev pub name_reach : List ℕ → ℕ
name_reach word = if slice_index word 0 == dash then 0 else min host_name_max (prefix_len is_host_name_byte word)

-- a name isn't empty, and reaches to the first separator or to the word's end
abbrev pub begins_with_name : List ℕ → Bool
begins_with_name word = nat_lt 0 (name_reach word)
    && (name_reach word == length word || is_separator (slice_index word (name_reach word)))

-- a separator, or nothing, comes next
abbrev pub EndsPart : List ℕ → Type 0
EndsPart [] = Unit {0}
EndsPart (c ∷ cs) = is_separator c ≡ true

-- a part, after its separator, that isn't allowed: its kind came before, or its number isn't right
abbrev pub WrongPart : ℕ → Option ℕ → Option ℕ → List ℕ → HostFault → Type 0
WrongPart separator port limit number fault =
    ((separator ≡ colon) × (IsSome port ⊎ ((n : ℕ) → IsPort number n → ⊥)) × (fault ≡ BadPort))
    ⊎ ((separator ≡ slash) × (IsSome limit ⊎ ((n : ℕ) → IsLimit number n → ⊥)) × (fault ≡ BadLimit))

-- in the rest of a word after its name, which ends at this place: the first part that isn't allowed. The fault is
-- at the byte after its separator, and its number reaches to the next separator or to the word's end
pub record PartFault (from : ℕ) (behind : List ℕ) (at : ℕ) (fault : HostFault) : Type 0 where
  pub port : Option ℕ
  pub limit : Option ℕ
  pub parts : List ℕ
  pub separator : ℕ
  pub number : List ℕ
  pub rest : List ℕ
  pub split : behind ≡ parts ++ (separator ∷ (number ++ rest))
  pub right : SpellsParts port limit parts
  pub plain : AllPass (λ c. not (is_separator c)) number
  pub ends : EndsPart rest
  pub wrong : WrongPart separator port limit number fault
  pub place : at ≡ from + length parts + 1

-- of a word that names a host
abbrev pub EntryFault : List ℕ → ℕ → HostFault → Type 0
EntryFault word at fault =
    MatchBool (begins_with_name word) (PartFault (name_reach word) (drop (name_reach word) word) at fault)
    ((at ≡ name_reach word) × (fault ≡ BadName))

-- the fault of a word at a place in it, by the first rule that the word falls under
abbrev pub WordFault : List ℕ → ℕ → HostFault → Type 0
WordFault word at fault =
    MatchBool (begins_with (codes "--") word) (OptionFault word at fault)
    (MatchBool (begins_with (codes "+") word) (PlusFault word at fault)
    (MatchBool (has_byte at_sign word) (IsAtStart Ssh at fault)
    (MatchBool (has_byte comma word) (IsAtStart HostOption at fault)
    (EntryFault word at fault))))
