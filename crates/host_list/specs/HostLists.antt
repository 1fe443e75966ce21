-- What the text of a host list means, what is wrong with one that means nothing, and the text that is printed.
use Rattle.std.specs.Prelude.{ℕ, ◌≡◌, ◌+◌, ◌≤◌, List, [], ◌∷◌, ◌++◌, length, codes, Bool, true, false, ◌⊎◌, if◌then◌else◌, All}
use Rattle.std.specs.List.{flat_map}
use Rattle.std.specs.Fmt.{decimal}
use Rattle.farm_types.specs.Limits.{hosts_max, slots_max, port_default, port_max}
use Rattle.farm_types.specs.declared.hosts.Host.{Host}
use Rattle.farm_types.specs.declared.hosts.Hosts.{Hosts}
use Rattle.host_list.specs.declared.meaning.Meaning.{Meaning}
use Rattle.host_list.specs.declared.meaning.Meaning.TheVariants.{Entry, LocalSlots, LocalCpp, Randomize}
use Rattle.host_list.specs.declared.fault.HostFault.{HostFault}
use Rattle.host_list.specs.declared.fault.HostFault.TheVariants.{TooMany}
use Rattle.host_list.specs.Names.{IsHostName}
use Rattle.host_list.specs.TextWords.{TextWord, WordsOf}
use Rattle.host_list.specs.HostWords.{HostWord, WordFault}

-- ---- the meaning

-- what the words mean, one by one
abbrev pub HostWords : List TextWord → List Meaning → Type 0
HostWords [] [] = Unit {0}
HostWords [] (m ∷ ms) = ⊥
HostWords (w ∷ ws) [] = ⊥
HostWords (w ∷ ws) (m ∷ ms) = HostWord w.bytes m × HostWords ws ms

-- the entries, in order
abbrev pub hosts_in : List Meaning → List Host
hosts_in [] = []
hosts_in (Entry host ∷ ms) = host ∷ hosts_in ms
hosts_in (LocalSlots n ∷ ms) = hosts_in ms
hosts_in (LocalCpp n ∷ ms) = hosts_in ms
hosts_in (Randomize ∷ ms) = hosts_in ms

-- the last number of local slots, or the one before them all
abbrev pub last_slots : ℕ → List Meaning → ℕ
last_slots slots [] = slots
last_slots slots (LocalSlots n ∷ ms) = last_slots n ms
last_slots slots (Entry host ∷ ms) = last_slots slots ms
last_slots slots (LocalCpp n ∷ ms) = last_slots slots ms
last_slots slots (Randomize ∷ ms) = last_slots slots ms

-- the last number of local preprocessors, or the one before them all
abbrev pub last_cpp : ℕ → List Meaning → ℕ
last_cpp slots [] = slots
last_cpp slots (LocalCpp n ∷ ms) = last_cpp n ms
last_cpp slots (Entry host ∷ ms) = last_cpp slots ms
last_cpp slots (LocalSlots n ∷ ms) = last_cpp slots ms
last_cpp slots (Randomize ∷ ms) = last_cpp slots ms

-- whether one of them is `--randomize`
abbrev pub asks_randomize : List Meaning → Bool
asks_randomize [] = false
asks_randomize (Randomize ∷ ms) = true
asks_randomize (Entry host ∷ ms) = asks_randomize ms
asks_randomize (LocalSlots n ∷ ms) = asks_randomize ms
asks_randomize (LocalCpp n ∷ ms) = asks_randomize ms

-- the entries in order, and the last option of each kind; 4 local slots and 8 local preprocessors if none are given
abbrev pub hosts_of : List Meaning → Hosts
hosts_of ms = record {
  list = hosts_in ms;
  local_slots = last_slots 4 ms;
  local_cpp = last_cpp 8 ms;
  randomize = asks_randomize ms;
}

-- the text is a host list with this meaning: each word means something, and at most 16 are entries
pub record HostListOf (text : List ℕ) (hosts : Hosts) : Type 0 where
  pub words : List TextWord
  pub meanings : List Meaning
  pub split : WordsOf text words
  pub each : HostWords words meanings
  pub few : length (hosts_in meanings) ≤ hosts_max
  pub meant : hosts ≡ hosts_of meanings

-- ---- the fault

-- what is wrong with a word after this many entries: by itself, or as the 17th entry
abbrev pub IsWrongWord : ℕ → TextWord → ℕ → HostFault → Type 0
IsWrongWord count word at fault =
    ((place : ℕ) × WordFault word.bytes place fault × (at ≡ word.at + place))
    ⊎ ((host : Host) × HostWord word.bytes (Entry host) × (count ≡ hosts_max) × (at ≡ word.at) × (fault ≡ TooMany))

-- the fault of a text: that of its first word that isn't right
pub record HostFaultStands (text : List ℕ) (at : ℕ) (fault : HostFault) : Type 0 where
  pub before : List TextWord
  pub word : TextWord
  pub after : List TextWord
  pub meanings : List Meaning
  pub split : WordsOf text (before ++ word ∷ after)
  pub right : HostWords before meanings
  pub few : length (hosts_in meanings) ≤ hosts_max
  pub wrong : IsWrongWord (length (hosts_in meanings)) word at fault

-- ---- the print

-- `NAME:PORT/LIMIT`, or `localhost/LIMIT` for a local entry, on a line of its own
abbrev pub host_line : Host → List ℕ
host_line host =
    (if host.local then codes "localhost" else host.name.text ++ codes ":" ++ decimal host.port)
    ++ codes "/" ++ decimal host.limit ++ codes "\n"

-- an option with its number, on a line of its own
abbrev pub slots_line : List ℕ → ℕ → List ℕ
slots_line option n = option ++ decimal n ++ codes "\n"

-- the options, each on a line of its own
abbrev pub options_text : Hosts → List ℕ
options_text hosts =
    slots_line (codes "--localslots=") hosts.local_slots
    ++ slots_line (codes "--localslots_cpp=") hosts.local_cpp
    ++ (if hosts.randomize then codes "--randomize\n" else [])

-- the entries in order, then the options
abbrev pub printed_hosts : Hosts → List ℕ
printed_hosts hosts = flat_map host_line hosts.list ++ options_text hosts

-- what an entry of a host list has
pub record IsHost (host : Host) : Type 0 where
  pub named : IsHostName host.name.text
  pub port_low : 1 ≤ host.port
  pub port_high : host.port ≤ port_max
  pub limit_low : 1 ≤ host.limit
  pub limit_high : host.limit ≤ slots_max
  -- a local entry is `localhost`, and has the default port
  pub here : host.local ≡ true → (host.name.text ≡ codes "localhost") × (host.port ≡ port_default)

-- what a host list has
pub record AreHosts (hosts : Hosts) : Type 0 where
  pub each : All IsHost hosts.list
  pub few : length hosts.list ≤ hosts_max
  pub slots_low : 1 ≤ hosts.local_slots
  pub slots_high : hosts.local_slots ≤ slots_max
  pub cpp_low : 1 ≤ hosts.local_cpp
  pub cpp_high : hosts.local_cpp ≤ slots_max
