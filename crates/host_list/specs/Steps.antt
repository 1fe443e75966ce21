-- What the steps of the reader give.
use Rattle.std.specs.Prelude.{ℕ, ◌≡◌, ◌≤◌, ◌⊎◌, List, length, Some, None, drop, ◌++◌, ◌∷◌, [], Bool, ◌||◌, ◌==◌, true, false}
use Rattle.farm_types.specs.Bytes.{line_feed, hash, slash, colon}
use Rattle.farm_types.specs.Limits.{hosts_max}
use Rattle.farm_types.specs.declared.hosts.Hosts.{Hosts}
use Rattle.host_list.specs.declared.parts.Parts.{Parts}
use Rattle.host_list.specs.declared.meaning.Meaning.{Meaning}
use Rattle.host_list.specs.declared.meaning.Meaning.TheVariants.{Entry, LocalSlots, LocalCpp, Randomize}
use Rattle.host_list.specs.Names.{IsPort, IsLimit}
use Rattle.host_list.specs.TextWords.{TextWord, is_blank_or_feed, without_comments}
use Rattle.host_list.specs.Runs.{runs, words_of}
use Rattle.host_list.specs.HostWords.{HostWord}
use Rattle.host_list.specs.HostLists.{HostWords, hosts_in, hosts_of}

-- one part more: a port if there was none, or a limit if there was none
abbrev pub AddsPart : Parts → ℕ → List ℕ → Parts → Type 0
AddsPart old separator number new =
    ((separator ≡ colon) × (old.port ≡ None) × (port : ℕ) × IsPort number port × (new ≡ record { port = Some port; limit = old.limit }))
    ⊎ ((separator ≡ slash) × (old.limit ≡ None) × (limit : ℕ) × IsLimit number limit
    × (new ≡ record { port = old.port; limit = Some limit }))

-- a byte that is in no word
abbrev pub ends_word : ℕ → Bool
ends_word c = is_blank_or_feed c || c == hash

-- the end of a word, or of the text, comes next
abbrev pub EndsWord : List ℕ → Type 0
EndsWord [] = Unit {0}
EndsWord (c ∷ cs) = ends_word c ≡ true

-- the end of a line, or of the text, comes next
abbrev pub EndsLine : List ℕ → Type 0
EndsLine [] = Unit {0}
EndsLine (c ∷ cs) = c ≡ line_feed

-- the words of a text from a place on that is within no comment
abbrev pub words_from : ℕ → List ℕ → List TextWord
words_from from text = runs from (without_comments false (drop from text))

-- a list of hosts and one meaning more
abbrev pub with_meaning : Hosts → Meaning → Hosts
with_meaning hosts (Entry host) = record hosts { list = hosts.list ++ host ∷ [] }
with_meaning hosts (LocalSlots n) = record hosts { local_slots = n }
with_meaning hosts (LocalCpp n) = record hosts { local_cpp = n }
with_meaning hosts Randomize = record hosts { randomize = true }

-- the words of a text up to a place mean this list of hosts so far
pub record ReadsUpTo (text : List ℕ) (from : ℕ) (hosts : Hosts) : Type 0 where
  pub before : List TextWord
  pub meanings : List Meaning
  pub words : words_of text ≡ before ++ words_from from text
  pub right : HostWords before meanings
  pub few : length (hosts_in meanings) ≤ hosts_max
  pub meant : hosts ≡ hosts_of meanings

-- a word more was read into a list of hosts, which has at most 16 entries still
pub record TakesWord (word : List ℕ) (old new : Hosts) : Type 0 where
  pub meaning : Meaning
  pub right : HostWord word meaning
  pub meant : new ≡ with_meaning old meaning
  pub few : length new.list ≤ hosts_max
