-- What a text can mean is within the limits.
use Rattle.std.proofs.Common.{◌≡◌, ℕ, ◌≤◌, Bool, true, false, cond, List, [], ◌∷◌, length, Option, Some, None, Result, Ok, Err, refl, ap}
use Rattle.std.proofs.Common.{sym, subst, inl, inr, arith}
use Rattle.std.specs.Prelude.{codes, IfOk, All, unwrap_or}
use Rattle.std.specs.Str.{bytes_eq}
use Rattle.std.proofs.lemmas.Bool.{false≢true, and_parts}
use Rattle.std.proofs.lemmas.Slice.Eq.{bytes_eq-Decides}
use Rattle.std.proofs.lemmas.List.Elements.{All-nil, All-cons}
use Rattle.farm_types.specs.Limits.{hosts_max, port_default, port_max, slots_max}
use Rattle.farm_types.specs.Decimals.{IsDecimal}
use Rattle.farm_types.specs.declared.hosts.Host.{Host}
use Rattle.farm_types.specs.declared.hosts.Hosts.{Hosts}
use Rattle.host_list.specs.declared.meaning.Meaning.{Meaning}
use Rattle.host_list.specs.declared.meaning.Meaning.TheVariants.{Entry, LocalSlots, LocalCpp, Randomize}
use Rattle.host_list.specs.declared.fault.HostError.{HostError}
use Rattle.host_list.specs.Names.{IsHostName}
use Rattle.host_list.specs.TextWords.{TextWord}
use Rattle.host_list.specs.HostWords.{SpellsHost, SpellsParts, host_of, names_this_machine}
use Rattle.host_list.specs.HostLists.{HostWords, hosts_in, last_slots, last_cpp, hosts_of, HostListOf, IsHost, AreHosts}

abbrev InRange : ℕ → Option ℕ → Type 0
InRange most None = Unit {0}
InRange most (Some n) = (1 ≤ n) × (n ≤ most)

number_range : (digits greatest : ℕ) (text : List ℕ) (n : ℕ) → IsDecimal digits 1 greatest text n → (1 ≤ n) × (n ≤ greatest)
number_range digits greatest text n h = (h.low, h.high)

parts_range : (port limit : Option ℕ) (parts : List ℕ) → SpellsParts port limit parts → InRange port_max port × InRange slots_max limit
parts_range None None parts h = (tt, tt)
parts_range (Some port) None parts h = (number_range 5 port_max h.0 port h.1, tt)
parts_range None (Some limit) parts h = (tt, number_range 3 slots_max h.0 limit h.1)
parts_range (Some port) (Some limit) parts (first, second, e, inl pl) =
    (number_range 5 port_max pl.0.0 port pl.0.1, number_range 3 slots_max pl.1.0 limit pl.1.1)
parts_range (Some port) (Some limit) parts (first, second, e, inr lp) =
    (number_range 5 port_max lp.1.0 port lp.1.1, number_range 3 slots_max lp.0.0 limit lp.0.1)

default_limit : (b : Bool) → (1 ≤ cond b 2 4) × (cond b 2 4 ≤ slots_max)
default_limit true = (omega arith, omega arith)
default_limit false = (omega arith, omega arith)

local_name : (name : List ℕ) (port : Option ℕ) → names_this_machine name port ≡ true → (name ≡ codes "localhost") × (port ≡ None)
local_name name None h = let two = and_parts (bytes_eq name (codes "localhost")) true h in
    ((bytes_eq-Decides name (codes "localhost")).0 two.0, refl)
local_name name (Some port) h = let two = and_parts (bytes_eq name (codes "localhost")) false h in absurd (false≢true two.1)

port_of : (port : Option ℕ) → InRange port_max port → (1 ≤ unwrap_or port port_default) × (unwrap_or port port_default ≤ port_max)
port_of None h = (omega arith, omega arith)
port_of (Some port) h = h

limit_of : (name : List ℕ) (port limit : Option ℕ) → InRange slots_max limit
    → (1 ≤ (host_of name port limit).limit) × ((host_of name port limit).limit ≤ slots_max)
limit_of name port None h = default_limit (names_this_machine name port)
limit_of name port (Some limit) h = h

made : (name : List ℕ) (port limit : Option ℕ) → IsHostName name → InRange port_max port → InRange slots_max limit
    → IsHost (host_of name port limit)
made name port limit named p l =
    let ports = port_of port p in
    let limits = limit_of name port limit l in
    record {
      named = named;
      port_low = ports.0;
      port_high = ports.1;
      limit_low = limits.0;
      limit_high = limits.1;
      here = λ local. let is = local_name name port local in (is.0, ap (λ o. unwrap_or o port_default) is.1);
    }

host_within : (word : List ℕ) (host : Host) → SpellsHost word host → IsHost host
host_within word host h = let ranges = parts_range h.port h.limit h.parts h.behind in
    subst IsHost (sym h.meant) (made h.name h.port h.limit h.named ranges.0 ranges.1)

entries_within : (ws : List TextWord) (ms : List Meaning) → HostWords ws ms → All IsHost (hosts_in ms)
entries_within [] [] h = All-nil IsHost
entries_within [] (m ∷ ms) h = absurd h
entries_within (w ∷ ws) [] h = absurd h
entries_within (w ∷ ws) (Entry host ∷ ms) h = All-cons IsHost host (hosts_in ms) (host_within w.bytes host h.0) (entries_within ws ms h.1)
entries_within (w ∷ ws) (LocalSlots n ∷ ms) h = entries_within ws ms h.1
entries_within (w ∷ ws) (LocalCpp n ∷ ms) h = entries_within ws ms h.1
entries_within (w ∷ ws) (Randomize ∷ ms) h = entries_within ws ms h.1

slots_within : (slots : ℕ) (ws : List TextWord) (ms : List Meaning) → 1 ≤ slots → slots ≤ slots_max → HostWords ws ms
    → (1 ≤ last_slots slots ms) × (last_slots slots ms ≤ slots_max)
slots_within slots [] [] low high h = (low, high)
slots_within slots [] (m ∷ ms) low high h = absurd h
slots_within slots (w ∷ ws) [] low high h = absurd h
slots_within slots (w ∷ ws) (Entry host ∷ ms) low high h = slots_within slots ws ms low high h.1
slots_within slots (w ∷ ws) (LocalSlots n ∷ ms) low high h = slots_within n ws ms h.0.1.low h.0.1.high h.1
slots_within slots (w ∷ ws) (LocalCpp n ∷ ms) low high h = slots_within slots ws ms low high h.1
slots_within slots (w ∷ ws) (Randomize ∷ ms) low high h = slots_within slots ws ms low high h.1

cpp_within : (slots : ℕ) (ws : List TextWord) (ms : List Meaning) → 1 ≤ slots → slots ≤ slots_max → HostWords ws ms
    → (1 ≤ last_cpp slots ms) × (last_cpp slots ms ≤ slots_max)
cpp_within slots [] [] low high h = (low, high)
cpp_within slots [] (m ∷ ms) low high h = absurd h
cpp_within slots (w ∷ ws) [] low high h = absurd h
cpp_within slots (w ∷ ws) (Entry host ∷ ms) low high h = cpp_within slots ws ms low high h.1
cpp_within slots (w ∷ ws) (LocalSlots n ∷ ms) low high h = cpp_within slots ws ms low high h.1
cpp_within slots (w ∷ ws) (LocalCpp n ∷ ms) low high h = cpp_within n ws ms h.0.1.low h.0.1.high h.1
cpp_within slots (w ∷ ws) (Randomize ∷ ms) low high h = cpp_within slots ws ms low high h.1

meant_within : (ws : List TextWord) (ms : List Meaning) → HostWords ws ms → length (hosts_in ms) ≤ hosts_max → AreHosts (hosts_of ms)
meant_within ws ms h few =
    let slots = slots_within 4 ws ms (omega arith) (omega arith) h in
    let cpp = cpp_within 8 ws ms (omega arith) (omega arith) h in
    record { each = entries_within ws ms h; few = few; slots_low = slots.0; slots_high = slots.1; cpp_low = cpp.0; cpp_high = cpp.1 }

pub list_within : (text : List ℕ) (hosts : Hosts) → HostListOf text hosts → AreHosts hosts
list_within text hosts h = subst AreHosts (sym h.meant) (meant_within h.words h.meanings h.each h.few)

pub answer_within : (text : List ℕ) (r : Result Hosts HostError) → IfOk r (λ hosts. HostListOf text hosts)
    → IfOk r (λ hosts. AreHosts hosts)
answer_within text (Ok hosts) h = list_within text hosts h
answer_within text (Err e) h = h
