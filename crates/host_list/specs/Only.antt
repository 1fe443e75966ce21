-- Lists with one of their entries only.
use Rattle.std.specs.Prelude.{◌≡◌, ℕ, List, [], ◌∷◌, Option, Some, None, find, Bool, ◌&&◌, nat_eq, bytes_eq, if◌then◌else◌, not}
use Rattle.farm_types.specs.declared.hosts.Host.{Host}
use Rattle.farm_types.specs.declared.hosts.Hosts.{Hosts}
use Rattle.host_list.specs.HostLists.{HostListOf}

-- both are one entry: they have one name, one port and one limit, and both or neither are this machine
abbrev pub is_same : Host → Host → Bool
is_same a b =
    bytes_eq a.name.text b.name.text && nat_eq a.port b.port && nat_eq a.limit b.limit
    && (if a.local then b.local else not b.local)

-- the entry of a list that another list names as its only one
abbrev pub named_in : List Host → List Host → Option Host
named_in hosts [] = None
named_in hosts (wanted ∷ []) = find (is_same wanted) hosts
named_in hosts (wanted ∷ other ∷ more) = None

-- the same options, and this entry only
abbrev pub only_of : Host → Hosts → Hosts
only_of host hosts = record hosts { list = host ∷ [] }

-- a text of the list with this entry only, or none if there is no such entry
abbrev pub OnlyText : Hosts → Option Host → Option (List ℕ) → Type 0
OnlyText hosts None made = made ≡ None
OnlyText hosts (Some host) None = ⊥
OnlyText hosts (Some host) (Some made) = HostListOf made (only_of host hosts)
