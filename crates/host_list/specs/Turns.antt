-- Lists that begin at another entry.
use Rattle.std.specs.Prelude.{ℕ, ◌*◌, ◌/◌, ◌^◌, List, ◌++◌, length, take, drop}
use Rattle.farm_types.specs.declared.hosts.Hosts.{Hosts}

-- the place, among `count`, to which a share of the whole turn points, in parts of 2 ^ 32
abbrev pub first_of : ℕ → ℕ → ℕ
first_of share count = share * count / 2 ^ 32

-- the list from this place on, and then what is before it
abbrev pub turn : {T : Type 0} → ℕ → List T → List T
turn at list = drop at list ++ take at list

-- the same options, and the entries turned
abbrev pub turned_by : ℕ → Hosts → Hosts
turned_by share hosts = record {
  list = turn (first_of share (length hosts.list)) hosts.list;
  local_slots = hosts.local_slots;
  local_cpp = hosts.local_cpp;
  randomize = hosts.randomize;
}
