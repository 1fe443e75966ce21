-- What a station over programs shows: its state and its counts, but no content.
use Rattle.std.specs.Prelude.{ℕ, List, [], Option, None, Some, string_bytes}
use Rattle.std.specs.Option.{option_map}
use Rattle.std.specs.declared.time.Duration.{Duration}
use Rattle.edge_traits.specs.Told.{untold}
use Rattle.edge_traits.specs.Stations.{StationView}
use Rattle.edge_programs.specs.declared.child.ChildStation.{ChildStation}
use Rattle.edge_programs.specs.declared.child.Service.{Service}
use Rattle.edge_programs.specs.declared.child.ServingRules.{ServingRules}
use Rattle.edge_programs.specs.declared.child.WordPolicy.{WordPolicy}

abbrev pub counted_station : ℕ → ℕ → StationView
counted_station faults overruns = record { runs = untold []; faults = faults; overruns = overruns }

abbrev pub station_view : {R W : Type 0} → ChildStation R W → StationView
station_view station = counted_station station.faults station.overruns

-- the folder in which a station makes those of its runs
abbrev pub folder_of : {R W : Type 0} → ChildStation R W → List ℕ
folder_of station = string_bytes station.folder

-- the policy of a station that serves others
abbrev pub policy_in : {W : Type 0} → Option (Service W) → Option WordPolicy
policy_in service = option_map (λ one. one.rules.policy) service

abbrev pub policy_of : {R W : Type 0} → ChildStation R W → Option WordPolicy
policy_of station = policy_in station.service

-- the rules of a station that serves others: the policy and the lifetime
abbrev pub rules_of : {R W : Type 0} → ChildStation R W → Option ServingRules
rules_of station = option_map (λ one. one.rules) station.service

-- how long a program may run that it runs for others, if that is bounded
abbrev pub lifetime_in : {W : Type 0} → Option (Service W) → Option Duration
lifetime_in None = None
lifetime_in (Some service) = service.rules.lifetime

abbrev pub lifetime_of : {R W : Type 0} → ChildStation R W → Option Duration
lifetime_of station = lifetime_in station.service
