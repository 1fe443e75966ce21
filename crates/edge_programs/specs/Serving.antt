-- What a station that serves others runs, and what it answers in place of a run.
use Rattle.std.specs.Prelude.{ℕ, Bool, true, not, List, [], map, string_bytes, Option, None, Some, Result, Ok, Err}
use Rattle.std.specs.Prelude.{◌≡◌}
use Rattle.std.specs.Option.{is_some}
use Rattle.farm_types.specs.declared.placed.Word.{Word}
use Rattle.farm_types.specs.declared.ran.Ran.{Ran}
use Rattle.edge_traits.specs.declared.faults.StationFault.{StationFault}
use Rattle.edge_traits.specs.declared.faults.StationFault.TheVariants.{Memory}
use Rattle.edge_traits.specs.Stations.{has_output}
use Rattle.object_kind.specs.Asked.{is_asked_kind, is_filled}
use Rattle.allowed_options.specs.Served.{first_unserved}
use Rattle.edge_runs.specs.Refusals.{unserved_reply}
use Rattle.edge_programs.specs.declared.child.WordPolicy.{WordPolicy}
use Rattle.edge_programs.specs.declared.child.WordPolicy.TheVariants.{ServedWords, AllWords}

-- the folders of a compiler's parts that words may name
abbrev pub tools_in : WordPolicy → List (List ℕ)
tools_in AllWords = []
tools_in (ServedWords tools) = map string_bytes tools.items

-- the place of the first word that isn't let through, if the words are tested
abbrev pub unserved_place : Option WordPolicy → List Word → Option ℕ
unserved_place None words = None
unserved_place (Some AllWords) words = None
unserved_place (Some (ServedWords tools)) words = first_unserved words (map string_bytes tools.items)

-- the words may run: each is let through, or they need not be
abbrev pub are_let_through : Option WordPolicy → List Word → Bool
are_let_through policy words = not (is_some (unserved_place policy words))

-- What a driver of gcc or clang gives in a run for others is an object of the kind that the words ask for. In a run of this process's own it is
-- more than nothing. Of other programs nothing is asked.
abbrev pub is_fit : Option WordPolicy → List Word → List ℕ → Bool
is_fit None words object = is_filled words object
is_fit (Some policy) words object = is_asked_kind words object

-- so is what a program of status 0 left, if it was to leave an object
abbrev pub IsOfKind : Option WordPolicy → List Word → Ran → Type 0
IsOfKind policy words ran = ran.status ≡ 0 → has_output words ≡ true → is_fit policy words ran.object ≡ true

-- the reply that says which word isn't let through, or else memory ran out for it
abbrev pub IsRefusal : ℕ → List Word → Result Ran StationFault → ℕ → Type 0
IsRefusal bound words (Ok ran) place = ran ≡ unserved_reply bound words place
IsRefusal bound words (Err fault) place = fault ≡ Memory
