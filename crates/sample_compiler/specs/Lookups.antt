-- What is known of the files of a run.
use Rattle.std.specs.Prelude.{ℕ, ◌≡◌, List, Bool, true, false, ◌||◌, Option, Some, None, Result, Ok, Err}
use Rattle.std.specs.List.{list_any}
use Rattle.std.specs.Str.{bytes_eq}
use Rattle.std.specs.FinMap.{get}
use Rattle.file_map.specs.FileMaps.{Files}
use Rattle.sample_compiler.specs.declared.stops.ExpandFault.{ExpandFault}
use Rattle.sample_compiler.specs.declared.stops.ExpandStop.{ExpandStop}
use Rattle.sample_compiler.specs.declared.stops.ExpandStop.TheVariants.{Fault, Unknown, Memory}

abbrev pub is_listed : List (List ℕ) → List ℕ → Bool
is_listed names name = list_any (λ listed. bytes_eq listed name) names

-- The files are those of the map, and maybe more: but not these names, and none at all if the map is whole.
pub record Agrees (known : Files) (absent : List (List ℕ)) (whole : Bool) (files : Files) : Type 0 where
  pub there : (path content : List ℕ) → get known path ≡ Some content → get files path ≡ Some content
  pub gone : (path : List ℕ) → get known path ≡ None → (whole || is_listed absent path) ≡ true → get files path ≡ None

-- The run ended with this fault, or met a name that isn't known, which happens only if the map isn't whole, or memory ran out.
abbrev pub Stopped : {A : Type 0} → Bool → Result A (ℕ × ExpandFault) → ExpandStop → Type 0
Stopped whole outcome (Fault line fault) = outcome ≡ Err (line, fault)
Stopped whole outcome (Unknown path) = whole ≡ false
Stopped whole outcome Memory = Unit {0}

-- how a lookup may stop: a name isn't known, if the map isn't whole, or memory ran out; there is no fault
abbrev pub LookStopped : Bool → ExpandStop → Type 0
LookStopped whole (Fault line fault) = ⊥
LookStopped whole (Unknown path) = whole ≡ false
LookStopped whole Memory = Unit {0}

-- this file was found, or none, unless the lookup stopped
abbrev pub Looked : {T : Type 0} → (T → Option (List ℕ)) → Bool → Option (List ℕ) → Result T ExpandStop → Type 0
Looked view whole there (Ok found) = view found ≡ there
Looked view whole there (Err stop) = LookStopped whole stop
