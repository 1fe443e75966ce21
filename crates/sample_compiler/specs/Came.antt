-- The result of an expansion.
use Rattle.std.specs.Prelude.{ℕ, ◌≡◌, ◌++◌, List, Bool, Result, Ok, Err}
use Rattle.sample_compiler.specs.declared.expand.Expansion.{Expansion}
use Rattle.sample_compiler.specs.declared.stops.ExpandFault.{ExpandFault}
use Rattle.sample_compiler.specs.declared.stops.ExpandStop.{ExpandStop}
use Rattle.sample_compiler.specs.Expanding.{ExpandResult}
use Rattle.sample_compiler.specs.Lookups.{Stopped}

-- after the text that was made before, this is its outcome, unless it stopped for another reason
abbrev pub Came : {T : Type 0} → Bool → ExpandResult → List ℕ → Expansion → Result T ExpandStop → Type 0
Came whole outcome before now (Ok done) = (text : List ℕ) × (outcome ≡ Ok (record { defines = now.defines; text = text }))
    × (now.text ≡ before ++ text)
Came whole outcome before now (Err stop) = Stopped whole outcome stop

-- this text or fault is its result, unless it stopped for another reason
abbrev pub CameText : Bool → Result (List ℕ) (ℕ × ExpandFault) → Result (List ℕ) ExpandStop → Type 0
CameText whole outcome (Ok text) = outcome ≡ Ok text
CameText whole outcome (Err stop) = Stopped whole outcome stop
