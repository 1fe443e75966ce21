-- What a text is to a format: it begins with a spelling, or it has a fault, or it is short.
use Rattle.std.specs.Prelude.{ℕ, ◌≤◌, List, length, take}
use Rattle.wire_tokens.specs.Format.{Format, Stands}

-- the first bytes of text, this many, spell the value
pub record Begins {V : Type 0} (Spells : List ℕ → V → Type 0) (text : List ℕ) (used : ℕ) (value : V) : Type 0 where
  pub within : used ≤ length text
  pub spelled : Spells (take used text) value

-- text has no fault, and none of its prefixes is a spelling
pub record IsShort {V F : Type 0} (format : Format F) (Spells : List ℕ → V → Type 0) (text : List ℕ) : Type 0 where
  pub no_fault : (at : ℕ) (fault : F) → Stands format text at fault → ⊥
  pub no_value : (used : ℕ) (value : V) → Begins Spells text used value → ⊥
