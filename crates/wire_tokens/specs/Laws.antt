-- The laws of the texts of a format, whose spellings are of values.
use Rattle.std.specs.Prelude.{ℕ, ◌≡◌, ◌≤◌, ◌⊎◌, List, [], ◌++◌, length}
use Rattle.wire_tokens.specs.Format.{Format, Stands}
use Rattle.wire_tokens.specs.Texts.{Begins, IsShort}

-- A text begins with at most one spelling, which has one value.
pub record SpellsOnce {V : Type 0} (Spells : List ℕ → V → Type 0) : Type 0 where
  pub one_spelling : (text : List ℕ) (i j : ℕ) (v w : V) → Begins Spells text i v → Begins Spells text j w → (i ≡ j) × (v ≡ w)
  pub one_value : (text : List ℕ) (v w : V) → Spells text v → Spells text w → v ≡ w
  pub no_proper_prefix : (text more : List ℕ) (v w : V) → Spells text v → Spells (text ++ more) w → more ≡ []

-- A text has at most one fault, and every longer text has it at the same place.
pub record FaultsOnce {F : Type 0} (format : Format F) : Type 0 where
  pub one_fault : (text : List ℕ) (i j : ℕ) (f g : F) → Stands format text i f → Stands format text j g → (i ≡ j) × (f ≡ g)
  pub longer : (text more : List ℕ) (at : ℕ) (fault : F) → Stands format text at fault → Stands format (text ++ more) at fault

-- Of a prefix that is a spelling, a fault, and a short text there is exactly one.
pub record IsOneOfThree {V F : Type 0} (format : Format F) (Spells : List ℕ → V → Type 0) : Type 0 where
  pub one_of_three : (text : List ℕ) → ((used : ℕ) × (v : V) × Begins Spells text used v)
      ⊎ (((at : ℕ) × (fault : F) × Stands format text at fault) ⊎ IsShort format Spells text)
  pub spelled_or_fault : (text : List ℕ) (used at : ℕ) (v : V) (fault : F) → Begins Spells text used v → Stands format text at fault → ⊥
  pub spelled_or_short : (text : List ℕ) (used : ℕ) (v : V) → Begins Spells text used v → IsShort format Spells text → ⊥
  pub fault_or_short : (text : List ℕ) (at : ℕ) (fault : F) → Stands format text at fault → IsShort format Spells text → ⊥

-- The empty text is short, and so is every proper prefix of a spelling. A short text has at most this many bytes, and may have as many.
pub record ShortUpTo {V F : Type 0} (format : Format F) (Spells : List ℕ → V → Type 0) (max : ℕ) : Type 0 where
  pub empty : IsShort format Spells []
  pub cut : (text more : List ℕ) (v : V) → Spells (text ++ more) v → (more ≡ [] → ⊥) → IsShort format Spells text
  pub short : (text : List ℕ) → IsShort format Spells text → length text ≤ max
  pub longest : (text : List ℕ) × IsShort format Spells text × (length text ≡ max)
