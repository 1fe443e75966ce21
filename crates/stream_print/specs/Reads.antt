-- What was read of an input, and what is left.
use Rattle.std.specs.Prelude.{◌≡◌, ℕ, ◌<◌, ◌≤◌, true, false, IsTrue, List, [], length}
use Rattle.edge_traits.specs.Told.{Grew}
use Rattle.edge_traits.specs.Causes.{Rose, Still}
use Rattle.edge_traits.specs.Sources.{SourceView, Lost}
use Rattle.stream_print.specs.declared.reads.Input.{Input}
use Rattle.stream_print.specs.declared.reads.Input.TheVariants.{Whole, TooLong, Unread}

-- the source gave exactly this text
pub record TookIn (old new : SourceView) (text : List ℕ) : Type 0 where
  pub read : Grew old.read new.read text
  pub left : Lost old.left new.left text
  pub later : old.faults ≤ new.faults

-- the source gave this text and its end, no read failed, and nothing is left unread
pub record AllRead (old new : SourceView) (text : List ℕ) : Type 0 where
  pub took : TookIn old new text
  pub still : Still old.faults new.faults
  pub ended : new.ended ≡ true
  pub nothing_left : IsTrue new.left.known → new.left.value ≡ []

-- the source gave this many bytes, no read failed, and its end was not looked for
pub record ReadTo (limit : ℕ) (old new : SourceView) : Type 0 where
  pub text : List ℕ
  pub took : TookIn old new text
  pub long : length text ≡ limit
  pub still : Still old.faults new.faults
  pub not_ended : new.ended ≡ false

-- the source's count rose before its end or the limit came
pub record BrokeOff (limit : ℕ) (old new : SourceView) : Type 0 where
  pub text : List ℕ
  pub took : TookIn old new text
  pub short : length text < limit
  pub not_ended : new.ended ≡ false
  pub rose : Rose old.faults new.faults

-- by how the reading ended
abbrev pub HasRead : ℕ → Input → SourceView → SourceView → Type 0
HasRead limit (Whole text) old new = AllRead old new text × (length text < limit)
HasRead limit TooLong old new = ReadTo limit old new
HasRead limit Unread old new = BrokeOff limit old new

-- something was read, within the limit, or nothing
pub record HasReadSome (limit : ℕ) (old new : SourceView) : Type 0 where
  pub text : List ℕ
  pub took : TookIn old new text
  pub within : length text ≤ limit
