-- What two sinks got.
use Rattle.std.specs.Prelude.{◌≡◌, ◌⊎◌, ℕ, ◌<◌, ◌≤◌, true, List, [], ◌∷◌, ◌++◌, length, take}
use Rattle.edge_traits.specs.Told.{Grew}
use Rattle.edge_traits.specs.Causes.{Rose, Still}
use Rattle.edge_traits.specs.Sinks.{SinkView}
use Rattle.stream_print.specs.declared.one.PrintStop.{PrintStop}
use Rattle.stream_print.specs.declared.one.PrintStop.TheVariants.{Stopped, Memory}
use Rattle.stream_print.specs.declared.pieces.SinkKind.{SinkKind}
use Rattle.stream_print.specs.declared.pieces.SinkKind.TheVariants.{Out, Err as ErrSink}
use Rattle.stream_print.specs.declared.pieces.Piece.{Piece}

-- what the two sinks show
pub record SinksView : Type 0 where
  pub out : SinkView
  pub err : SinkView

abbrev pub sinks_view : {O E : Type 0} → (O → SinkView) → (E → SinkView) → O → E → SinksView
sinks_view out_shows err_shows out err = record { out = out_shows out; err = err_shows err }

-- the bytes that go to the sink of results, to that of errors
abbrev pub for_out : SinkKind → List ℕ → List ℕ
for_out Out bytes = bytes
for_out ErrSink bytes = []

abbrev pub for_err : SinkKind → List ℕ → List ℕ
for_err Out bytes = []
for_err ErrSink bytes = bytes

abbrev pub out_bytes : List Piece → List ℕ
out_bytes [] = []
out_bytes (piece ∷ pieces) = for_out piece.sink piece.bytes ++ out_bytes pieces

abbrev pub err_bytes : List Piece → List ℕ
err_bytes [] = []
err_bytes (piece ∷ pieces) = for_err piece.sink piece.bytes ++ err_bytes pieces

-- each sink got exactly the bytes of its pieces, in order
pub record Printed (old new : SinksView) (pieces : List Piece) : Type 0 where
  pub out : Grew old.out.written new.out.written (out_bytes pieces)
  pub err : Grew old.err.written new.err.written (err_bytes pieces)

-- the counts have not fallen
pub record Later (old new : SinksView) : Type 0 where
  pub out : old.out.faults ≤ new.out.faults
  pub err : old.err.faults ≤ new.err.faults

-- the sink's count stays the same, and so does whether it is stopped
pub record GoesOn (old new : SinkView) : Type 0 where
  pub faults : Still old.faults new.faults
  pub stopped : new.stopped ≡ old.stopped

pub record BothGoOn (old new : SinksView) : Type 0 where
  pub out : GoesOn old.out new.out
  pub err : GoesOn old.err new.err

-- the sink's count rose, or it took 0 bytes
abbrev pub DidStop : SinkView → SinkView → Type 0
DidStop old new = Rose old.faults new.faults ⊎ (new.stopped ≡ true)

abbrev pub DidStopOn : SinkKind → SinksView → SinksView → Type 0
DidStopOn Out old new = DidStop old.out new.out
DidStopOn ErrSink old new = DidStop old.err new.err

-- the sink that is not this one goes on
abbrev pub OtherGoesOn : SinkKind → SinksView → SinksView → Type 0
OtherGoesOn Out old new = GoesOn old.err new.err
OtherGoesOn ErrSink old new = GoesOn old.out new.out

-- the first bytes of a piece
abbrev pub cut : ℕ → Piece → Piece
cut count piece = record { sink = piece.sink; bytes = take count piece.bytes }

-- Some first pieces whole, and a prefix of the next one, not all of it.
pub record IsCutPiece (pieces done : List Piece) (next : Piece) : Type 0 where
  pub first : List Piece
  pub rest : List Piece
  pub count : ℕ
  pub are : pieces ≡ first ++ next ∷ rest
  pub within : count < length next.bytes
  pub cut_short : done ≡ first ++ cut count next ∷ []

-- The sinks got a part of the pieces. If the printing stopped, it was because the next piece's sink did, and the other had not;
-- if memory ran out, neither had.
pub record PrintedPart (pieces : List Piece) (stop : PrintStop) (old new : SinksView) : Type 0 where
  pub done : List Piece
  pub next : Piece
  pub part : IsCutPiece pieces done next
  pub printed : Printed old new done
  pub stopped : stop ≡ Stopped → DidStopOn next.sink old new
  pub other : stop ≡ Stopped → OtherGoesOn next.sink old new
  pub memory : stop ≡ Memory → BothGoOn old new
