-- One text after another.
use Rattle.std.proofs.Common.{◌≡◌, ◌≤◌, ℕ, List, [], ◌∷◌, ◌++◌, take, ◌∙◌, sym, refl, ap, append_assoc, Result, Err, Ok, OnErr, IfErr}
use Rattle.std.proofs.Common.{IsErrOf, get_or, drop, drop-cons, suc, ◌+◌, IsTrue, length, ◌<◌, subst, inl, inr, arith}
use Rattle.std.proofs.lemmas.Grind.{common_steps}
use Rattle.std.proofs.lemmas.List.{append-nil, take-append-drop}
use Rattle.edge_traits.specs.Told.{Grew}
use Rattle.edge_traits.specs.Causes.{Rose}
use Rattle.edge_traits.specs.Sinks.{SinkView}
use Rattle.stream_print.specs.declared.one.PrintStop.TheVariants.{Stopped, Memory}
use Rattle.edge_traits.proofs.ToldLemmas.{Grew-join, Grew-refl, Grew-by}
use Rattle.stream_print.specs.declared.one.PrintStop.{PrintStop}
use Rattle.stream_print.specs.declared.pieces.SinkKind.{SinkKind}
use Rattle.stream_print.specs.declared.pieces.SinkKind.TheVariants.{Out, Err as ErrSink}
use Rattle.stream_print.specs.declared.pieces.Piece.{Piece}
use Rattle.stream_print.specs.Prints.{SinksView, Printed, PrintedPart, IsCutPiece, Later, GoesOn, BothGoOn, DidStop, DidStopOn}
use Rattle.stream_print.specs.Prints.{OtherGoesOn, out_bytes, err_bytes, for_out, for_err, cut}

pub out_bytes-append : (a b : List Piece) → out_bytes a ++ out_bytes b ≡ out_bytes (a ++ b)
out_bytes-append [] b = refl
out_bytes-append (p ∷ a) b = append_assoc (for_out p.sink p.bytes) (out_bytes a) (out_bytes b)
    ∙ ap (λ xs. for_out p.sink p.bytes ++ xs) (out_bytes-append a b)

pub err_bytes-append : (a b : List Piece) → err_bytes a ++ err_bytes b ≡ err_bytes (a ++ b)
err_bytes-append [] b = refl
err_bytes-append (p ∷ a) b = append_assoc (for_err p.sink p.bytes) (err_bytes a) (err_bytes b)
    ∙ ap (λ xs. for_err p.sink p.bytes ++ xs) (err_bytes-append a b)

-- what was printed after what was printed
pub Printed-join : {a b c : SinksView} {x y : List Piece} → Printed a b x → Printed b c y → Printed a c (x ++ y)
Printed-join {x = x} {y = y} first second = record {
  out = Grew-join first.out second.out (out_bytes-append x y);
  err = Grew-join first.err second.err (err_bytes-append x y);
}

-- nothing was printed
pub Printed-nothing : (sinks : SinksView) → Printed sinks sinks []
Printed-nothing sinks = record { out = Grew-refl _; err = Grew-refl _ }

-- one text on the sink of results
pub Printed-out : {old new : SinksView} {bytes : List ℕ} → Grew old.out.written new.out.written bytes → new.err ≡ old.err
    → Printed old new (record { sink = Out; bytes = bytes } ∷ [])
Printed-out {old = old} {new = new} {bytes = bytes} grew same = record {
  out = Grew-by grew (sym (append-nil bytes));
  err = record {
    known = λ k. subst (λ s. IsTrue s.written.known) same k;
    grew = λ k. ap (λ s. s.written.value) same
        ∙ sym (append-nil old.err.written.value);
  };
}

-- one text on the sink of errors
pub Printed-err : {old new : SinksView} {bytes : List ℕ} → Grew old.err.written new.err.written bytes → new.out ≡ old.out
    → Printed old new (record { sink = ErrSink; bytes = bytes } ∷ [])
Printed-err {old = old} {new = new} {bytes = bytes} grew same = record {
  err = Grew-by grew (sym (append-nil bytes));
  out = record {
    known = λ k. subst (λ s. IsTrue s.written.known) same k;
    grew = λ k. ap (λ s. s.written.value) same
        ∙ sym (append-nil old.out.written.value);
  };
}

-- a part of one text
pub part_of_one : (piece : Piece) (n : ℕ) → n < length piece.bytes → IsCutPiece (piece ∷ []) (cut n piece ∷ []) piece
part_of_one piece n within = record { first = []; rest = []; count = n; are = refl; within = within; cut_short = refl }

-- a part of what comes after
pub IsPart-after : {pieces done : List Piece} {next : Piece} (before after : List Piece) → IsCutPiece pieces done next
    → IsCutPiece (before ++ (pieces ++ after)) (before ++ done) next
IsPart-after {pieces = pieces} {done = done} {next = next} before after part = record {
  first = before ++ part.first;
  rest = part.rest ++ after;
  count = part.count;
  are = ap (λ ps. before ++ (ps ++ after)) part.are ∙ grind (arith, common_steps);
  within = part.within;
  cut_short = ap (λ ps. before ++ ps) part.cut_short ∙ grind (arith, common_steps);
}

Rose-after : {a b c : ℕ} → a ≤ b → Rose b c → Rose a c
Rose-after later rose = omega arith

DidStop-after : (a b c : SinkView) → a.faults ≤ b.faults → DidStop b c → DidStop a c
DidStop-after a b c later (inl rose) = inl (Rose-after later rose)
DidStop-after a b c later (inr stopped) = inr stopped

pub DidStopOn-after : (on : SinkKind) (a b c : SinksView) → Later a b → DidStopOn on b c → DidStopOn on a c
DidStopOn-after Out a b c later stop = DidStop-after a.out b.out c.out later.out stop
DidStopOn-after ErrSink a b c later stop = DidStop-after a.err b.err c.err later.err stop

pub Later-refl : (a : SinksView) → Later a a
Later-refl a = record { out = omega arith; err = omega arith }

pub Later-join : {a b c : SinksView} → Later a b → Later b c → Later a c
Later-join first second = record { out = omega arith; err = omega arith }

pub GoesOn-join : {a b c : SinkView} → GoesOn a b → GoesOn b c → GoesOn a c
GoesOn-join first second = record { faults = second.faults ∙ first.faults; stopped = second.stopped ∙ first.stopped }

pub goes-join : {a b c : SinksView} → BothGoOn a b → BothGoOn b c → BothGoOn a c
goes-join first second = record { out = GoesOn-join first.out second.out; err = GoesOn-join first.err second.err }

pub goes-same : (a : SinkView) → GoesOn a a
goes-same a = record { faults = refl; stopped = refl }

pub goes-later : {a b : SinksView} → BothGoOn a b → Later a b
goes-later both = record { out = omega (arith, both.out.faults); err = omega (arith, both.err.faults) }

pub OtherGoesOn-after : (on : SinkKind) (a b c : SinksView) → BothGoOn a b → OtherGoesOn on b c → OtherGoesOn on a c
OtherGoesOn-after Out a b c goes other = GoesOn-join goes.err other
OtherGoesOn-after ErrSink a b c goes other = GoesOn-join goes.out other

-- a part, after some whole pieces
pub PrintedPart-after : {stop : PrintStop} {pieces : List Piece} {a b c : SinksView} (before after all : List Piece)
    → before ++ (pieces ++ after) ≡ all → Printed a b before → BothGoOn a b → PrintedPart pieces stop b c → PrintedPart all stop a c
PrintedPart-after {a = a} {b = b} {c = c} before after all are printed goes part = record {
  done = before ++ part.done;
  next = part.next;
  part = subst (λ ps. IsCutPiece ps (before ++ part.done) part.next) are (IsPart-after before after part.part);
  printed = Printed-join printed part.printed;
  stopped = λ stop. DidStopOn-after part.next.sink a b c (goes-later goes) (part.stopped stop);
  other = λ stop. OtherGoesOn-after part.next.sink a b c goes (part.other stop);
  memory = λ is. goes-join goes (part.memory is);
}

-- one more
pub take_more : (pieces : List Piece) (i : ℕ) (piece : Piece) → i < length pieces → piece ≡ get_or pieces i piece
    → take i pieces ++ (piece ∷ []) ≡ take (i + 1) pieces
take_more pieces i piece within is = ap (λ p. take i pieces ++ (p ∷ [])) is ∙ grind (arith, common_steps)

-- an item of a list stands between those before it and those after it
pub around : (pieces : List Piece) (i : ℕ) (piece : Piece) → i < length pieces → piece ≡ get_or pieces i piece
    → take i pieces ++ ((piece ∷ []) ++ drop (suc i) pieces) ≡ pieces
around pieces i piece within is =
    ap (λ p. take i pieces ++ (p ∷ drop (suc i) pieces)) is ∙ ap (λ ps. take i pieces ++ ps) (sym (drop-cons pieces i piece within))
    ∙ take-append-drop i pieces

module _ {T : Type 0} (result : Result T PrintStop) (piece : Piece) (bytes : List ℕ) (same : bytes ≡ piece.bytes) where
  pub out_part : (old new err : SinkView) → piece.sink ≡ Out
      → OnErr result ((n : ℕ) × (n < length bytes) × Grew old.written new.written (take n bytes))
      → (IsErrOf result Stopped → DidStop old new) → (IsErrOf result Memory → GoesOn old new)
      → IfErr result (λ stop. PrintedPart (piece ∷ []) stop (record { out = old; err = err }) (record { out = new; err = err }))
  out_part old new err on part stop memory =
      elim result as (λ r. OnErr r ((n : ℕ) × (n < length bytes) × Grew old.written new.written (take n bytes))
      → (IsErrOf r Stopped → DidStop old new) → (IsErrOf r Memory → GoesOn old new)
      → IfErr r (λ stop. PrintedPart (piece ∷ []) stop (record { out = old; err = err }) (record { out = new; err = err }))) [
        | Ok x ↦ λ p s m. tt
        | Err e ↦ λ p s m. record {
          done = cut p.0 piece ∷ [];
          next = piece;
          part = part_of_one piece p.0 (subst (λ b. p.0 < length b) same p.1);
          printed = subst (λ o. Printed (record { out = old; err = err }) (record { out = new; err = err })
              (record { sink = o; bytes = take p.0 piece.bytes } ∷ [])) (sym on)
              (Printed-out (subst (λ b. Grew old.written new.written (take p.0 b)) same p.2) refl);
          stopped = λ stop. subst (λ o. DidStopOn o (record { out = old; err = err }) (record { out = new; err = err })) (sym on)
              (s (ap (λ e. Err e) stop));
          other = λ _. subst (λ o. OtherGoesOn o (record { out = old; err = err }) (record { out = new; err = err })) (sym on)
              (goes-same err);
          memory = λ is. record { out = m (ap (λ e. Err e) is); err = goes-same err };
        }
      ] part stop memory

  pub err_part : (old new out : SinkView) → piece.sink ≡ ErrSink
      → OnErr result ((n : ℕ) × (n < length bytes) × Grew old.written new.written (take n bytes))
      → (IsErrOf result Stopped → DidStop old new) → (IsErrOf result Memory → GoesOn old new)
      → IfErr result (λ stop. PrintedPart (piece ∷ []) stop (record { out = out; err = old }) (record { out = out; err = new }))
  err_part old new out on part stop memory =
      elim result as (λ r. OnErr r ((n : ℕ) × (n < length bytes) × Grew old.written new.written (take n bytes))
      → (IsErrOf r Stopped → DidStop old new) → (IsErrOf r Memory → GoesOn old new)
      → IfErr r (λ stop. PrintedPart (piece ∷ []) stop (record { out = out; err = old }) (record { out = out; err = new }))) [
        | Ok x ↦ λ p s m. tt
        | Err e ↦ λ p s m. record {
          done = cut p.0 piece ∷ [];
          next = piece;
          part = part_of_one piece p.0 (subst (λ b. p.0 < length b) same p.1);
          printed = subst (λ o. Printed (record { out = out; err = old }) (record { out = out; err = new })
              (record { sink = o; bytes = take p.0 piece.bytes } ∷ [])) (sym on)
              (Printed-err (subst (λ b. Grew old.written new.written (take p.0 b)) same p.2) refl);
          stopped = λ stop. subst (λ o. DidStopOn o (record { out = out; err = old }) (record { out = out; err = new })) (sym on)
              (s (ap (λ e. Err e) stop));
          other = λ _. subst (λ o. OtherGoesOn o (record { out = out; err = old }) (record { out = out; err = new })) (sym on)
              (goes-same out);
          memory = λ is. record { out = goes-same out; err = m (ap (λ e. Err e) is) };
        }
      ] part stop memory
