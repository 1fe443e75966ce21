-- From what was printed to how it ended.
use Rattle.std.proofs.Common.{◌≡◌, ◌<◌, ℕ, List, [], ◌∷◌, ◌++◌, length, take, refl, sym, inl, inr}
use Rattle.farm_types.specs.Exits.{stopped_status, memory_status}
use Rattle.edge_traits.specs.Told.{Grew}
use Rattle.edge_traits.specs.Sinks.{SinkView}
use Rattle.stream_print.specs.declared.one.PrintStop.{PrintStop}
use Rattle.stream_print.specs.declared.one.PrintStop.TheVariants.{Stopped, Memory}
use Rattle.stream_print.specs.declared.pieces.SinkKind.TheVariants.{Err as ErrSink}
use Rattle.stream_print.specs.declared.pieces.Piece.{Piece}
use Rattle.stream_print.specs.Prints.{SinksView, Printed, PrintedPart, GoesOn, BothGoOn, DidStop, cut}
use Rattle.stream_print.proofs.PrintLemmas.{Printed-join, Printed-err, goes-same, goes-later, GoesOn-join, part_of_one, DidStopOn-after}
use Rattle.stream_print.specs.Printing.{complaint, WantTold, told_whole, told_stopped, told_wanted, WantOf, Printing, PrintedFront}
use Rattle.stream_print.specs.Printing.{all_printed, memory_wanted}

-- the text for want of memory was printed whole
pub want_whole : (notice : List ℕ) (out old new : SinkView) → Grew old.written new.written notice → GoesOn old new
    → WantOf notice [] (record { out = out; err = old }) (record { out = out; err = new }) memory_status
want_whole notice out old new grew goes =
    record { told = (complaint notice) ∷ []; printed = Printed-err grew refl; out = goes-same out; end = told_whole goes refl }

-- a part of it was printed, and its sink stopped
pub want_stopped : (notice : List ℕ) (out old new : SinkView)
    → (n : ℕ) × (n < length notice) × Grew old.written new.written (take n notice) → DidStop old new
    → WantOf notice [] (record { out = out; err = old }) (record { out = out; err = new }) stopped_status
want_stopped notice out old new part stop =
    record {
      told = cut part.0 (complaint notice) ∷ [];
      printed = Printed-err part.2 refl;
      out = goes-same out;
      end = told_stopped (part_of_one (complaint notice) part.0 part.1) stop refl;
    }

-- a part of it was printed, and its sink wanted memory
pub want_wanted : (notice : List ℕ) (out old new : SinkView)
    → (n : ℕ) × (n < length notice) × Grew old.written new.written (take n notice) → GoesOn old new
    → WantOf notice [] (record { out = out; err = old }) (record { out = out; err = new }) memory_status
want_wanted notice out old new part goes =
    record {
      told = cut part.0 (complaint notice) ∷ [];
      printed = Printed-err part.2 refl;
      out = goes-same out;
      end = told_wanted (part_of_one (complaint notice) part.0 part.1) goes refl;
    }

WantTold-after : {notice : List ℕ} {told : List Piece} (a b c : SinksView) (answer : ℕ) → BothGoOn a b
    → WantTold notice b c answer told → WantTold notice a c answer told
WantTold-after a b c answer goes (told_whole on is) = told_whole (GoesOn-join goes.err on) is
WantTold-after a b c answer goes (told_stopped part stop is) = told_stopped part (DidStopOn-after ErrSink a b c (goes-later goes) stop) is
WantTold-after a b c answer goes (told_wanted part on is) = told_wanted part (GoesOn-join goes.err on) is

-- memory was wanting after these texts, and then the notice for it was told
want_then : {notice : List ℕ} {done : List Piece} (a b c : SinksView) (answer : ℕ) → Printed a b done → BothGoOn a b
    → WantOf notice [] b c answer → WantOf notice done a c answer
want_then a b c answer printed goes want = record {
  told = want.told;
  printed = Printed-join printed want.printed;
  out = GoesOn-join goes.out want.out;
  end = WantTold-after a b c answer goes want.end;
}

-- memory was wanting after a part of the texts
pub want_after : {notice : List ℕ} {stop : PrintStop} (pieces : List Piece) (status : ℕ) (a b c : SinksView) (answer : ℕ)
    → PrintedPart pieces stop a b → stop ≡ Memory → WantOf notice [] b c answer → Printing notice pieces status a c answer
want_after pieces status a b c answer part is want =
    memory_wanted (inr (part.next, part.part)) (want_then a b c answer part.printed (part.memory is) want)

-- a part of one text on the sink of errors
pub complaint_part : (text : List ℕ) (stop : PrintStop) (out old new : SinkView)
    → (n : ℕ) × (n < length text) × Grew old.written new.written (take n text) → (stop ≡ Stopped → DidStop old new)
    → (stop ≡ Memory → GoesOn old new)
    → PrintedPart (complaint text ∷ []) stop (record { out = out; err = old }) (record { out = out; err = new })
complaint_part text stop out old new part stopped memory =
    record {
      done = complaint (take part.0 text) ∷ [];
      next = complaint text;
      part = part_of_one (complaint text) part.0 part.1;
      printed = Printed-err part.2 refl;
      stopped = stopped;
      other = λ _. goes-same out;
      memory = λ is. record { out = goes-same out; err = memory is };
    }

pub complaint_whole : {notice : List ℕ} (text : List ℕ) (status : ℕ) (out old new : SinkView) → Grew old.written new.written text
    → GoesOn old new → Printing notice (complaint text ∷ []) status (record { out = out; err = old })
    (record { out = out; err = new }) status
complaint_whole text status out old new grew goes = all_printed (Printed-err grew refl) (record { out = goes-same out; err = goes }) refl

-- memory was wanting before anything was printed
pub want_first : {notice : List ℕ} (next : Piece) (rest : List Piece) (status : ℕ) (a b : SinksView) (answer : ℕ)
    → WantOf notice [] a b answer → Printing notice (next ∷ rest) status a b answer
want_first next rest status a b answer want = memory_wanted (inl (next, rest, refl)) want

-- memory was wanting after some first texts
pub want_front : {notice : List ℕ} {stop : PrintStop} (pieces : List Piece) (status : ℕ) (a b c : SinksView) (answer : ℕ)
    → PrintedFront pieces stop a b → stop ≡ Memory → WantOf notice [] b c answer → Printing notice pieces status a c answer
want_front pieces status a b c answer front is want =
    memory_wanted front.front (want_then a b c answer front.printed (front.memory is) want)

-- a part of some texts is a front of them
pub front_of_part : {stop : PrintStop} (pieces : List Piece) (a b : SinksView) → PrintedPart pieces stop a b → PrintedFront pieces stop a b
front_of_part pieces a b part = record {
  done = part.done;
  front = inr (part.next, part.part);
  printed = part.printed;
  stopped = λ is. record {
    done = part.done;
    next = part.next;
    part = part.part;
    printed = part.printed;
    stopped = λ same. part.stopped is;
    other = λ same. part.other is;
    memory = λ wanted. absurd (cc);
  };
  memory = part.memory;
}

-- some first texts were printed, and then memory was wanting for the next one
pub front_whole : {pieces done : List Piece} {a b : SinksView} (next : Piece) (rest : List Piece) → done ++ next ∷ rest ≡ pieces
    → Printed a b done → BothGoOn a b → PrintedFront pieces Memory a b
front_whole {done = done} next rest are printed goes =
    record { done = done; front = inl (next, rest, sym are); printed = printed; stopped = λ is. cc; memory = λ _. goes }
