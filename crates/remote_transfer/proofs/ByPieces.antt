-- A reply that is received piece by piece.
use Rattle.std.proofs.Common.{◌≡◌, ℕ, ◌+◌, ◌-◌, ◌≤◌, List, [], ◌++◌, length, take, drop, refl, sym, ap, subst, ◌∙◌, arith}
use Rattle.std.specs.Prelude.{Some, None, Result, Ok, Err, IfOk, IfErr}
use Rattle.std.proofs.lemmas.List.{length-append, length-take, take-take, drop-take}
use Rattle.farm_types.specs.declared.ran.Outcome.{Outcome}
use Rattle.wire_tokens.specs.Reply.{BeginsReply, IsShortReply}
use Rattle.wire_tokens.proofs.ReplyLaws.{short_len, empty_is_short}
use Rattle.edge_traits.specs.declared.cause.Cause.TheVariants.{Dial, Send, Recv, Truncated, BadReply, Stopped}
use Rattle.edge_traits.specs.Told.{Grew}
use Rattle.edge_traits.specs.Causes.{Still}
use Rattle.edge_traits.specs.Links.{LinkView}
use Rattle.edge_traits.proofs.ToldLemmas.{Grew-then, Grew-still, Grew-refl}
use Rattle.reply_stream.specs.declared.answers.Span.{Span}
use Rattle.reply_stream.specs.declared.answers.Part.TheVariants.{More, Whole}
use Rattle.reply_stream.specs.Objects.{with_object, spanned, IsSpan, object_so_far}
use Rattle.reply_stream.specs.Reader.{Place, reading, refused, spent, IsAt, IsSpent, Uses, Says, Joins, Leaves}
use Rattle.remote_transfer.specs.declared.answers.Stop.{Stop}
use Rattle.remote_transfer.specs.declared.answers.Stop.TheVariants.{Broke, Memory}
use Rattle.remote_transfer.specs.Links.{Given, OnlyReceives, ReplyIs}
use Rattle.remote_transfer.specs.Pieces.{Comes, PieceRead, PieceStops, Received}

-- a reader that is at a text isn't spent
pub not_spent : (place : Place) (text object : List ℕ) → IsAt place text object → IsSpent place → ⊥
not_spent (reading fields bytes given) text object here gone = gone
not_spent (refused place fault) text object here gone = gone
not_spent spent text object here gone = here

-- ---- a link that only receives

pub receives-none : {L : Type 0} {shows : L → LinkView} {Follows : L → L → Type 0} (link : L) → Follows link link
    → OnlyReceives shows Follows link link
receives-none {shows = shows} link itself = record {
  sent = Grew-refl (shows link).sent;
  stopped = refl;
  follows = itself;
  later = omega arith;
}

pub receives-then : {L : Type 0} {shows : L → LinkView} {Follows : L → L → Type 0}
    → ((a b c : L) → Follows a b → Follows b c → Follows a c) → {old mid new : L}
    → OnlyReceives shows Follows old mid → OnlyReceives shows Follows mid new → OnlyReceives shows Follows old new
receives-then on {old = old} {mid = mid} {new = new} first second = record {
  sent = Grew-still first.sent second.sent;
  stopped = second.stopped ∙ first.stopped;
  follows = on old mid new first.follows second.follows;
  later = omega (arith, first.later, second.later);
}

-- ---- one piece

span_fits : (span : Span) (used n : ℕ) (room : List ℕ) → IsSpan span used → used ≤ length (take n room) → IsSpan span n
span_fits span used n room s fits = record { ordered = s.ordered; within = omega (arith, s.within, fits, length-take n room) }

pub span_in_room : (span : Span) (used n : ℕ) (room : List ℕ) → IsSpan span used → used ≤ length (take n room) → IsSpan span (length room)
span_in_room span used n room s fits = record { ordered = s.ordered; within = omega (arith, s.within, fits, length-take n room) }

-- a span of the front of a room is one of the room
spanned-front : (span : Span) (n : ℕ) (room : List ℕ) → IsSpan span n → spanned span (take n room) ≡ spanned span room
spanned-front span n room s =
    let ordered = s.ordered in
    let within = s.within in
    let whole : n ≡ span.from + (n - span.from) = omega arith in
    let front : drop span.from (take n room) ≡ take (n - span.from) (drop span.from room) =
    ap (λ (k : ℕ). drop span.from (take k room)) whole ∙ drop-take span.from (n - span.from) room in
    ap (λ (x : List ℕ). take (span.to - span.from) x) front ∙ take-take (span.to - span.from) (n - span.from) (drop span.from room)
    (omega arith)

pub comes-more : (before after : Place) (n used : ℕ) (room : List ℕ) (span : Span) → Uses (take n room) (More used span)
    → ((text object : List ℕ) → IsAt before text object → Says text object (take n room) (More used span))
    → ((text object : List ℕ) → IsAt before text object → Joins text object (take n room) (More used span))
    → ((text object : List ℕ) → IsAt before text object → Leaves text object (take n room) (More used span) after)
    → (text object : List ℕ) → IsAt before text object → Comes (text ++ take n room) (object ++ spanned span room) after None
comes-more before after n used room span uses says joined leaves text object at =
    let same = spanned-front span n room (span_fits span used n room uses.1 (omega (arith, uses.0))) in (
      says text object at,
      subst (λ (x : List ℕ). IsAt after (text ++ take n room) (object ++ x)) same (leaves text object at),
      subst (λ (x : List ℕ). object ++ x ≡ object_so_far (text ++ take n room)) same (joined text object at),
    )

pub comes-whole : (before after : Place) (n used : ℕ) (room : List ℕ) (span : Span) (o : Outcome) → Uses (take n room) (Whole used span o)
    → ((text object : List ℕ) → IsAt before text object → Says text object (take n room) (Whole used span o))
    → (text object : List ℕ) → IsAt before text object → Comes (text ++ take n room) (object ++ spanned span room) after (Some o)
comes-whole before after n used room span o uses says text object at =
    let same = spanned-front span n room (span_fits span used n room uses.1 uses.0) in (
      uses.2,
      (
        length text + used,
        subst (λ (x : List ℕ). BeginsReply (text ++ take n room) (length text + used) (with_object o (object ++ x))) same
            (says text object at),
      ),
    )

-- ---- one piece after another

-- A short text was given so far, which has so many bytes, and these are the object's.
pub record Receiving (old now : LinkView) (place : Place) (have : ℕ) (object : List ℕ) : Type 0 where
  pub text : List ℕ
  pub grew : Grew old.given now.given text
  pub at : IsAt place text object
  pub long : length text ≡ have
  pub short : IsShortReply text
  pub ended : now.ended ≡ old.ended
  pub still : Still old.faults now.faults

unfoldable pub receiving-begins : (link : LinkView) (place : Place) → IsAt place [] [] → Receiving link link place 0 []
receiving-begins link place at =
    record { text = []; grew = Grew-refl link.given; at = at; long = refl; short = empty_is_short; ended = refl; still = refl }

pub receiving-small : (old now : LinkView) (place : Place) (have : ℕ) (object : List ℕ) → Receiving old now place have object
    → have ≤ 35651643
receiving-small old now place have object r = let small = short_len r.text r.short in omega (arith, r.long)

pub receiving-fresh : (old now : LinkView) (place : Place) (have : ℕ) (object : List ℕ) → Receiving old now place have object
    → IsSpent place → ⊥
receiving-fresh old now place have object r = not_spent place r.text object r.at

unfoldable pub receiving-more : (old mid new : LinkView) (before after : Place) (have count : ℕ) (object bytes : List ℕ)
    → Receiving old mid before have object → PieceRead mid new before after count bytes None
    → Receiving old new after (have + count) (object ++ bytes)
receiving-more old mid new before after have count object bytes r p =
    let z = p.read r.text object r.at in
    record {
      text = r.text ++ p.piece;
      grew = Grew-then r.grew p.grew;
      at = z.1;
      long = length-append r.text p.piece ∙ omega (arith, r.long, p.long);
      short = z.0;
      ended = p.ended ∙ r.ended;
      still = p.still ∙ r.still;
    }

pub receiving-whole : (old mid new : LinkView) (before after : Place) (have count : ℕ) (object bytes : List ℕ) (o : Outcome)
    → Receiving old mid before have object → PieceRead mid new before after count bytes (Some o)
    → (o.object ≡ []) × Given (ReplyIs (Ok (with_object o (object ++ bytes))) old new) old.given new.given
receiving-whole old mid new before after have count object bytes o r p =
    let z = p.read r.text object r.at in
    (z.0, record { bytes = r.text ++ p.piece; grew = Grew-then r.grew p.grew; is = (z.1, p.ended ∙ r.ended, p.still ∙ r.still) })

unfoldable pub receiving-memory : (old mid new : LinkView) (piece : List ℕ) (before : Place) (have : ℕ) (object : List ℕ)
    → Receiving old mid before have object → Grew mid.given new.given piece → new.ended ≡ mid.ended → Still mid.faults new.faults
    → Given (ReplyIs (Err Memory) old new) old.given new.given
receiving-memory old mid new piece before have object r grew ended still =
    record { bytes = r.text ++ piece; grew = Grew-then r.grew grew; is = (ended ∙ r.ended, still ∙ r.still) }

unfoldable pub receiving-stops : (old mid new : LinkView) (before : Place) (have : ℕ) (object : List ℕ) (stop : Stop)
    → Receiving old mid before have object → PieceStops have before mid new stop → Given (ReplyIs (Err stop) old new) old.given new.given
receiving-stops old mid new before have object (Broke Dial) r s = absurd s
receiving-stops old mid new before have object (Broke Send) r s = absurd s
receiving-stops old mid new before have object (Broke Recv) r s =
    record { bytes = r.text; grew = Grew-still r.grew s.0; is = (r.short, omega (arith, s.1, r.still), s.2 ∙ r.ended) }
receiving-stops old mid new before have object (Broke (Truncated bytes)) r s =
    record { bytes = r.text; grew = Grew-still r.grew s.0; is = (r.short, r.long ∙ s.1, s.2, s.3 ∙ r.still) }
receiving-stops old mid new before have object (Broke (BadReply at fault)) r s =
    record { bytes = r.text ++ s.0.0; grew = Grew-then r.grew s.0.1; is = (s.0.2 r.text object r.at, s.1 ∙ r.ended, s.2 ∙ r.still) }
receiving-stops old mid new before have object (Broke Stopped) r s = absurd s
receiving-stops old mid new before have object Memory r s = receiving-memory old mid new s.0.0 before have object r s.0.1 s.1 s.2

-- the last piece, whose bytes of the object were joined to the others
pub received-last : (old new : LinkView) (result : Result Outcome Stop) (joined whole_object : List ℕ) (o : Outcome)
    → IfOk result (λ same. (same ≡ o) × (joined ≡ whole_object)) → IfErr result (λ stop. stop ≡ Memory)
    → (o.object ≡ []) × Given (ReplyIs (Ok (with_object o whole_object)) old new) old.given new.given
    → Given (ReplyIs (Err Memory) old new) old.given new.given → Received result joined old new
received-last old new (Ok same) joined whole_object o ok err whole memory =
    subst (λ (x : Outcome × List ℕ). (x.0.object ≡ []) × Given (ReplyIs (Ok (with_object x.0 x.1)) old new) old.given new.given)
    (sym (ap (λ (a : Outcome). (a, joined)) ok.0 ∙ ap (λ (b : List ℕ). (o, b)) ok.1)) whole
received-last old new (Err stop) joined whole_object o ok err whole memory =
    subst (λ (s : Stop). Given (ReplyIs (Err s) old new) old.given new.given) (sym err) memory
