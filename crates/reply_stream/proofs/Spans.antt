-- The spans of a piece.
use Rattle.std.proofs.Common.{◌≡◌, ℕ, ◌+◌, ◌-◌, ◌^◌, ◌<◌, ◌≤◌, List, ◌++◌, length, take, drop, sym, ap, subst, ◌∙◌, arith}
use Rattle.std.proofs.lemmas.List.{append-nil, length-drop, take_all}
use Rattle.farm_types.specs.declared.ran.Outcome.{Outcome}
use Rattle.wire_tokens.specs.declared.faults.ReplyFault.{ReplyFault}
use Rattle.wire_tokens.specs.Format.{Stands}
use Rattle.wire_tokens.specs.Reply.{reply_format, SpellsReply}
use Rattle.reply_stream.specs.declared.answers.Span.{Span}
use Rattle.reply_stream.specs.declared.answers.Part.TheVariants as answers
use Rattle.reply_stream.specs.declared.partial.Partial.{Partial}
use Rattle.reply_stream.specs.declared.partial.Turn.{Turn}
use Rattle.reply_stream.specs.declared.partial.Turn.TheVariants.{More, Whole, Bad, Memory}
use Rattle.reply_stream.specs.Objects.{with_object, spanned}
use Rattle.reply_stream.specs.Taking.{IsPlaced, Says, TakesAll, EndsWithin, part_from, Runs, keeps, hands}
use Rattle.wire_tokens.proofs.PartialTokens.{join, join_all}

abbrev pub span_of : ℕ → ℕ → Span
span_of from to = record { from = from; to = to }

pub spanned-none : (i : ℕ) (object piece : List ℕ) → object ≡ object ++ spanned (span_of i i) piece
spanned-none i object piece =
    let none : i - i ≡ 0 = omega arith in
    sym (ap (λ (k : ℕ). object ++ take k (drop i piece)) none ∙ append-nil object)

pub spanned-some : (i k : ℕ) (piece : List ℕ) → take k (drop i piece) ≡ spanned (span_of i (i + k)) piece
spanned-some i k piece =
    let some : k ≡ i + k - i = omega arith in
    ap (λ (n : ℕ). take n (drop i piece)) some

-- ---- a piece as a head and bytes of the object

pub head-whole : (old new : Partial) (piece : List ℕ) (o : Outcome) (n : ℕ) → Says keeps old new piece (Whole o n)
    → Runs old new piece (answers.Whole n (span_of n n) o)
head-whole old new piece o n s = (
  s.0,
  record { ordered = omega arith; within = omega arith },
  s.1,
  λ text object g. subst (λ (x : List ℕ). SpellsReply (text ++ take n piece) (with_object o x)) (spanned-none n object piece)
      (s.2 text object g),
)

pub head-more : (old new : Partial) (piece : List ℕ) (n : ℕ) → Says keeps old new piece (More n) → n ≡ length piece
    → Runs old new piece (answers.More n (span_of n n))
head-more old new piece n s all = (
  all,
  record { ordered = omega arith; within = omega arith },
  s.1,
  λ text object g.
      let whole : take n piece ≡ piece = take_all n piece (omega arith) in
      let there : IsPlaced new (text ++ piece) object = subst (λ (x : List ℕ). IsPlaced new (text ++ x) object) whole (s.2 text object g) in
      subst (λ (x : List ℕ). IsPlaced new (text ++ piece) x) (spanned-none n object piece) there,
)

pub object-more : (old mid new : Partial) (piece : List ℕ) (i k : ℕ) → Says keeps old mid piece (More i)
    → Says (hands (drop i piece)) mid new (drop i piece) (More k) → k ≡ length (drop i piece)
    → Runs old new piece (answers.More (i + k) (span_of i (i + k)))
object-more old mid new piece i k first then all = (
  omega (arith, first.0, length-drop i piece),
  record { ordered = omega arith; within = omega arith },
  then.1,
  λ text object g.
      let there = then.2 (text ++ take i piece) object (first.2 text object g) in
      let whole : take k (drop i piece) ≡ drop i piece = take_all k (drop i piece) (omega arith) in
      let text_is : (text ++ take i piece) ++ take k (drop i piece) ≡ text ++ piece =
      ap (λ (x : List ℕ). (text ++ take i piece) ++ x) whole ∙ join_all text piece i in
      subst (λ (x : List ℕ × List ℕ). IsPlaced new x.0 (object ++ x.1))
      (ap (λ (x : List ℕ). (x, take k (drop i piece))) text_is ∙ ap (λ (x : List ℕ). (text ++ piece, x)) (spanned-some i k piece)) there,
)

pub object-whole : (old mid new : Partial) (piece : List ℕ) (i k : ℕ) (o : Outcome) → Says keeps old mid piece (More i)
    → Says (hands (drop i piece)) mid new (drop i piece) (Whole o k) → Runs old new piece (answers.Whole (i + k) (span_of i (i + k)) o)
object-whole old mid new piece i k o first then = (
  omega (arith, first.0, then.0, length-drop i piece),
  record { ordered = omega arith; within = omega arith },
  then.1,
  λ text object g.
      let there = then.2 (text ++ take i piece) object (first.2 text object g) in
      subst (λ (x : List ℕ × List ℕ). SpellsReply x.0 (with_object o (object ++ x.1)))
      (ap (λ (x : List ℕ). (x, take k (drop i piece))) (join text piece i k)
      ∙ ap (λ (x : List ℕ). (text ++ take (i + k) piece, x)) (spanned-some i k piece)) there,
)

pub object-bad : (old mid new : Partial) (piece : List ℕ) (i at : ℕ) (fault : ReplyFault) → Says keeps old mid piece (More i)
    → Says (hands (drop i piece)) mid new (drop i piece) (Bad at fault) → Runs old new piece (answers.Bad at fault)
object-bad old mid new piece i at fault first then = λ text object g.
    subst (λ (x : List ℕ). Stands reply_format x at fault) (join_all text piece i)
    (then (text ++ take i piece) object (first.2 text object g))

-- a piece whose head was taken before so many bytes of the object
pub object-part : (old mid new : Partial) (piece : List ℕ) (i : ℕ) (turn : Turn) → Says keeps old mid piece (More i)
    → Says (hands (drop i piece)) mid new (drop i piece) turn → TakesAll (drop i piece) turn → Runs old new piece (part_from i turn)
object-part old mid new piece i (More k) first then all = object-more old mid new piece i k first then all
object-part old mid new piece i (Whole o k) first then all = object-whole old mid new piece i k o first then
object-part old mid new piece i (Bad at fault) first then all = object-bad old mid new piece i at fault first then
object-part old mid new piece i Memory first then all = tt

pub ends-within : (grown : ℕ → List ℕ → List ℕ) (mid new : Partial) (piece : List ℕ) (i : ℕ) (turn : Turn) → i ≤ length piece
    → length piece < 2 ^ 64 → Says grown mid new (drop i piece) turn → EndsWithin i turn
ends-within grown mid new piece i (More k) fits small says = let within = says.0 in omega (arith, length-drop i piece)
ends-within grown mid new piece i (Whole o k) fits small says = let within = says.0 in omega (arith, length-drop i piece)
ends-within grown mid new piece i (Bad at fault) fits small says = tt
ends-within grown mid new piece i Memory fits small says = tt
