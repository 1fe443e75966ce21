-- What a reader says of the text that it was given.
use Rattle.std.proofs.Common.{◌≡◌, ℕ, ◌+◌, ◌≤◌, List, [], ◌++◌, length, take, sym, ap, subst, ◌∙◌, append_assoc, arith, inl, inr}
use Rattle.std.proofs.lemmas.List.{append-nil, length-append, nil_from_length}
use Rattle.std.proofs.Math.Seq.{take-append-add}
use Rattle.farm_types.specs.declared.ran.Outcome.{Outcome}
use Rattle.wire_tokens.specs.Step.{step_of, wants}
use Rattle.wire_tokens.specs.Reply.{reply_format, SpellsReply, BeginsReply, IsShortReply}
use Rattle.wire_tokens.proofs.Steps.{step-short}
use Rattle.wire_tokens.proofs.PartialTokens.{body-wanted}
use Rattle.wire_tokens.proofs.Readings.{short}
use Rattle.wire_tokens.proofs.Progress.{progress-reads}
use Rattle.wire_tokens.proofs.Texts.{reads-short}
use Rattle.wire_tokens.proofs.Reply.{four_reply, reply_spelling}
use Rattle.reply_stream.specs.declared.partial.Partial.{Partial}
use Rattle.reply_stream.specs.Taking.{fields_of, bytes_of, due_in, IsPlaced, Holds}
use Rattle.reply_stream.proofs.Finishing.{due_is}

-- no field and no fault
pub wants_more : (p : Partial) → Holds p → (object : List ℕ) → length object ≡ p.given
    → step_of reply_format (due_in p) (bytes_of p ++ object) ≡ wants
wants_more p h object given =
    elim h.phase [
      | inl t ↦
          let none : object ≡ [] = nil_from_length object (given ∙ t.none_given) in
          let same : bytes_of p ++ object ≡ p.token = ap (λ (x : List ℕ). bytes_of p ++ x) none ∙ append-nil (bytes_of p)
          ∙ ap (λ (x : List ℕ). p.token ++ x) t.no_body ∙ append-nil p.token in
          ap (step_of reply_format (due_in p)) same ∙ step-short reply_format (due_in p) p.token t.token.short
      | inr b ↦
          let missing = b.missing in
          let some = b.some_left in
          ap (step_of reply_format (due_in p)) (append_assoc p.token p.body object)
          ∙ body-wanted reply_format (due_in p) p.token (p.body ++ object) p.number
          (four_reply (fields_of p) (due_in p) (due_is p h.counts)) b.token
          (omega (arith, length-append p.body object))
    ]

pub short_there : (p : Partial) → Holds p → (text object : List ℕ) → IsPlaced p text object → IsShortReply text
short_there p h text object g =
    reads-short reply_format SpellsReply reply_spelling text (fields_of p)
    (progress-reads reply_format text (fields_of p) (bytes_of p ++ object) short g.progress
    (due_in p, due_is p h.counts, wants_more p h object g.given))

pub spelled_begins : (text piece : List ℕ) (taken : ℕ) (o : Outcome) → taken ≤ length piece
    → SpellsReply (text ++ take taken piece) o → BeginsReply (text ++ piece) (length text + taken) o
spelled_begins text piece taken o fits s = record {
  within = omega (arith, length-append text piece);
  spelled = subst (λ (x : List ℕ). SpellsReply x o) (sym (take-append-add text piece taken)) s;
}
