-- What a reader says of the text that it was given.
use Rattle.std.proofs.Common.{◌≡◌, ℕ, ◌+◌, ◌≤◌, List, ◌++◌, length, take, sym, ap, subst, ◌∙◌, arith, inl, inr}
use Rattle.std.proofs.lemmas.List.{append-nil, length-append}
use Rattle.std.proofs.Math.Seq.{take-append-add}
use Rattle.farm_types.specs.declared.request.Request.{Request}
use Rattle.wire_tokens.specs.Step.{step_of, wants}
use Rattle.wire_tokens.specs.Request.{request_format, SpellsRequest, BeginsRequest, IsShortRequest}
use Rattle.wire_tokens.proofs.Steps.{step-short}
use Rattle.wire_tokens.proofs.PartialTokens.{body-wanted}
use Rattle.wire_tokens.proofs.Readings.{short}
use Rattle.wire_tokens.proofs.Progress.{progress-reads}
use Rattle.wire_tokens.proofs.Texts.{reads-short}
use Rattle.wire_tokens.proofs.Request.{four_request, request_spelling}
use Rattle.compile_request.specs.declared.partial.Partial.{Partial}
use Rattle.compile_request.specs.Taking.{fields_of, bytes_of, due_in, IsPlaced, Holds}
use Rattle.compile_request.proofs.Finishing.{due_is}

-- no field and no fault
wants_more : (p : Partial) → Holds p → step_of request_format (due_in p) (bytes_of p) ≡ wants
wants_more p h =
    elim h.phase [
      | inl t ↦
          let same : bytes_of p ≡ p.token = ap (λ (x : List ℕ). p.token ++ x) t.no_body ∙ append-nil p.token in
          ap (step_of request_format (due_in p)) same ∙ step-short request_format (due_in p) p.token t.token.short
      | inr b ↦
          let missing = b.missing in
          let some = b.some_left in
          body-wanted request_format (due_in p) p.token p.body p.number (four_request (fields_of p) (due_in p) (due_is p h.counts))
          b.token (omega arith)
    ]

pub short_there : (p : Partial) → Holds p → (text : List ℕ) → IsPlaced p text → IsShortRequest text
short_there p h text g = reads-short request_format SpellsRequest request_spelling text (fields_of p)
    (progress-reads request_format text (fields_of p) (bytes_of p) short g (due_in p, due_is p h.counts, wants_more p h))

pub spelled_begins : (text piece : List ℕ) (taken : ℕ) (q : Request) → taken ≤ length piece
    → SpellsRequest (text ++ take taken piece) q → BeginsRequest (text ++ piece) (length text + taken) q
spelled_begins text piece taken q fits s = record {
  within = omega (arith, length-append text piece);
  spelled = subst (λ (x : List ℕ). SpellsRequest x q) (sym (take-append-add text piece taken)) s;
}
