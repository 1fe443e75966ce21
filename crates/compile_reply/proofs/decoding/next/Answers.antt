use Rattle.std.proofs.Common.{◌≡◌, ℕ, List, take, drop, None, sym, ap, ◌∙◌}
use Rattle.wire_tokens.specs.Scan.{scan_of}
use Rattle.wire_tokens.specs.Format.{body_len}
use Rattle.wire_tokens.specs.Reply.{reply_format}
use Rattle.wire_tokens.specs.declared.token.Scan.TheVariants.{Number}
use Rattle.wire_tokens.proofs.Steps.{next-takes}
use Rattle.compile_reply.specs.Decoding.{due_of}
use Rattle.compile_reply.proofs.decoding.next.Goals as goal

pub returns-else-rest-len-clause-exact : goal.returns-else-rest-len-clause-exact
returns-else-rest-len-clause-exact c =
    let rest : List ℕ = c.args.rest.now in
    let n : ℕ = c.in-Number.n in
    let scan : scan_of (due_of c.args.part).name rest ≡ Number n = ap (λ (x : List ℕ). scan_of x rest) (sym c.name_of.ensures)
    ∙ sym c.scan_token.ensures.scan ∙ c.in-Number.is in
    let right : (due_of c.args.part).refused n ≡ None = sym c.refusal.ensures ∙ c.in_default.is in
    let len : c.body_len-len.result ≡ body_len (due_of c.args.part) n = c.body_len-len.ensures in
    let first = c.split_at.ensures.back in
    let body = c.split_at-in-Number.ensures.front in
    let after = c.split_at-in-Number.ensures.back in
    next-takes reply_format c.args.text.now (due_of c.args.part) rest n _ _ scan right (rw (← len) c.if-rest-len.false)
    (body ∙ ap (λ (x : List ℕ). take c.body_len-len.result x) first ∙ ap (λ (k : ℕ). take k (drop 12 rest)) len)
    (after ∙ ap (λ (x : List ℕ). drop c.body_len-len.result x) first ∙ ap (λ (k : ℕ). drop k (drop 12 rest)) len)
