use Rattle.std.proofs.Common.{ℕ, List, [], ◌∷◌, ◌++◌, length, Err, refl, sym, ap, ◌∙◌, inr, arith}
use Rattle.wire_tokens.specs.declared.faults.RequestFault.{RequestFault}
use Rattle.wire_tokens.specs.Format.{Due}
use Rattle.wire_tokens.specs.Partial.{place_in_token, fault_in}
use Rattle.wire_tokens.specs.Request.{request_format}
use Rattle.wire_tokens.proofs.Steps.{step-refused}
use Rattle.wire_tokens.proofs.PartialTokens.{so_far-is, so_far-number, so_far-refuses, token-due}
use Rattle.wire_tokens.proofs.Request.{four_request}
use Rattle.compile_request.specs.declared.partial.Partial.{Partial}
use Rattle.compile_request.specs.Taking.{fields_of, due_in}
use Rattle.compile_request.proofs.Finishing.{due_is}
use Rattle.compile_request.proofs.Bytewise.{in_token, placed_more, token_more, fault_stands, finished}
use Rattle.compile_request.proofs.partial.token_byte.Goals as goal

pub returns-in-Err-clause-says : goal.returns-in-Err-clause-says
returns-in-Err-clause-says c text g =
    let p : Partial = c.args.p.now in
    let due : Due RequestFault = due_in p in
    let token : List ℕ = c.take.new.self in
    let read =
    so_far-is c.name_of.result.0 due.name token c.take.result (Err c.in-Err.fault) (c.name_of.ensures p.together) c.take.ensures.number
    c.in-Err.is in
    let step = so_far-refuses request_format due token c.in-Err.fault read in
    rw (c.from.ensures, c.at.ensures, c.from-in-Err.ensures)
    (fault_stands p token c.args.byte c.place-at.result (place_in_token c.in-Err.fault) (fault_in request_format c.in-Err.fault)
    c.requires.holds c.requires.in_token c.take.ensures.bytes c.place-at.ensures.place step text g)

pub returns-in-Some-clause-says : goal.returns-in-Some-clause-says
returns-in-Some-clause-says c text g =
    let p : Partial = c.args.p.now in
    let due : Due RequestFault = due_in p in
    let token : List ℕ = c.take.new.self in
    let n : ℕ = c.in-Ok-Some.n in
    let scan =
    so_far-number c.name_of.result.0 due.name token c.take.result c.in-Ok-Some.field-0 n (c.name_of.ensures p.together)
    c.take.ensures.number c.in-Ok-Some.is c.in-Ok-Some.field-0-is in
    let step = step-refused request_format due token n c.in-Some.fault scan (sym c.refusal.ensures ∙ c.in-Some.is) in
    fault_stands p token c.args.byte c.place-at.result 11 c.in-Some.fault c.requires.holds c.requires.in_token
    c.take.ensures.bytes c.place-at.ensures.place step text g

pub finish-requires : goal.finish-requires
finish-requires c =
    let p : Partial = c.args.p.now in
    let h = c.requires.holds in
    let due : Due RequestFault = due_in p in
    let token : List ℕ = c.take.new.self in
    let n : ℕ = c.in-Ok-Some.n in
    let t = in_token p h c.requires.in_token in
    let scan =
    so_far-number c.name_of.result.0 due.name token c.take.result c.in-Ok-Some.field-0 n (c.name_of.ensures p.together)
    c.take.ensures.number c.in-Ok-Some.is c.in-Ok-Some.field-0-is in
    let right = sym c.refusal.ensures ∙ c.in_default.is in
    let four = four_request (fields_of p) due (due_is p h.counts) in
    record {
      counts = record { at_part = h.counts.at_part; sum = h.counts.sum; small = h.counts.small };
      token = token-due due p.token token c.args.byte n four t.token c.take.ensures.bytes scan right;
      no_more = omega (arith, c.body_len-p.ensures p.together, ap length t.no_body);
    }

pub returns-then-p-gt0-clause-says : goal.returns-then-p-gt0-clause-says
returns-then-p-gt0-clause-says c =
    let p : Partial = c.args.p.now in
    let h = c.requires.holds in
    let due : Due RequestFault = due_in p in
    let token : List ℕ = c.take.new.self in
    let n : ℕ = c.in-Ok-Some.n in
    let t = in_token p h c.requires.in_token in
    let scan =
    so_far-number c.name_of.result.0 due.name token c.take.result c.in-Ok-Some.field-0 n (c.name_of.ensures p.together)
    c.take.ensures.number c.in-Ok-Some.is c.in-Ok-Some.field-0-is in
    let right = sym c.refusal.ensures ∙ c.in_default.is in
    let four = four_request (fields_of p) due (due_is p h.counts) in
    let more = ap (λ (x : List ℕ). x ++ p.body) c.take.ensures.bytes ∙ token_more p.token p.body c.args.byte t.no_body in (
      omega arith,
      record {
        counts = record { at_part = h.counts.at_part; sum = h.counts.sum; small = h.counts.small };
        phase = inr (record {
          token = token-due due p.token token c.args.byte n four t.token c.take.ensures.bytes scan right;
          missing = omega (arith, c.body_len-p.ensures p.together, ap length t.no_body);
          some_left = c.if-p-gt0.true;
        });
      },
      λ text g. placed_more p (record p { token = token; number = n; left = c.body_len-p.result }) (c.args.byte ∷ []) refl more text g,
    )

pub returns-else-p-gt0-clause-says : goal.returns-else-p-gt0-clause-says
returns-else-p-gt0-clause-says c =
    let p : Partial = c.args.p.now in
    let mid : Partial = record p { token = c.take.new.self; number = c.in-Ok-Some.n; left = c.body_len-p.result } in
    let t = in_token p c.requires.holds c.requires.in_token in
    let more = ap (λ (x : List ℕ). x ++ p.body) c.take.ensures.bytes ∙ token_more p.token p.body c.args.byte t.no_body in
    finished p mid c.finish.new.p (c.args.byte ∷ []) 1 c.finish.result (omega arith)
    (λ text g. placed_more p mid (c.args.byte ∷ []) refl more text g) c.finish.ensures
